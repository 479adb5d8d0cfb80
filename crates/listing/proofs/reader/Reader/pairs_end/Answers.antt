use Rattle.std.proofs.Common.{◌≡◌, ◌+◌, drop, Err, sym, refl, ap, ◌∙◌, arith}
use Rattle.std.proofs.lemmas.List.{take_rest}
use Rattle.listing.specs.Scan.{pairs, refused, goes_on}
use Rattle.listing.proofs.Drops.{pair_at, reaches}
use Rattle.listing.proofs.Turns.{pairs_none, pairs_on, pairs_off}
use Rattle.listing.proofs.reader.Reader.pairs_end.Goals as goal

pub returns-in_default : goal.returns-in_default
returns-in_default c =
    let t = c.args.self.now.rest.now in
    ap (refused c.args.self.now.line) (c.loop-at.invariant.0 ∙ pairs_none t c.loop-at.at (pair_at t c.loop-at.at c.in_default.ensures.value))
    ∙ ap Err (sym c.stuck.ensures)

pub returns-then-not-goes_on : goal.returns-then-not-goes_on
returns-then-not-goes_on c =
    let t = c.args.self.now.rest.now in
    let v = pair_at t c.loop-at.at c.in-Some.ensures.value in
    let g = sym (c.if-not-goes_on.ensures.value ∙ ap goes_on (take_rest t (c.loop-at.at + 2))) in
    let w = reaches t c.loop-at.at 2 (omega arith) c.in-Some.ensures.within in
    (c.loop-at.invariant.0 ∙ pairs_off t c.loop-at.at c.in-Some.field-0 v g, omega arith, w)

pub loop-at-preserved : goal.loop-at-preserved
loop-at-preserved c =
    let t = c.args.self.now.rest.now in
    let v = pair_at t c.loop-at.at c.in-Some.ensures.value in
    let g = sym (c.if-not-goes_on.ensures.value ∙ ap goes_on (take_rest t (c.loop-at.at + 2))) in
    let w = reaches t (c.loop-at.at + 2) 1 (omega arith) (c.if-not-goes_on.ensures.within refl) in
    let h : c.loop-at.at + 3 ≡ c.loop-at.at + 2 + 1 = omega arith in
    (c.loop-at.invariant.0 ∙ pairs_on t c.loop-at.at c.in-Some.field-0 v g ∙ ap (λ n. pairs n (drop n t)) h, w)
