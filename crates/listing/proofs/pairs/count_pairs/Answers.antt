use Rattle.std.proofs.Common.{◌≡◌, ◌+◌, ◌/◌, drop, sym, ap, ◌∙◌, Err, arith}
use Rattle.listing.specs.Values.{values, tallied}
use Rattle.listing.proofs.Drops.{pair_at}
use Rattle.listing.proofs.Spelling.{values_none, values_last, values_more, values-broken, tallied-before}
use Rattle.listing.proofs.pairs.count_pairs.Goals as goal

pub returns-in_default : goal.returns-in_default
returns-in_default c =
    let t = c.args.pairs.now in
    let n = pair_at t c.loop-at.at c.in_default.ensures.value in
    ap Err c.after.ensures ∙ sym (c.loop-at.invariant.0 ∙ ap (tallied (c.loop-at.at / 3)) (values_none t c.loop-at.at n))

pub returns-in-None : goal.returns-in-None
returns-in-None c =
    let t = c.args.pairs.now in
    let v = pair_at t c.loop-at.at c.in-Some.ensures.value in
    sym (c.loop-at.invariant.0 ∙ ap (tallied (c.loop-at.at / 3)) (values_last t c.loop-at.at c.in-Some.field-0 v c.in-None.ensures.lookup.3))

pub returns-in-Some-get : goal.returns-in-Some-get
returns-in-Some-get c =
    let t = c.args.pairs.now in
    let v = pair_at t c.loop-at.at c.in-Some.ensures.value in
    let l = c.in-Some-get.ensures.lookup.3 in
    ap Err c.after-in-Some-get.ensures ∙ sym (c.loop-at.invariant.0 ∙ ap (tallied (c.loop-at.at / 3)) (values-broken t c.loop-at.at c.in-Some.field-0 v l.0 (λ e. c.in-Some-get.field-0-test.1 (l.1 0 ∙ e))))

pub loop-at-preserved : goal.loop-at-preserved
loop-at-preserved c =
    let t = c.args.pairs.now in
    let v = pair_at t c.loop-at.at c.in-Some.ensures.value in
    let l = c.in-Some-eq32.ensures.lookup.3 in
    let s = sym (l.1 0) ∙ c.in-Some-eq32.field-0-test in
    let q : c.loop-at.at / 3 + 1 ≡ (c.loop-at.at + 3) / 3 = omega arith in (
      c.loop-at.invariant.0
          ∙ ap (tallied (c.loop-at.at / 3)) (values_more t c.loop-at.at c.in-Some.field-0 v l.0 s)
          ∙ tallied-before (c.loop-at.at / 3) c.in-Some.field-0 (values (c.loop-at.at + 3) (drop (c.loop-at.at + 3) t))
          ∙ ap (λ n. tallied n (values (c.loop-at.at + 3) (drop (c.loop-at.at + 3) t))) q,
      omega arith,
      omega arith,
    )
