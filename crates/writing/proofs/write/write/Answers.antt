use Rattle.std.proofs.Common.{length, refl, arith}
use Rattle.std.proofs.lemmas.Bool.Decides.{nat_tests}
use Rattle.part.specs.Meaning.{protected_at}
use Rattle.least.proofs.Answered.{writes_answered}
use Rattle.planner.proofs.Waiting.{polled_out, polled-short}
use Rattle.writing.specs.Wrote.{no_limit, outside, still_busy, waited}
use Rattle.writing.proofs.write.write.Goals as goal

pub returns-then-not-is_limit : goal.returns-then-not-is_limit
returns-then-not-is_limit g c = no_limit (grind (arith, nat_tests)) refl (refl, refl)

pub returns-then-not-is_inside : goal.returns-then-not-is_inside
returns-then-not-is_inside g c = outside (grind (arith, nat_tests)) (grind (arith, nat_tests)) refl (refl, refl)

pub returns-then-not-wait : goal.returns-then-not-wait
returns-then-not-wait g c =
    let w = c.if-not-wait.ensures in
    let p = polled-short _ g.met.P.Part.stays g.met.P.Part.joins _ _ _ w.idle w.polls in
    still_busy (grind (arith, nat_tests)) (grind (arith, nat_tests)) p.0 p.1 (refl, refl)

pub returns : goal.returns
returns g c =
    let w = c.if-not-wait.ensures in
    let p = polled_out _ g.met.P.Part.stays g.met.P.Part.joins _ _ _ w.idle w.polls in
    let n = g.P.Part.meaning c.wait.new.part in
    let says = writes_answered n.shape (protected_at n) n.image (g.met.P.Part.sound _).imaged c.args.address c.args.bytes.now
    (λ i. (c.type_inv.bytes i).fits) (length c.args.steps.now) (length c.args.data.now) in
    waited (grind (arith, nat_tests)) (grind (arith, nat_tests)) p.0 p.1 says c.carry_out.ensures
