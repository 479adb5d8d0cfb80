use Rattle.std.proofs.Common.{◌<◌, length, refl, arith}
use Rattle.calls.proofs.Histories.{so_far_none, so_far_next, records_next, rest_next}
use Rattle.calls.proofs.perform.perform.Goals as goal

pub loop-entry-init : goal.loop-entry-init
loop-entry-init g c = (tt, refl, rw c.new-fence.ensures (so_far_none _ _ _ _))

pub loop-entry-preserved : goal.loop-entry-preserved
loop-entry-preserved g c =
    let inv = c.loop-entry.invariant in
    let made = c.make-answer.ensures in
    let long = c.loop-entry.auto.entries in
    let inside : c.loop-entry.entry-index < length c.loop-entry.entries = omega (arith, c.loop-entry-test.true, long) in (
      records_next _ _ _ c.entry-item.result _ inside long inv.1 inv.0 (record { answer = c.make-answer.result; answered = refl; made = made.made }),
      rest_next _ _ _ c.entry-item.result _ inside long inv.1,
      so_far_next _ _ _ _ _ _ _ _ _ _ inside inv.2 made.follows,
    )
