use Rattle.std.proofs.Common.{arith}
use Rattle.planner.proofs.Askings.{planning_most, planning_to_most}
use Rattle.planner.proofs.Lookings.{looked_most, size_is}
use Rattle.planner.proofs.plan.plan.Goals as goal

pub returns-clause-asked : goal.returns-clause-asked
returns-clause-asked g c =
    let m = g.P.Part.meaning c.args.part.now in
    looked_most g.P.Part _ _ _ _ c.plan_inside.ensures.looked
    (omega (arith, planning_to_most m c.args.address c.args.bytes.now c.plan_inside.result, planning_most m c.args.address c.args.bytes.now, size_is m (g.met.P.Part.sound c.args.part.now)))
