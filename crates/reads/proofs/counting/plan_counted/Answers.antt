use Rattle.std.proofs.Common.{arith}
use Rattle.planner.proofs.Lookings.{pages_most, size_is}
use Rattle.reads.proofs.counting.plan_counted.Goals as goal

pub returns-clause-asked : goal.returns-clause-asked
returns-clause-asked g c =
    let look = c.plan-plan.ensures.asked.asked in
    let m = g.P.Part.meaning c.args.part.now.inner in
    let sound = g.met.P.Part.sound c.args.part.now.inner in
    (look.0, look.1.0, look.2, look.3, omega (arith, look.1.1, look.4, size_is m sound, pages_most m sound))

pub returns-clause-most : goal.returns-clause-most
returns-clause-most g c =
    let look = c.plan-plan.ensures.asked.asked in
    let m = g.P.Part.meaning c.args.part.now.inner in
    let sound = g.met.P.Part.sound c.args.part.now.inner in
    omega (arith, look.1.1, look.4, size_is m sound, pages_most m sound)
