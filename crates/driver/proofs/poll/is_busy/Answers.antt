use Rattle.std.proofs.Common.{not, ap}
use Rattle.driver.proofs.Hearing.{wip}
use Rattle.driver.proofs.poll.is_busy.Goals as goal

pub returns-clause-busy : goal.returns-clause-busy
returns-clause-busy g c =
    ap not (wip c.status.result (g.P.Port.chip c.args.port.now) (g.met.P.Port.sound c.args.port.now).0.steady c.status.ensures.byte)
