use Rattle.std.proofs.Common.{◌≡◌, ◌≤◌, replicate}
use Rattle.port.specs.Build.{status_frame}
use Rattle.driver.specs.Driving.{lowered}
use Rattle.driver.proofs.poll.wait.Given as goal

abbrev pub invariant-loop-made : goal.invariant-loop-made
invariant-loop-made g l =
    (l._made ≤ (g.P.Port.chip l.initial.port).busy)
    × (g.P.Port.chip l.port ≡ lowered l._made (g.P.Port.chip l.initial.port))
    × g.P.Port.trace l.initial.port l.port (replicate l._made status_frame)
