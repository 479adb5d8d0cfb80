use Rattle.std.proofs.Common.{refl, ap}
use Rattle.part.specs.Meaning.{Meaning}
use Rattle.part.proofs.Telling.{tells_poll}
use Rattle.fence.specs.Closed.{fenced}
use Rattle.fence.proofs.fence_part.FencePart.poll.Goals as goal

pub returns-clause-trace : goal.returns-clause-trace
returns-clause-trace g c =
    let f = c.args.self.now in
    let e = c.poll.ensures in
    (refl, e.trace, tells_poll _ _ (ap (λ (m : Meaning). fenced m f.closed) e.waited))
