use Rattle.std.proofs.Common.{refl, ap}
use Rattle.part.specs.Meaning.{Meaning}
use Rattle.part.proofs.Telling.{tells_read}
use Rattle.fence.specs.Closed.{fenced}
use Rattle.fence.proofs.fence_part.FencePart.read.Goals as goal

pub returns-clause-trace : goal.returns-clause-trace
returns-clause-trace g c =
    let f = c.args.self.now in
    let e = c.read.ensures in
    (refl, e.trace, tells_read _ _ c.args.address _ c.read.result e.result (ap (λ (m : Meaning). fenced m f.closed) e.same))
