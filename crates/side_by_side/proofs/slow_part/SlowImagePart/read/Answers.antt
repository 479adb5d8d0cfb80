use Rattle.std.proofs.Common.{refl}
use Rattle.side_by_side.proofs.Slows.{slow_read}
use Rattle.side_by_side.proofs.slow_part.SlowImagePart.read.Goals as goal

pub returns-clause-trace : goal.returns-clause-trace
returns-clause-trace c = (slow_read c.args.self.now c.read.new.self c.args.address _ c.read.result c.read.ensures.result c.read.ensures.same, refl)
