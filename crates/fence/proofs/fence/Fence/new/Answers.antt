use Rattle.std.proofs.Common.{refl}
use Rattle.fence.specs.Closed.{none_closed}
use Rattle.fence.proofs.fence.Fence.new.Goals as goal

pub returns : goal.returns
unfolding none_closed
returns g c = refl
