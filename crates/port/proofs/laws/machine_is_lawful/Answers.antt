use Rattle.std.proofs.Common.{refl}
use Rattle.port.proofs.Lawful.{lawful}
use Rattle.port.proofs.laws.machine_is_lawful.Goals as goal

pub returns : goal.returns
returns c = (lawful, refl)
