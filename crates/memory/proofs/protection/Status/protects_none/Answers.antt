use Rattle.std.proofs.Common.{sym}
use Rattle.memory.proofs.Free.{free-protects}
use Rattle.memory.proofs.protection.Status.protects_none.Goals as goal

pub returns-clause-free : goal.returns-clause-free
returns-clause-free c = λ s h. sym (free-protects c.args.self.bits s c.args.self.byte h)
