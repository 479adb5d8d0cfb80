use Rattle.std.proofs.Common.{sym, ◌∙◌}
use Rattle.part.proofs.Guards.{guard_at}
use Rattle.part.proofs.outline.Outline.protects.Goals as goal

pub returns : goal.returns
returns c = let o = c.args.self.now in c.protects.ensures ∙ sym (guard_at o.status.bits o.geometry.sectors c.args.sector)
