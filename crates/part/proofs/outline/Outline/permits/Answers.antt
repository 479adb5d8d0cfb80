use Rattle.std.proofs.Common.{sym, ◌∙◌}
use Rattle.part.proofs.Guards.{permits-guards}
use Rattle.part.specs.Outline.{outlined}
use Rattle.part.proofs.outline.Outline.permits.Goals as goal

pub returns : goal.returns
returns c = let o = c.args.self.now in c.permits.ensures.value ∙ sym (permits-guards (outlined o) o.status.bits o.geometry.sectors c.args.kind c.args.address)
