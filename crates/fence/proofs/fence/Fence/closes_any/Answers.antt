use Rattle.std.proofs.Common.{not, sym, refl, ap, ◌∙◌, arith, rules}
use Rattle.std.proofs.Math.Bool.{not-not}
use Rattle.std.proofs.lemmas.Iterator.{YieldsList-from_range}
use Rattle.std.proofs.lemmas.Iterator.Search.{any_from_yields_List}
use Rattle.memory.specs.Protection.{free}
use Rattle.memory.proofs.Free.{free_is}
use Rattle.fence.specs.Closed.{is_closed}
use Rattle.fence.proofs.fence.Fence.closes_any.Goals as goal

pub returns : goal.returns
returns g c =
    let closed = is_closed c.args.self.now.closed in
    sym (not-not _)
    ∙ ap not
    (ap not (any_from_yields_List closed _ _ _ c.any.ensures.ran (YieldsList-from_range 0 c.sectors.result c.sectors.result refl (omega arith)) (λ x b q k. search rules))
    ∙ free_is closed c.sectors.result ∙ ap (free closed) c.sectors.ensures)
