use Rattle.std.proofs.Common.{◌≡◌, ℕ, ◌*◌, ◌<◌, get_or}
use Rattle.least.specs.Cost.{sum_to}
use Rattle.least.specs.Fewest.{fewest}
use Rattle.least.specs.Sectors.{over_sector, sector_cost}
use Rattle.planner.specs.declared.chosen.Treatment.TheVariants.{Kept}
use Rattle.planner.specs.Asking.{for_sectors}
use Rattle.planner.specs.Looking.{LookedBy}
use Rattle.planner.specs.Survey.{UpTo, kept, preset, preset_on, sector_treatment}
use Rattle.planner.proofs.choice.sector_costs.Given as goal

abbrev pub invariant-loop-k : goal.invariant-loop-k
invariant-loop-k g l =
    let m = g.P.Part.meaning l.initial.part in
    let a = l.write.address in
    let b = l.write.bytes.now in
    LookedBy g.P.Part (for_sectors m a b l.k) l.initial.part l.part
    × UpTo (4097 * l.k) l.costs.cost × UpTo (2048 * l.k) l.costs.presets
    × (l.costs.cost ≡ sum_to fewest l.k (sector_cost fewest m.shape (kept m a b) (preset m a b)))
    × ((i : ℕ) → i < l.k → get_or l.marks i Kept ≡ sector_treatment m a b i)
    × (l.costs.presets ≡ sum_to fewest l.k (over_sector fewest m.shape (preset_on m a b)))
