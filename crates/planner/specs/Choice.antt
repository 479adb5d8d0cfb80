-- The choice of least cost.
use Rattle.std.specs.Prelude.{◌≡◌, ℕ, ◌<◌, true, false, List, slice_index_or}
use Rattle.memory.specs.Protection.{free}
use Rattle.part.specs.Meaning.{Meaning, protected_at}
use Rattle.planner.specs.declared.chosen.Choice.{Choice}
use Rattle.planner.specs.declared.chosen.Treatment.TheVariants.{Kept}
use Rattle.planner.specs.declared.chosen.Erasure.{Erasure}
use Rattle.planner.specs.declared.chosen.Erasure.TheVariants.{All, Sectors}
use Rattle.least.specs.Fewest.{fewest}
use Rattle.least.specs.Sectors.{chosen_cost}
use Rattle.planner.specs.Survey.{erases_all, kept, preset, sector_treatment}

-- all is erased first, or not all, and the marks are those of the sectors
abbrev pub Erased : Meaning → ℕ → List ℕ → Erasure → Type 0
Erased m address bytes All = erases_all m address bytes ≡ true
Erased m address bytes (Sectors marks) =
    (erases_all m address bytes ≡ false)
    × ((k : ℕ) → k < m.shape.sectors → slice_index_or marks k Kept ≡ sector_treatment m address bytes k)

pub record Chosen (m : Meaning) (address : ℕ) (bytes : List ℕ) (c : Choice) : Type 0 where
  pub erasure : Erased m address bytes c.erasure
  pub cost :
      c.cost
      ≡ chosen_cost fewest m.shape (free (protected_at m) m.shape.sectors) (kept m address bytes) (preset m address bytes)
