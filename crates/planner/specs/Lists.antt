-- The cycles of a choice, page by page.
use Rattle.std.specs.Prelude.{ℕ, ◌+◌, ◌*◌, List, ◌∷◌, slice_index_or}
use Rattle.memory.specs.Cycle.{Cycle, sector_erase, bulk_erase}
use Rattle.part.specs.Meaning.{Meaning}
use Rattle.least.specs.Plan.{keep_cycles, presets, list_to}
use Rattle.planner.specs.declared.chosen.Treatment.{Treatment}
use Rattle.planner.specs.declared.chosen.Treatment.TheVariants.{Kept, Erased}
use Rattle.planner.specs.Wanted.{wanted}

module _ (m : Meaning) (address : ℕ) (bytes : List ℕ) where
  -- page q as it stands, and once erased
  abbrev pub page_list : Treatment → ℕ → List Cycle
  page_list Kept q = keep_cycles 64 m.image (wanted m address bytes) q
  page_list Erased q = presets 64 (wanted m address bytes) q

  -- n pages from page q on
  abbrev pub pages_list : Treatment → ℕ → ℕ → List Cycle
  pages_list treatment q n = list_to n (λ j. page_list treatment (q + j))

  -- those of sector k, and an erase before them where they are erased
  abbrev pub sector_list : Treatment → ℕ → List Cycle
  sector_list Kept k = pages_list Kept (k * m.shape.pages) m.shape.pages
  sector_list Erased k = sector_erase (k * m.shape.pages * 64) ∷ pages_list Erased (k * m.shape.pages) m.shape.pages

  abbrev pub bulk_list : List Cycle
  bulk_list = bulk_erase ∷ pages_list Erased 0 (m.shape.sectors * m.shape.pages)

  -- sectors with their marks
  abbrev pub sectors_list : List Treatment → List Cycle
  sectors_list marks = list_to m.shape.sectors (λ k. sector_list (slice_index_or marks k Kept) k)
