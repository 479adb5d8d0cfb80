-- What is found out of a write before it is planned.
use Rattle.std.specs.Prelude.{ℕ, ◌+◌, ◌*◌, ◌≤◌, Bool, cond, not, ◌&&◌, List, Some, None, Option}
use Rattle.memory.specs.Protection.{free}
use Rattle.part.specs.Meaning.{Meaning, protected_at}
use Rattle.least.specs.Cost.{sum_to}
use Rattle.least.specs.Fewest.{fewest}
use Rattle.least.specs.Plan.{keep_page, erased_page}
use Rattle.least.specs.Sectors.{over_sector, erase_cost, sectors_cost, bulk_cost}
use Rattle.planner.specs.declared.chosen.Treatment.{Treatment}
use Rattle.planner.specs.declared.chosen.Treatment.TheVariants.{Kept, Erased}
use Rattle.planner.specs.Wanted.{touched, wanted}

-- no more than n pages cost
abbrev pub UpTo : ℕ → ℕ × ℕ → Type 0
UpTo n cost = (cost.0 ≤ n) × (cost.1 ≤ 64 * n)

module _ (m : Meaning) (address : ℕ) (bytes : List ℕ) where
  -- page q as it stands, and once erased
  abbrev pub kept : ℕ → ℕ × ℕ
  kept = keep_page fewest 64 m.image (wanted m address bytes)

  abbrev pub preset : ℕ → ℕ × ℕ
  preset = erased_page fewest 64 (wanted m address bytes)

  -- n pages from page q on
  abbrev pub kept_from : ℕ → ℕ → ℕ × ℕ
  kept_from q n = sum_to fewest n (λ j. kept (q + j))

  -- what page q costs once erased if the write touches it, and if it does not
  abbrev pub preset_on : ℕ → ℕ × ℕ
  preset_on q = cond (touched address bytes q) (preset q) (0, 0)

  abbrev pub preset_off : ℕ → ℕ × ℕ
  preset_off q = cond (touched address bytes q) (0, 0) (preset q)

  -- of n pages from page q on once erased, those that the write touches, and the others
  abbrev pub on_from : ℕ → ℕ → ℕ × ℕ
  on_from q n = sum_to fewest n (λ j. preset_on (q + j))

  abbrev pub off_from : ℕ → ℕ → ℕ × ℕ
  off_from q n = sum_to fewest n (λ j. preset_off (q + j))

  -- of all pages, those that the write touches
  abbrev pub on_all : ℕ × ℕ
  on_all = sum_to fewest m.shape.sectors (over_sector fewest m.shape preset_on)

  -- an erase, and then n pages from page q on
  abbrev pub erased_from : ℕ → ℕ → ℕ × ℕ
  erased_from q n = fewest.plus (1, 0) (sum_to fewest n (λ j. preset (q + j)))

  -- the sector is erased first: only if that is strictly lower
  abbrev pub erases : ℕ → Bool
  erases k = not (fewest.leq (over_sector fewest m.shape kept k) (erase_cost fewest m.shape preset k))

  -- and how its pages are written
  abbrev pub sector_treatment : ℕ → Treatment
  sector_treatment k = cond (erases k) Erased Kept

  abbrev pub by_sectors : ℕ × ℕ
  by_sectors = sectors_cost fewest m.shape kept preset

  -- all is erased first
  abbrev pub erases_all : Bool
  erases_all = free (protected_at m) m.shape.sectors && not (fewest.leq by_sectors (bulk_cost fewest m.shape preset))

-- a cost below a limit
abbrev pub below : ℕ × ℕ → ℕ × ℕ → Option (ℕ × ℕ)
below limit cost = cond (fewest.leq limit cost) None (Some cost)
