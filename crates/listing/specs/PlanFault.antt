-- The refusals of listing a plan.
use Rattle.std.specs.Prelude.{ℕ, ◌+◌, Bool, true, cond, ◌&&◌, List, [], ◌∷◌, length, Some, None, Option, Ok, Err, Result, nat_le, nat_lt}
use Rattle.memory.specs.Row.{Row, rowed}
use Rattle.memory.specs.declared.kind.Kind.{Kind}
use Rattle.memory.specs.declared.kind.Kind.TheVariants.{Program, Alter, Preset, SectorErase, BulkErase}
use Rattle.least.specs.declared.step.Step.{Step}
use Rattle.listing.specs.declared.plan_fault.PlanListingFault.{PlanListingFault}
use Rattle.listing.specs.declared.plan_fault.PlanListingFault.TheVariants.{Address, PageData, TextShort}

abbrev pub row : PlanListingFault → Row
row (Address a) = rowed 4 1 (a ∷ [])
row (PageData n) = rowed 4 2 (n ∷ [])
row (TextShort n) = rowed 4 14 (n ∷ [])

-- the address has three bytes; a bulk erase has none
abbrev pub addressed : Kind → ℕ → Bool
addressed Program address = nat_le address 0xFFFFFF
addressed Alter address = nat_le address 0xFFFFFF
addressed Preset address = nat_le address 0xFFFFFF
addressed SectorErase address = nat_le address 0xFFFFFF
addressed BulkErase address = true

-- n bytes from a place on, of so many: a page at most, one at least, all of them there
abbrev pub lies : ℕ → ℕ → ℕ → Bool
lies place n size = (nat_lt 0 n && nat_le n 64) && nat_le (place + n) size

-- so do the data of a page cycle; an erase has none
abbrev pub filled : Kind → Bool → Bool
filled Program lie = lie
filled Alter lie = lie
filled Preset lie = lie
filled SectorErase lie = true
filled BulkErase lie = true

-- why a step is not listed, if it is not: its address, then its data
abbrev pub unlisted : List ℕ → Step → Option PlanListingFault
unlisted sent s =
    cond (addressed s.kind s.address)
    (cond (filled s.kind (lies s.place s.length (length sent))) None (Some (PageData s.length)))
    (Some (Address s.address))

abbrev pub or_else : Option PlanListingFault → Option PlanListingFault → Option PlanListingFault
or_else None o = o
or_else (Some f) o = Some f

-- the first step that is not listed says why
abbrev pub first_unlisted : List ℕ → List Step → Option PlanListingFault
first_unlisted sent [] = None
first_unlisted sent (s ∷ steps) = or_else (unlisted sent s) (first_unlisted sent steps)

-- a refusal, if there is one, as the check of a step gives it
abbrev pub checked : Option PlanListingFault → Result Unit PlanListingFault
checked None = Ok tt
checked (Some f) = Err f
