-- What has to hold of a part for a call to be refused, and for a write to be done or abandoned.
use Rattle.std.specs.Prelude.{◌≡◌, ℕ, ◌+◌, ◌<◌, ◌≤◌, true, false, ◌⊎◌, List, length, Some}
use Rattle.memory.specs.Shape.{size}
use Rattle.memory.specs.Cycle.{Cycle, Goes}
use Rattle.part.specs.declared.fault.PartFault.TheVariants as parts
use Rattle.part.specs.Meaning.{Meaning, protected_at}
use Rattle.least.specs.Barred.{LowestIs}
use Rattle.least.specs.Theorems.{LeastBy}
use Rattle.part.specs.Limit.{allowed}
use Rattle.planner.specs.Wanted.{wanted}
use Rattle.writing.specs.declared.fault.WriteFault.{WriteFault}
use Rattle.writing.specs.declared.fault.WriteFault.TheVariants.{Limit, Outside, StillBusy, Protected, StepsShort, DataShort, Abandoned}
use Rattle.calls.specs.declared.call.Refusal.{Refusal}
use Rattle.calls.specs.declared.call.Refusal.TheVariants.{Part, Write}
use Rattle.calls.specs.Requests.{Request, closing, opening, reading, writing}

-- the list is accepted by the part as it stands, polls going to idle before each, and leads to the image
abbrev pub Leads : Meaning → List Cycle → List ℕ → Type 0
Leads m l image = Goes m.shape (protected_at m) m.image l image

abbrev pub NothingLeads : Meaning → List ℕ → Type 0
NothingLeads m image = (l : List Cycle) → Leads m l image → ⊥

-- the checks of a write that come before protection
pub record Passes (m : Meaning) (address n limit : ℕ) : Type 0 where
  pub limited : allowed limit ≡ true
  pub inside : address + n ≤ size m.shape
  pub waits : m.due ≤ limit

-- some accepted list of this cost leads to the wanted image, and none of a lower cost
abbrev pub Costs : Meaning → ℕ → List ℕ → ℕ × ℕ → Type 0
Costs m address bytes cost = (l : List Cycle) × LeastBy m.shape (protected_at m) m.image (wanted m address bytes) l cost

-- why a write is refused, where there is room for so many steps and data bytes
abbrev pub WriteCause : Meaning → ℕ → ℕ → ℕ → List ℕ → ℕ → WriteFault → Type 0
WriteCause m steps room address bytes limit (Limit n) = (n ≡ limit) × (allowed limit ≡ false)
WriteCause m steps room address bytes limit (Outside a) = (a ≡ address) × (allowed limit ≡ true) × (size m.shape < address + length bytes)
WriteCause m steps room address bytes limit (StillBusy n) =
    (n ≡ limit) × (allowed limit ≡ true) × (address + length bytes ≤ size m.shape) × (limit < m.due)
-- it is the lowest byte of a protected sector that would have to change
WriteCause m steps room address bytes limit (Protected a) =
    Passes m address (length bytes) limit × LowestIs m.shape (protected_at m) m.image (wanted m address bytes) (Some a)
WriteCause m steps room address bytes limit (StepsShort cost) =
    Passes m address (length bytes) limit × Costs m address bytes cost × (steps < cost.0)
WriteCause m steps room address bytes limit (DataShort cost) =
    Passes m address (length bytes) limit × Costs m address bytes cost × (cost.0 ≤ steps) × (room < cost.1)
-- an abandoned write is not refused
WriteCause m steps room address bytes limit (Abandoned n) = ⊥

-- why a call is refused
abbrev pub Cause : Meaning → ℕ → ℕ → Request → Refusal → Type 0
Cause m steps room (closing sector) refusal = (refusal ≡ Part (parts.NoSector sector)) × (m.shape.sectors ≤ sector)
Cause m steps room (opening sector) refusal = (refusal ≡ Part (parts.NoSector sector)) × (m.shape.sectors ≤ sector)
Cause m steps room (reading address n) refusal =
    ((refusal ≡ Part (parts.Outside address)) × (size m.shape < address + n))
    ⊎ ((refusal ≡ Part parts.Busy) × (address + n ≤ size m.shape) × (0 < m.due))
Cause m steps room (writing address bytes limit) (Part fault) = ⊥
Cause m steps room (writing address bytes limit) (Write fault) = WriteCause m steps room address bytes limit fault
