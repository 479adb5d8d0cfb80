-- How many bytes planning asks for at most, look by look: for protected bytes that would change, for the costs of the sectors, for
-- that of erasing all, and for the steps.
use Rattle.std.specs.Prelude.{ℕ, zero, suc, ◌+◌, ◌*◌, cond, List, Ok, Err, Result}
use Rattle.memory.specs.Protection.{free}
use Rattle.part.specs.Meaning.{Meaning, protected_at}
use Rattle.least.specs.Fewest.{fewest}
use Rattle.planner.specs.declared.chosen.Treatment.{Treatment}
use Rattle.planner.specs.declared.chosen.Treatment.TheVariants.{Kept, Erased}
use Rattle.planner.specs.declared.fault.PlanFault.{PlanFault}
use Rattle.planner.specs.declared.fault.PlanFault.TheVariants.{Outside, Busy, Protected, StepsShort, DataShort}
use Rattle.planner.specs.Wanted.{covered, touched}
use Rattle.planner.specs.Survey.{by_sectors, erases_all, kept_from, off_from, on_all, on_from, sector_treatment}

-- the bytes of those of n pages from page q on that a write touches
abbrev pub bytes_on : ℕ → List ℕ → ℕ → ℕ → ℕ
bytes_on address bytes q zero = 0
bytes_on address bytes q (suc n) = bytes_on address bytes q n + cond (touched address bytes (q + n)) 64 0

-- of those that it does not touch, while a cost with the presets of those before is below a limit
abbrev pub bytes_below : Meaning → ℕ → List ℕ → ℕ × ℕ → ℕ × ℕ → ℕ → ℕ → ℕ
bytes_below m address bytes limit cost q zero = 0
bytes_below m address bytes limit cost q (suc n) =
    bytes_below m address bytes limit cost q n
    + cond (fewest.leq limit (fewest.plus cost (off_from m address bytes q n))) 0 (cond (touched address bytes (q + n)) 0 64)

-- those asked of n sectors for protected bytes that would change: of the pages of a protected one that the write touches
abbrev pub for_guarded : Meaning → ℕ → List ℕ → ℕ → ℕ
for_guarded m address bytes zero = 0
for_guarded m address bytes (suc n) =
    for_guarded m address bytes n + cond (protected_at m n) (bytes_on address bytes (n * m.shape.pages) m.shape.pages) 0

-- and of all
abbrev pub for_barred : Meaning → ℕ → List ℕ → ℕ
for_barred m address bytes = for_guarded m address bytes m.shape.sectors

-- those asked for the costs of n pages from page q on: once for each that the write touches, and for the others while to erase them
-- first costs less than to keep them
abbrev pub for_costs : Meaning → ℕ → List ℕ → ℕ → ℕ → ℕ
for_costs m address bytes q n =
    bytes_on address bytes q n
    + bytes_below m address bytes (kept_from m address bytes q n) (fewest.plus (1, 0) (on_from m address bytes q n)) q n

-- and of n sectors
abbrev pub for_sectors : Meaning → ℕ → List ℕ → ℕ → ℕ
for_sectors m address bytes zero = 0
for_sectors m address bytes (suc n) = for_sectors m address bytes n + for_costs m address bytes (n * m.shape.pages) m.shape.pages

-- those asked for the cost of erasing all, if no sector is protected: while it is less than that of the sectors
abbrev pub for_bulk : Meaning → ℕ → List ℕ → ℕ
for_bulk m address bytes =
    cond (free (protected_at m) m.shape.sectors)
    (bytes_below m address bytes (by_sectors m address bytes) (fewest.plus (1, 0) (on_all m address bytes)) 0 (m.shape.sectors * m.shape.pages))
    0

-- those asked for the step of page q where there is room for one: as it stands where the write touches it, once erased unless the write
-- covers it. Pages after the last step are counted too, though none is then read
abbrev pub for_page : ℕ → List ℕ → Treatment → ℕ → ℕ
for_page address bytes Kept q = cond (touched address bytes q) 64 0
for_page address bytes Erased q = cond (covered address bytes q) 0 64

-- and of n pages from page q on
abbrev pub for_pages : ℕ → List ℕ → Treatment → ℕ → ℕ → ℕ
for_pages address bytes treatment q zero = 0
for_pages address bytes treatment q (suc n) = for_pages address bytes treatment q n + for_page address bytes treatment (q + n)

-- of n sectors with their marks
abbrev pub for_marks : Meaning → ℕ → List ℕ → (ℕ → Treatment) → ℕ → ℕ
for_marks m address bytes mark zero = 0
for_marks m address bytes mark (suc n) =
    for_marks m address bytes mark n + for_pages address bytes (mark n) (n * m.shape.pages) m.shape.pages

-- and of the plan
abbrev pub for_steps : Meaning → ℕ → List ℕ → ℕ
for_steps m address bytes =
    cond (erases_all m address bytes) (for_pages address bytes Erased 0 (m.shape.sectors * m.shape.pages))
    (for_marks m address bytes (sector_treatment m address bytes) m.shape.sectors)

-- all that planning asks for where there is room for its plan
abbrev pub planning : Meaning → ℕ → List ℕ → ℕ
planning m address bytes =
    for_barred m address bytes + (for_sectors m address bytes m.shape.sectors + for_bulk m address bytes) + for_steps m address bytes

-- and as far as it came: to nothing, to a protected byte, to the cost, or to its end
abbrev pub planning_to : Meaning → ℕ → List ℕ → Result (ℕ × ℕ) PlanFault → ℕ
planning_to m address bytes (Ok cost) = planning m address bytes
planning_to m address bytes (Err (Outside a)) = 0
planning_to m address bytes (Err Busy) = 0
planning_to m address bytes (Err (Protected a)) = for_barred m address bytes
planning_to m address bytes (Err (StepsShort cost)) = for_barred m address bytes + (for_sectors m address bytes m.shape.sectors + for_bulk m address bytes)
planning_to m address bytes (Err (DataShort cost)) = for_barred m address bytes + (for_sectors m address bytes m.shape.sectors + for_bulk m address bytes)
