-- The cycles that frames carry out on a chip.
use Rattle.std.specs.Prelude.{◌≡◌, ℕ, ◌+◌, cond, List, [], ◌∷◌, ◌++◌}
use Rattle.memory.specs.Cycle.{Cycle}
use Rattle.port.specs.Chip.{Chip}
use Rattle.port.specs.Asks.{Ask, status, cycle, ordered}
use Rattle.port.specs.Machine.{Frame, hears, takes, after}

-- the cycle that the chip carries out where it hears this, if any
abbrev pub carried_out : Chip → Ask → List Cycle
carried_out c (cycle y) = cond (takes c y) (y ∷ []) []
carried_out c ask = []

-- each of the frames leaves the chip as it is
abbrev pub Harmless : Chip → List Frame → Type 0
Harmless c [] = Unit {0}
Harmless c (f ∷ fs) = ((k : ℕ) → after k c f ≡ c) × Harmless c fs

-- frames lead from one chip to another, and carry out these cycles on the way; the busy count that a cycle sets has
-- no rule, and is the k of its step
pub data Carries : Chip → List Frame → Chip → List Cycle → Type 0 where
  none : {c : Chip} → Carries c [] c []
  step : {c d : Chip} {f : Frame} {fs : List Frame} {ys : List Cycle} (k : ℕ)
      → Carries (after k c f) fs d ys → Carries c (f ∷ fs) d (carried_out c (hears c f) ++ ys)

-- 1 for a status read, and 0 for all else
abbrev pub asks_status : Ask → ℕ
asks_status status = 1
asks_status ask = 0

-- how many of the frames are status reads
abbrev pub status_reads : List Frame → ℕ
status_reads [] = 0
status_reads (f ∷ fs) = asks_status (ordered f.sent f.wanted) + status_reads fs
