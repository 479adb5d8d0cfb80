-- What frames make of a chip, where each cycle sets a busy count of its own.
use Rattle.std.specs.Prelude.{ℕ, List, [], ◌∷◌}
use Rattle.port.specs.Chip.{Chip}
use Rattle.port.specs.Machine.{Frame, after}

-- the frames lead from one chip to another; the busy count that a cycle sets has no rule, and is the k of its step
pub data Acts : Chip → List Frame → Chip → Type 0 where
  none : {c : Chip} → Acts c [] c
  step : {c d : Chip} {f : Frame} {fs : List Frame} (k : ℕ) → Acts (after k c f) fs d → Acts c (f ∷ fs) d
