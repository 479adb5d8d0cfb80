-- What planning a write answers: a refusal, or a cost with its steps and data.
use Rattle.std.specs.Prelude.{ℕ, ◌+◌, Bool, cond, List, [], ◌∷◌, length, Some, None, Option, nat_le}
use Rattle.memory.specs.Row.{Row, rowed}
use Rattle.memory.specs.Shape.{Shape, size}
use Rattle.memory.specs.Page.{put}
use Rattle.memory.specs.Cycle.{Cycle}
use Rattle.least.specs.declared.step.Step.{Step}
use Rattle.least.specs.Barred.{lowest_barred}
use Rattle.least.specs.Fewest.{fewest}
use Rattle.least.specs.Plan.{least_cost, plan}
use Rattle.least.specs.Steps.{steps_of, data_of}

pub data Answer : Type 0 where
  refused : Row → Answer
  -- cost, steps and data
  planned : ℕ × ℕ → List Step → List ℕ → Answer

-- the write's range ends past the memory's: the address
abbrev pub past_the_end : ℕ → Row
past_the_end address = rowed 1 1 (address ∷ [])

-- a byte of a protected sector would have to change: the lowest one's address
abbrev pub protected_at : ℕ → Row
protected_at address = rowed 1 4 (address ∷ [])

-- the list of steps, or the buffer of data, is too short: the cost
abbrev pub steps_short : ℕ × ℕ → Row
steps_short cost = rowed 1 6 (cost.0 ∷ cost.1 ∷ [])

abbrev pub data_short : ℕ × ℕ → Row
data_short cost = rowed 1 7 (cost.0 ∷ cost.1 ∷ [])

abbrev pub unless_barred : Option ℕ → Answer → Answer
unless_barred None answer = answer
unless_barred (Some address) answer = refused (protected_at address)

-- a plan of this cost, if there is room for its steps and then for its data
abbrev pub unless_short : ℕ → ℕ → ℕ × ℕ → List Cycle → Answer
unless_short step_room data_room cost l =
    cond (nat_le cost.0 step_room)
    (cond (nat_le cost.1 data_room) (planned cost (steps_of l) (data_of l)) (refused (data_short cost)))
    (refused (steps_short cost))

-- planning from an image to a wanted one
abbrev pub plan_to : Shape → (ℕ → Bool) → List ℕ → List ℕ → ℕ → ℕ → Answer
plan_to m prot image wanted step_room data_room =
    unless_barred (lowest_barred m prot image wanted)
    (unless_short step_room data_room (least_cost fewest m prot image wanted) (plan fewest m prot image wanted))

-- planning a write of bytes at an address
abbrev pub plan_write : Shape → (ℕ → Bool) → List ℕ → ℕ → List ℕ → ℕ → ℕ → Answer
plan_write m prot image address bytes step_room data_room =
    cond (nat_le (address + length bytes) (size m))
    (plan_to m prot image (put address bytes image) step_room data_room) (refused (past_the_end address))
