-- What the planning call answers.
use Rattle.std.specs.Prelude.{◌≡◌, ℕ, ◌+◌, cond, List, [], ◌∷◌, ◌++◌, length, drop, Ok, Err, Result, nat_le}
use Rattle.memory.specs.Row.{Row, rowed}
use Rattle.memory.specs.Shape.{size}
use Rattle.memory.specs.Cycle.{Cycle}
use Rattle.part.specs.Meaning as of_part
use Rattle.part.specs.Meaning.{Meaning}
use Rattle.part.specs.Verdict.{idle}
use Rattle.planner.specs.declared.fault.PlanFault.{PlanFault}
use Rattle.planner.specs.declared.fault.PlanFault.TheVariants.{Outside, Busy, Protected, StepsShort, DataShort}
use Rattle.least.specs.declared.step.Step.{Step}
use Rattle.least.specs.Fewest.{fewest}
use Rattle.least.specs.Plan.{plan}
use Rattle.planner.specs.Wanted.{wanted}
use Rattle.least.specs.Writes.{Answer, refused, planned, past_the_end, protected_at, steps_short, data_short, plan_to}

-- polls are due, and planning makes none
abbrev pub polls_due : Row
polls_due = rowed 1 3 (0 ∷ [])

-- each refusal's row
abbrev pub plan_row : PlanFault → Row
plan_row (Outside address) = past_the_end address
plan_row Busy = polls_due
plan_row (Protected address) = protected_at address
plan_row (StepsShort cost) = steps_short cost
plan_row (DataShort cost) = data_short cost

-- planning a write that lies inside an idle memory
abbrev pub plan_inside : Meaning → ℕ → List ℕ → ℕ → ℕ → Answer
plan_inside m address bytes step_room data_room =
    plan_to m.shape (of_part.protected_at m) m.image (wanted m address bytes) step_room data_room

-- planning a write of bytes at an address over a part
abbrev pub plan_call : Meaning → ℕ → List ℕ → ℕ → ℕ → Answer
plan_call m address bytes step_room data_room =
    cond (nat_le (address + length bytes) (size m.shape))
    (cond (idle m) (plan_inside m address bytes step_room data_room) (refused polls_due)) (refused (past_the_end address))

-- the plan that it hands out
abbrev pub plan_list : Meaning → ℕ → List ℕ → List Cycle
plan_list m address bytes = plan fewest m.shape (of_part.protected_at m) m.image (wanted m address bytes)

-- a result, with its refusal's row
abbrev pub told : Result (ℕ × ℕ) PlanFault → Result (ℕ × ℕ) Row
told (Ok cost) = Ok cost
told (Err fault) = Err (plan_row fault)

-- how an answer is handed out: by a result, and in a step list and a data buffer, of which a refusal leaves all as it was, and a plan what follows it
abbrev pub Handed : Answer → Result (ℕ × ℕ) PlanFault → List Step → List Step → List ℕ → List ℕ → Type 0
Handed (refused row) r steps steps' sent sent' = (told r ≡ Err row) × (steps' ≡ steps) × (sent' ≡ sent)
Handed (planned cost list bytes) r steps steps' sent sent' =
    (r ≡ Ok cost) × (steps' ≡ list ++ drop (length list) steps) × (sent' ≡ bytes ++ drop (length bytes) sent)
