-- What a write does and answers.
use Rattle.std.specs.Prelude.{◌≡◌, ℕ, ◌+◌, ◌*◌, ◌<◌, ◌≤◌, true, false, List, [], ◌∷◌, ◌++◌, length, take, drop, Ok, Err, Result}
use Rattle.memory.specs.Shape.{size}
use Rattle.memory.specs.Page.{put}
use Rattle.memory.specs.Cycle.{Cycle}
use Rattle.part.specs.declared.part.Part.{Ghosts}
use Rattle.part.specs.Limit.{allowed}
use Rattle.part.specs.Meaning as of_part
use Rattle.part.specs.Meaning.{Meaning, Event}
use Rattle.least.specs.declared.step.Step.{Step}
use Rattle.least.specs.Fewest.{fewest}
use Rattle.least.specs.Plan.{plan}
use Rattle.least.specs.Writes.{Answer, refused, planned, plan_write}
use Rattle.least.specs.Theorems.{Says}
use Rattle.planner.specs.Waits.{Polls}
use Rattle.planner.specs.Looking.{LookedBy}
use Rattle.planner.specs.Running.{Carries, Sends}
use Rattle.writing.specs.declared.fault.WriteFault.{WriteFault}
use Rattle.writing.specs.declared.fault.WriteFault.TheVariants.{Limit, Outside, StillBusy, Abandoned}
use Rattle.writing.specs.WriteRows.{row}

-- what planning answers over a part with this meaning, where there is room for so many steps and data bytes
abbrev pub plan_over : Meaning → ℕ → List ℕ → ℕ → ℕ → Answer
plan_over m address bytes step_room data_room = plan_write m.shape (of_part.protected_at m) m.image address bytes step_room data_room

-- the cycles of the defined plan of a write
abbrev pub planned_cycles : Meaning → ℕ → List ℕ → List Cycle
planned_cycles m address bytes = plan fewest m.shape (of_part.protected_at m) m.image (put address bytes m.image)

-- the step list and the data buffer, before and after
pub record Buffers : Type 0 where
  pub steps : List Step
  pub steps' : List Step
  pub sent : List ℕ
  pub sent' : List ℕ

abbrev pub buffers : List Step → List Step → List ℕ → List ℕ → Buffers
buffers s s' d d' = record { steps = s; steps' = s'; sent = d; sent' = d' }

-- both are as they were
abbrev pub Left : Buffers → Type 0
Left b = (b.steps' ≡ b.steps) × (b.sent' ≡ b.sent)

-- they begin with a plan, and what follows it is as it was
abbrev pub Filled : Buffers → List Step → List ℕ → Type 0
Filled b list fresh = (b.steps' ≡ list ++ drop (length list) b.steps) × (b.sent' ≡ fresh ++ drop (length fresh) b.sent)

module _ {P : Type 0} (part : Ghosts P) where
  -- looked at for planning: at most three times the bytes of its image are asked for, and no poll is made
  abbrev pub LookedOver : P → P → Type 0
  LookedOver from to = LookedBy part (3 * size (part.meaning from).shape) from to

  module _ (limit address : ℕ) (bytes : List ℕ) (b : Buffers) where
    -- a write to a part with nothing due
    pub data Carried (from to : P) : Result (ℕ × ℕ) WriteFault → Type 0 where
      -- planning refuses it: nothing is sent, and all is as it was
      unplanned : (fault : WriteFault)
          → plan_over (part.meaning from) address bytes (length b.steps) (length b.sent) ≡ refused (row fault)
          → LookedOver from to → Left b → Carried from to (Err fault)
      -- the plan was sent, and each step waited for
      written : {ready : P} (cost : ℕ × ℕ) (list : List Step) (fresh : List ℕ)
          → plan_over (part.meaning from) address bytes (length b.steps) (length b.sent) ≡ planned cost list fresh
          → Filled b list fresh → LookedOver from ready → Sends part fresh limit ready list to → Carried from to (Ok cost)
      -- its steps up to this one were sent, after which more polls were due than the limit's, which were made
      abandoned : {ready before still : P} (k : ℕ) (s : Step) (cost : ℕ × ℕ) (list : List Step) (fresh : List ℕ)
          → plan_over (part.meaning from) address bytes (length b.steps) (length b.sent) ≡ planned cost list fresh
          → Filled b list fresh → k < length list → take (k + 1) list ≡ take k list ++ s ∷ []
          → LookedOver from ready → Sends part fresh limit ready (take k list) before → (part.meaning before).due ≡ 0
          → Carries part fresh s before still → limit < (part.meaning still).due → Polls part limit still to
          → Carried from to (Err (Abandoned (k + 1)))

    -- a write to any part
    pub data Wrote (from to : P) : Result (ℕ × ℕ) WriteFault → Type 0 where
      no_limit : allowed limit ≡ false → to ≡ from → Left b → Wrote from to (Err (Limit limit))
      outside : allowed limit ≡ true → size (part.meaning from).shape < address + length bytes → to ≡ from → Left b
          → Wrote from to (Err (Outside address))
      -- the limit's polls were made, and more were due
      still_busy : allowed limit ≡ true → address + length bytes ≤ size (part.meaning from).shape → limit < (part.meaning from).due
          → Polls part limit from to → Left b → Wrote from to (Err (StillBusy limit))
      -- else what was due was waited for
      waited : {idle : P} {r : Result (ℕ × ℕ) WriteFault} → allowed limit ≡ true → address + length bytes ≤ size (part.meaning from).shape
          → (part.meaning from).due ≤ limit → Polls part (part.meaning from).due from idle
          -- and what planning then answers is so
          → Says (part.meaning idle).shape (of_part.protected_at (part.meaning idle)) (part.meaning idle).image address bytes (length b.steps) (length b.sent)
          (plan_over (part.meaning idle) address bytes (length b.steps) (length b.sent))
          → Carried idle to r → Wrote from to r
