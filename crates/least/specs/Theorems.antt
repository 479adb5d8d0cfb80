-- What is shown of the plan, for every memory and any lawful cost.
use Rattle.std.specs.Prelude.{◌≡◌, ℕ, ◌+◌, ◌<◌, ◌≤◌, Bool, true, List, length, Some, slice_index}
use Rattle.memory.specs.Shape.{Shape, size, Imaged}
use Rattle.memory.specs.Page.{put}
use Rattle.memory.specs.Cycle.{Cycle, Goes}
use Rattle.least.specs.Barred.{Barred, LowestIs, lowest_barred}
use Rattle.least.specs.Cost.{Cost, Lawful, spent}
use Rattle.least.specs.Fewest.{fewest}
use Rattle.least.specs.Plan.{least_cost, plan}
use Rattle.least.specs.Steps.{steps_of, data_of, cycles_of}
use Rattle.least.specs.Writes.{Answer, refused, planned, past_the_end, protected_at, steps_short, data_short, plan_write}
use Rattle.least.specs.declared.step.Step.{Step}

-- every accepted list that leads from the image to the wanted one costs at least what the plan costs
abbrev pub PlanIsLeast : Type 0 → Type 0
PlanIsLeast C =
    (K : Cost C) (m : Shape) → Lawful K m.bytes → (prot : ℕ → Bool) (image wanted : List ℕ)
    → Imaged m image → Imaged m wanted
    → (l : List Cycle) → Goes m prot image l wanted → K.leq (spent K (plan K m prot image wanted)) (spent K l) ≡ true

-- where no byte is barred, the plan is accepted, leads to the wanted image, and costs what is said
abbrev pub PlanReaches : Type 0 → Type 0
PlanReaches C =
    (K : Cost C) (m : Shape) → Lawful K m.bytes → (prot : ℕ → Bool) (image wanted : List ℕ)
    → Imaged m image → Imaged m wanted
    → ((a : ℕ) → Barred m prot image wanted a → ⊥)
    → Goes m prot image (plan K m prot image wanted) wanted
    × (spent K (plan K m prot image wanted) ≡ least_cost K m prot image wanted)

-- where a byte of a protected sector would have to change, no accepted list leads there
abbrev pub NoneLeads : Type 0
NoneLeads =
    (m : Shape) (prot : ℕ → Bool) (image wanted : List ℕ) → Imaged m image → Imaged m wanted
    → (a : ℕ) → Barred m prot image wanted a → (l : List Cycle) → Goes m prot image l wanted → ⊥

-- the lowest barred address is what it is called
abbrev pub LowestFound : Type 0
LowestFound =
    (m : Shape) (prot : ℕ → Bool) (image wanted : List ℕ) → Imaged m image → Imaged m wanted
    → LowestIs m prot image wanted (lowest_barred m prot image wanted)

-- the steps of a list with its data are the list again, and their numbers are its cost
abbrev pub StepsAreCycles : Type 0
StepsAreCycles =
    (l : List Cycle)
    → (cycles_of (data_of l) (steps_of l) ≡ l) × (spent fewest l ≡ (length (steps_of l), length (data_of l)))

-- the pair (cycles, data bytes) is a lawful cost for pages of any size
abbrev pub FewestIsLawful : Type 0
FewestIsLawful = (z : ℕ) → Lawful fewest z

-- some accepted list leads from the image to the wanted one at this cost, and none at less
pub record LeastBy (m : Shape) (prot : ℕ → Bool) (image wanted : List ℕ) (l : List Cycle) (cost : ℕ × ℕ) : Type 0 where
  pub goes : Goes m prot image l wanted
  pub costs : spent fewest l ≡ cost
  pub least : (k : List Cycle) → Goes m prot image k wanted → fewest.leq cost (spent fewest k) ≡ true

-- what each answer to a write of bytes at an address says, where there is room for so many steps and data bytes
pub data Says (m : Shape) (prot : ℕ → Bool) (image : List ℕ) (address : ℕ) (bytes : List ℕ) (step_room data_room : ℕ)
    : Answer → Type 0 where
  -- the range is not all inside
  outside :
      size m < address + length bytes → Says m prot image address bytes step_room data_room (refused (past_the_end address))
  -- no accepted list leads there, since this is the lowest byte that is protected and would have to change
  barred :
      (a : ℕ) → address + length bytes ≤ size m → LowestIs m prot image (put address bytes image) (Some a)
      → ((l : List Cycle) → Goes m prot image l (put address bytes image) → ⊥)
      → Says m prot image address bytes step_room data_room (refused (protected_at a))
  -- the least cost, which has more steps than there is room for
  few_steps :
      (l : List Cycle) (cost : ℕ × ℕ) → address + length bytes ≤ size m
      → LeastBy m prot image (put address bytes image) l cost → step_room < cost.0
      → Says m prot image address bytes step_room data_room (refused (steps_short cost))
  -- or more data
  few_data :
      (l : List Cycle) (cost : ℕ × ℕ) → address + length bytes ≤ size m
      → LeastBy m prot image (put address bytes image) l cost → cost.0 ≤ step_room → data_room < cost.1
      → Says m prot image address bytes step_room data_room (refused (data_short cost))
  -- steps and data that there is room for, whose cycles write the bytes at the least cost
  written :
      (cost : ℕ × ℕ) (steps : List Step) (sent : List ℕ) → address + length bytes ≤ size m
      → LeastBy m prot image (put address bytes image) (cycles_of sent steps) cost
      → cost ≡ (length steps, length sent) → length steps ≤ step_room → length sent ≤ data_room
      → Says m prot image address bytes step_room data_room (planned cost steps sent)

-- planning a write answers what holds
abbrev pub WritesAnswered : Type 0
WritesAnswered =
    (m : Shape) (prot : ℕ → Bool) (image : List ℕ) → Imaged m image
    → (address : ℕ) (bytes : List ℕ) → ((i : ℕ) → slice_index bytes i < 256) → (step_room data_room : ℕ)
    → Says m prot image address bytes step_room data_room (plan_write m prot image address bytes step_room data_room)
