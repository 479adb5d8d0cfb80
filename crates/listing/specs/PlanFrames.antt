-- The frames of cycles, and their listing.
use Rattle.std.specs.Prelude.{ℕ, cond, List, [], ◌∷◌, length, Some, None, Ok, Err, Option, Result, nat_le}
use Rattle.memory.specs.Cycle.{Cycle, program, alter, preset, sector_erase, bulk_erase}
use Rattle.port.specs.declared.instruction.Operation.TheVariants.{WriteEnable, Program, Alter, Preset, SectorErase, BulkErase}
use Rattle.port.specs.Build.{built}
use Rattle.least.specs.declared.step.Step.{Step}
use Rattle.least.specs.Steps.{cycles_of}
use Rattle.listing.specs.declared.plan_fault.PlanListingFault.{PlanListingFault}
use Rattle.listing.specs.declared.plan_fault.PlanListingFault.TheVariants.{TextShort}
use Rattle.listing.specs.Parts.{Exchange, exchange}
use Rattle.listing.specs.PlanFault.{first_unlisted}
use Rattle.listing.specs.Values.{over}
use Rattle.listing.specs.Writing.{listing}

-- write enable, which each cycle needs before it
abbrev pub enabling : Exchange
enabling = exchange (built WriteEnable 0 []) 0

-- the frame of a cycle
abbrev pub sending : Cycle → Exchange
sending (program address sent) = exchange (built Program address sent) 0
sending (alter address sent) = exchange (built Alter address sent) 0
sending (preset address sent) = exchange (built Preset address sent) 0
sending (sector_erase address) = exchange (built SectorErase address []) 0
sending bulk_erase = exchange (built BulkErase 0 []) 0

-- the frames of cycles, in their order
abbrev pub plan_frames : List Cycle → List Exchange
plan_frames [] = []
plan_frames (y ∷ ys) = enabling ∷ sending y ∷ plan_frames ys

-- the text of a plan
abbrev pub plan_text : List ℕ → List Step → List ℕ
plan_text sent steps = listing (plan_frames (cycles_of sent steps))

abbrev pub answered : Option PlanListingFault → List ℕ → ℕ → Result ℕ PlanListingFault
answered (Some f) text n = Err f
answered None text n = cond (nat_le (length text) n) (Ok (length text)) (Err (TextShort (length text)))

-- listing a plan into a buffer of n bytes: the length of its text, or the first refusal
abbrev pub plan_answer : List ℕ → List Step → ℕ → Result ℕ PlanListingFault
plan_answer sent steps n = answered (first_unlisted sent steps) (plan_text sent steps) n

abbrev pub kept : Option PlanListingFault → List ℕ → List ℕ → List ℕ
kept (Some f) text was = was
kept None text was = over text was

-- and what the buffer then holds: the text and what lay past it, or what it held
abbrev pub plan_into : List ℕ → List Step → List ℕ → List ℕ
plan_into sent steps was = kept (first_unlisted sent steps) (plan_text sent steps) was
