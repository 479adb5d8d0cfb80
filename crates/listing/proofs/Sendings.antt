-- The frames of steps are bytes, so their listing reads back.
use Rattle.std.proofs.Common.{ℕ, zero, suc, ◌/◌, ◌%◌, ◌<◌, Bool, true, false, List, [], ◌∷◌, get_or, drop, replicate, arith, lit<}
use Rattle.std.specs.List.{AllByRecursion as All}
use Rattle.std.proofs.ByRecursion.{All-from_get_or, All-append, All-take, All-drop}
use Rattle.memory.specs.Page.{block}
use Rattle.memory.specs.Cycle.{Cycle, program, alter, preset, sector_erase, bulk_erase, cycle_of}
use Rattle.memory.specs.declared.kind.Kind.{Kind}
use Rattle.memory.specs.declared.kind.Kind.TheVariants as of_kind
use Rattle.port.specs.declared.instruction.Operation.{Operation}
use Rattle.port.specs.declared.instruction.Operation.TheVariants.{WriteEnable, WriteDisable, ReadStatus, Identify, Read, FastRead, Program, Alter, Preset, SectorErase, BulkErase}
use Rattle.port.specs.Instructions.{table}
use Rattle.port.specs.Build.{built, listed, high_first, carried_by}
use Rattle.least.specs.declared.step.Step.{Step}
use Rattle.least.specs.Steps.{step_cycle, cycles_of, sent_by}
use Rattle.listing.specs.Parts.{exchange}
use Rattle.listing.specs.PlanFrames.{sending, plan_frames}
use Rattle.listing.specs.Writing.{AllReadBack}
use Rattle.listing.proofs.Keeping.{Bytes, Sendable, sendable, all_read}

code_byte : (o : Operation) → (listed o).code < 256
unfolding table listed
code_byte WriteEnable = lit< tt
code_byte WriteDisable = lit< tt
code_byte ReadStatus = lit< tt
code_byte Identify = lit< tt
code_byte Read = lit< tt
code_byte FastRead = lit< tt
code_byte Program = lit< tt
code_byte Alter = lit< tt
code_byte Preset = lit< tt
code_byte SectorErase = lit< tt
code_byte BulkErase = lit< tt

address_bytes : (n a : ℕ) → Bytes (high_first n a)
address_bytes zero a = tt
address_bytes (suc n) a = All-append (λ b. b < 256) (high_first n (a / 256)) (a % 256 ∷ []) (address_bytes n (a / 256)) (omega arith, tt)

dummy_bytes : (n : ℕ) → Bytes (replicate n 0)
dummy_bytes zero = tt
dummy_bytes (suc n) = (lit< tt, dummy_bytes n)

carried-bytes : (b : Bool) (s : List ℕ) → Bytes s → Bytes (carried_by b s)
carried-bytes true s h = h
carried-bytes false s h = tt

built-sendable : (o : Operation) (a : ℕ) (s : List ℕ) → Bytes s → Sendable (exchange (built o a s) 0)
unfolding built
built-sendable o a s h =
    let P : ℕ → Type 0 = λ b. b < 256 in
    let d = All-append P (replicate (listed o).dummy_bytes 0) (carried_by (listed o).has_data s) (dummy_bytes (listed o).dummy_bytes) (carried-bytes (listed o).has_data s h) in
    sendable (listed o).code 0 _ (code_byte o) (All-append P (high_first (listed o).address_bytes a) _ (address_bytes (listed o).address_bytes a) d) (lit< tt)

cycle-sendable : (y : Cycle) → Bytes (sent_by y) → Sendable (sending y)
cycle-sendable (program a s) h = built-sendable Program a s h
cycle-sendable (alter a s) h = built-sendable Alter a s h
cycle-sendable (preset a s) h = built-sendable Preset a s h
cycle-sendable (sector_erase a) h = built-sendable SectorErase a [] tt
cycle-sendable bulk_erase h = built-sendable BulkErase 0 [] tt

sent-bytes : (kind : Kind) (a : ℕ) (s : List ℕ) → Bytes s → Bytes (sent_by (cycle_of kind a s))
sent-bytes of_kind.Program a s h = h
sent-bytes of_kind.Alter a s h = h
sent-bytes of_kind.Preset a s h = h
sent-bytes of_kind.SectorErase a s h = tt
sent-bytes of_kind.BulkErase a s h = tt

steps-sendable : (sent : List ℕ) (steps : List Step) → Bytes sent → All Sendable (plan_frames (cycles_of sent steps))
steps-sendable sent [] h = tt
steps-sendable sent (s ∷ steps) h =
    let P : ℕ → Type 0 = λ b. b < 256 in
    let d = All-take P s.length (drop s.place sent) (All-drop P s.place sent h) in
    (built-sendable WriteEnable 0 [] tt, (cycle-sendable (step_cycle sent s) (sent-bytes s.kind s.address (block s.place s.length sent) d), steps-sendable sent steps h))

pub plan-reads : (sent : List ℕ) (steps : List Step) → ((i : ℕ) → get_or sent i 0 < 256) → AllReadBack (plan_frames (cycles_of sent steps))
plan-reads sent steps h =
    all_read 1 (plan_frames (cycles_of sent steps)) (steps-sendable sent steps (All-from_get_or (λ b. b < 256) sent 0 (λ i _. h i)))
