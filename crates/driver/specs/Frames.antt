-- The frames that a driver sends.
use Rattle.std.specs.Prelude.{◌≡◌, ℕ, zero, suc, ◌+◌, ◌-◌, ◌*◌, ◌/◌, min, Bool, true, cond, List, [], ◌∷◌, ◌++◌, Some, None, Option, ◌==◌}
use Rattle.memory.specs.declared.kind.Kind.{Kind}
use Rattle.memory.specs.declared.kind.Kind.TheVariants as of_kind
use Rattle.memory.specs.Shape.{Shape, shaped}
use Rattle.part.specs.declared.fault.PartFault.{PartFault}
use Rattle.part.specs.Verdict.{inside, takes_length}
use Rattle.port.specs.declared.instruction.Operation.TheVariants.{WriteEnable, Identify, Read}
use Rattle.port.specs.Build.{built}
use Rattle.port.specs.Operations.{operation_of}
use Rattle.port.specs.Machine.{Frame, frame}

abbrev pub identify_frame : Frame
identify_frame = frame (built Identify 0 []) 3

abbrev pub enable_frame : Frame
enable_frame = frame (built WriteEnable 0 []) 0

abbrev pub cycle_frame : Kind → ℕ → List ℕ → Frame
cycle_frame kind address sent = frame (built (operation_of kind) address sent) 0

abbrev pub read_frame : ℕ → ℕ → Frame
read_frame address n = frame (built Read address []) n

-- the frames of a read of n bytes where a frame has room for so many: the last takes what is left. `turns` bounds
-- how many, and n are enough.
unfoldable pub reads_in : (turns room address n : ℕ) → List Frame
reads_in zero room address n = []
reads_in (suc turns) room address n =
    cond (n == 0) [] (read_frame address (min room n) ∷ reads_in turns room (address + room) (n - room))

abbrev pub reads : ℕ → ℕ → ℕ → List Frame
reads room address n = reads_in n room address n

-- the frames by which a cycle's page is looked at: a preset's page is read
abbrev pub looks : ℕ → Kind → ℕ → List Frame
looks room of_kind.Program address = []
looks room of_kind.Alter address = []
looks room of_kind.Preset address = reads room (address / 64 * 64) 64
looks room of_kind.SectorErase address = []
looks room of_kind.BulkErase address = []

-- the frames of a cycle: none where it is refused before its page is looked at; else those of the look, and, where it is done, write
-- enable and the cycle's own
abbrev pub cycle_frames : ℕ → Option PartFault → Bool → Kind → ℕ → List ℕ → List Frame
cycle_frames room (Some fault) done kind address sent = []
cycle_frames room None done kind address sent = looks room kind address ++ cond done (enable_frame ∷ cycle_frame kind address sent ∷ []) []

-- the shape of the largest chip that three bytes of address reach
abbrev pub largest_shape : Shape
largest_shape = shaped 128 2048

-- a cycle that a frame can carry: its address has three bytes, and its data are a page at most
abbrev pub Sendable : Kind → ℕ → ℕ → Type 0
Sendable kind address n = (inside largest_shape kind address ≡ true) × (takes_length largest_shape kind n ≡ true)
