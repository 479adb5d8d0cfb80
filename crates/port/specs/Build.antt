-- Frames put together by the instruction table.
use Rattle.std.specs.Prelude.{◌≡◌, ℕ, zero, suc, ◌/◌, ◌%◌, ◌<◌, Bool, true, false, cond, List, [], ◌∷◌, ◌++◌, length, replicate, slice_index_or}
use Rattle.port.specs.declared.instruction.Operation.{Operation}
use Rattle.port.specs.declared.instruction.Operation.TheVariants.{WriteEnable, WriteDisable, ReadStatus, Identify, Read, FastRead, Program, Alter, Preset, SectorErase, BulkErase}
use Rattle.port.specs.declared.instruction.Back.TheVariants.{Nothing}
use Rattle.port.specs.declared.instruction.Instruction.{Instruction}
use Rattle.port.specs.Instructions.{table, allows}
use Rattle.port.specs.Asks.{meant, ordered, unknown}
use Rattle.port.specs.Machine.{Frame, frame}

-- the place of an operation in the table
abbrev pub place : Operation → ℕ
place WriteEnable = 0
place WriteDisable = 1
place ReadStatus = 2
place Identify = 3
place Read = 4
place FastRead = 5
place Program = 6
place Alter = 7
place Preset = 8
place SectorErase = 9
place BulkErase = 10

-- its row; the default stands for nothing, since every place is in the table
unfoldable pub listed : Operation → Instruction
listed o = slice_index_or table (place o) (record { operation = o; code = 0; address_bytes = 0; dummy_bytes = 0; has_data = false; back = Nothing })

-- the n lowest bytes of an address, the highest first
abbrev pub high_first : ℕ → ℕ → List ℕ
high_first zero address = []
high_first (suc n) address = high_first n (address / 256) ++ (address % 256 ∷ [])

-- the data that follow, if any may
abbrev pub carried_by : Bool → List ℕ → List ℕ
carried_by true sent = sent
carried_by false sent = []

-- the code, the address, the dummy bytes and the data
abbrev pub headed : Instruction → ℕ → List ℕ → List ℕ
headed i address sent = i.code ∷ (high_first i.address_bytes address ++ (replicate i.dummy_bytes 0 ++ sent))

-- the bytes of a frame
unfoldable pub built : Operation → ℕ → List ℕ → List ℕ
built o address sent = headed (listed o) address (carried_by (listed o).has_data sent)

-- a status read for one byte, which is a poll
abbrev pub status_frame : Frame
status_frame = frame (built ReadStatus 0 []) 1

-- THE BUILDER'S LAW. The chip machine takes a built frame apart again as meant, if its address has three bytes, there
-- are data where the operation carries some, and no more bytes are wanted back than it may give.
abbrev pub Understood : Type 0
Understood = (o : Operation) (address wanted : ℕ) (sent : List ℕ) → address < 16777216 → ((listed o).has_data ≡ true → 0 < length sent)
    → ordered (built o address sent) wanted ≡ cond (allows (listed o).back wanted) (meant o address sent) unknown
