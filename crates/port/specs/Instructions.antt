-- The instructions, as the data sheet lists them.
use Rattle.std.specs.Prelude.{ℕ, ◌+◌, Bool, true, false, cond, ◌&&◌, List, [], ◌∷◌, Some, None, Option, ◌==◌, nat_le, nat_lt}
use Rattle.port.specs.declared.instruction.Operation.{Operation}
use Rattle.port.specs.declared.instruction.Operation.TheVariants.{WriteEnable, WriteDisable, ReadStatus, Identify, Read, FastRead, Program, Alter, Preset, SectorErase, BulkErase}
use Rattle.port.specs.declared.instruction.Back.{Back}
use Rattle.port.specs.declared.instruction.Back.TheVariants.{Nothing, Identification, Any}
use Rattle.port.specs.declared.instruction.Instruction.{Instruction}

-- operation, code, bytes of address, dummy bytes, whether data follow, bytes back
abbrev row : Operation → ℕ → ℕ → ℕ → Bool → Back → Instruction
row o c a d x b = record { operation = o; code = c; address_bytes = a; dummy_bytes = d; has_data = x; back = b }

unfoldable pub table : List Instruction
table =
    row WriteEnable 0x06 0 0 false Nothing
    ∷ row WriteDisable 0x04 0 0 false Nothing
    ∷ row ReadStatus 0x05 0 0 false Any
    ∷ row Identify 0x9F 0 0 false Identification
    ∷ row Read 0x03 3 0 false Any
    ∷ row FastRead 0x0B 3 1 false Any
    ∷ row Program 0x02 3 0 true Nothing
    ∷ row Alter 0x22 3 0 true Nothing
    ∷ row Preset 0xD1 3 0 true Nothing
    ∷ row SectorErase 0xD8 3 0 false Nothing
    ∷ row BulkErase 0xC7 0 0 false Nothing
    ∷ []

abbrev pub lookup : List Instruction → ℕ → Option Instruction
lookup [] code = None
lookup (i ∷ is) code = cond (i.code == code) (Some i) (lookup is code)

-- how many bytes back may be wanted
abbrev pub allows : Back → ℕ → Bool
allows Nothing wanted = wanted == 0
allows Identification wanted = nat_le wanted 3
allows Any wanted = true

-- a frame with so many bytes after its code has the instruction's shape
abbrev pub fits : Instruction → ℕ → ℕ → Bool
fits i after wanted =
    cond i.has_data (nat_lt (i.address_bytes + i.dummy_bytes) after) (after == i.address_bytes + i.dummy_bytes) && allows i.back wanted
