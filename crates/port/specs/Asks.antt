-- What a frame asks of the chip, and what of that a chip hears.
use Rattle.std.specs.Prelude.{◌≡◌, ℕ, ◌+◌, ◌*◌, ◌<◌, true, cond, List, [], ◌∷◌, length, drop, Some, None, Option, ◌==◌, nat_le, nat_lt, slice_index}
use Rattle.memory.specs.declared.kind.Kind.{Kind}
use Rattle.memory.specs.declared.kind.Kind.TheVariants as of_kind
use Rattle.memory.specs.Cycle as of_memory
use Rattle.memory.specs.Cycle.{cycle_of, program, alter, preset, sector_erase, bulk_erase}
use Rattle.memory.specs.Image.{reaches}
use Rattle.port.specs.declared.instruction.Operation.{Operation}
use Rattle.port.specs.declared.instruction.Operation.TheVariants.{WriteEnable, WriteDisable, ReadStatus, Identify, Read, FastRead, Program, Alter, Preset, SectorErase, BulkErase}
use Rattle.port.specs.declared.instruction.Instruction.{Instruction}
use Rattle.port.specs.declared.order.Order.{Order}
use Rattle.port.specs.declared.order.Order.TheVariants as asks
use Rattle.port.specs.Instructions.{table, lookup, fits}

-- what a frame asks of the chip
pub data Ask : Type 0 where
  enable : Ask
  disable : Ask
  status : Ask
  identify : Ask
  read : ℕ → Ask
  cycle : of_memory.Cycle → Ask
  unknown : Ask

abbrev pub said : Order → Ask
said asks.Enable = enable
said asks.Disable = disable
said asks.Status = status
said asks.Identify = identify
said (asks.Read address) = read address
said (asks.Cycle kind address sent) = cycle (cycle_of kind address sent.now)
said asks.Unknown = unknown

-- what of a cycle means nothing is left out: an erase has no data, a bulk erase has address 0
abbrev pub Bare : Kind → ℕ → List ℕ → Type 0
Bare of_kind.Program address sent = Unit {0}
Bare of_kind.Alter address sent = Unit {0}
Bare of_kind.Preset address sent = Unit {0}
Bare of_kind.SectorErase address sent = sent ≡ []
Bare of_kind.BulkErase address sent = (address ≡ 0) × (sent ≡ [])

abbrev pub Plain : Order → Type 0
Plain asks.Enable = Unit {0}
Plain asks.Disable = Unit {0}
Plain asks.Status = Unit {0}
Plain asks.Identify = Unit {0}
Plain (asks.Read address) = Unit {0}
Plain (asks.Cycle kind address sent) = Bare kind address sent.now
Plain asks.Unknown = Unit {0}

-- what an instruction asks at an address, with data
abbrev pub meant : Operation → ℕ → List ℕ → Ask
meant WriteEnable address sent = enable
meant WriteDisable address sent = disable
meant ReadStatus address sent = status
meant Identify address sent = identify
meant Read address sent = read address
meant FastRead address sent = read address
meant Program address sent = cycle (program address sent)
meant Alter address sent = cycle (alter address sent)
meant Preset address sent = cycle (preset address sent)
meant SectorErase address sent = cycle (sector_erase address)
meant BulkErase address sent = cycle bulk_erase

-- the address in the bytes after a code, the highest first, and what follows it
abbrev pub address_in : List ℕ → ℕ
address_in rest = cond (nat_le 3 (length rest)) (slice_index rest 0 * 65536 + slice_index rest 1 * 256 + slice_index rest 2) 0

abbrev pub data_in : List ℕ → List ℕ
data_in rest = cond (nat_le 3 (length rest)) (drop 3 rest) []

abbrev pub shaped_by : Option Instruction → ℕ → ℕ → ℕ → List ℕ → Ask
shaped_by None after wanted address sent = unknown
shaped_by (Some i) after wanted address sent = cond (fits i after wanted) (meant i.operation address sent) unknown

-- a frame of another code or shape asks nothing
abbrev pub ordered : List ℕ → ℕ → Ask
ordered [] wanted = unknown
ordered (code ∷ rest) wanted = shaped_by (lookup table code) (length rest) wanted (address_in rest) (data_in rest)

-- nor does one with an address beyond a chip of so many bytes
abbrev pub inside : ℕ → Ask → Ask
inside size enable = enable
inside size disable = disable
inside size status = status
inside size identify = identify
inside size (read address) = cond (nat_lt address size) (read address) unknown
inside size (cycle y) = cond (reaches size y) (cycle y) unknown
inside size unknown = unknown

-- the address of what is asked lies on a chip of so many bytes
abbrev pub Within : ℕ → Ask → Type 0
Within size enable = Unit {0}
Within size disable = Unit {0}
Within size status = Unit {0}
Within size identify = Unit {0}
Within size (read address) = address < size
Within size (cycle y) = reaches size y ≡ true
Within size unknown = Unit {0}

-- while busy only read status is taken
abbrev pub polled : Ask → Ask
polled enable = unknown
polled disable = unknown
polled status = status
polled identify = unknown
polled (read address) = unknown
polled (cycle y) = unknown
polled unknown = unknown

abbrev pub heard : ℕ → ℕ → Ask → Ask
heard busy size ask = cond (busy == 0) (inside size ask) (polled ask)
