-- The bench chip as a chip, and its making.
use Rattle.std.specs.Prelude.{ℕ, false, cond, List, Some, None, Option, ◌==◌, nat_le}
use Rattle.memory.specs.Shape.{size}
use Rattle.memory.specs.Protection.{at_rest}
use Rattle.memory.specs.Image.{bytes_of}
use Rattle.memory.specs.Models.{models, lookup, model_shape}
use Rattle.memory.specs.declared.model.Model.{Model}
use Rattle.memory.specs.declared.image.ImageFault.{ImageFault}
use Rattle.memory.specs.declared.image.ImageFault.TheVariants as of_image
use Rattle.port.specs.declared.bench.BenchChip.{BenchChip}
use Rattle.port.specs.declared.fault.ChipMaking.{ChipMaking}
use Rattle.port.specs.declared.fault.ChipMaking.TheVariants.{Geometry, Length, Status, Busy}
use Rattle.port.specs.Chip.{Chip}

abbrev pub chip_of : BenchChip → Chip
chip_of b = record { capacity = b.capacity; image = bytes_of b.image; status = b.status.bits; latch = b.latch; busy = b.busy }

-- an image that cannot be made cannot be a chip's
abbrev pub imaging : ImageFault → ChipMaking
imaging of_image.Geometry = Geometry
imaging of_image.Length = Length

abbrev pub fault_of : Option Model → ℕ → ℕ → ℕ → Option ChipMaking
fault_of None bytes status number = Some Geometry
fault_of (Some m) bytes status number =
    cond (bytes == size (model_shape m))
    (cond (at_rest status) (cond (nat_le number 4096) None (Some Busy)) (Some Status)) (Some Length)

-- why a bench chip cannot be made of a capacity byte, so many bytes, a status byte and a busy number
abbrev pub unmade : ℕ → ℕ → ℕ → ℕ → Option ChipMaking
unmade capacity bytes status number = fault_of (lookup models capacity) bytes status number

-- a chip just made: the latch clear, not busy
abbrev pub fresh : ℕ → List ℕ → ℕ → Chip
fresh capacity image status = record { capacity = capacity; image = image; status = status; latch = false; busy = 0 }
