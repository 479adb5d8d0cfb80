-- The state of a chip.
use Rattle.std.specs.Prelude.{◌≡◌, ℕ, ◌%◌, ◌<◌, Bool, true, List, is_some}
use Rattle.memory.specs.Shape.{Shape, Imaged}
use Rattle.memory.specs.Models.{models, lookup, shape_for}

pub record Chip : Type 0 where
  -- the last byte of the identification, which says how large the chip is
  pub capacity : ℕ
  pub image : List ℕ
  -- bits 7 to 2 of the status byte, with bits 1 and 0 clear
  pub status : ℕ
  -- the write latch, WEL
  pub latch : Bool
  -- how many status reads will still show busy
  pub busy : ℕ

abbrev pub shape : Chip → Shape
shape c = shape_for c.capacity

-- a chip that can be: its capacity byte is known, its image is as long as that says, its bytes are bytes
pub record Sound (c : Chip) : Type 0 where
  pub known : is_some (lookup models c.capacity) ≡ true
  pub imaged : Imaged (shape c) c.image
  pub steady : c.status % 4 ≡ 0
  pub byte : c.status < 256
