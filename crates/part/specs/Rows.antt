-- The rows of a part's refusals.
use Rattle.std.specs.Prelude.{ℕ, [], ◌∷◌}
use Rattle.memory.specs.Row.{Row, rowed}
use Rattle.part.specs.declared.fault.PartFault.{PartFault}
use Rattle.part.specs.declared.fault.PartFault.TheVariants.{Outside, NoSector, PageData, Busy, Protected, NotBlank}
use Rattle.part.specs.declared.fault.PlainMaking.{PlainMaking}
use Rattle.part.specs.declared.fault.PlainMaking.TheVariants.{Geometry, Length, Status}

-- a part makes no poll of its own, so number 3 returns 0
abbrev pub row : PartFault → Row
row (Outside address) = rowed 2 1 (address ∷ [])
row (NoSector sector) = rowed 2 1 (sector ∷ [])
row (PageData n) = rowed 2 2 (n ∷ [])
row Busy = rowed 2 3 (0 ∷ [])
row (Protected address) = rowed 2 4 (address ∷ [])
row (NotBlank address) = rowed 2 5 (address ∷ [])

-- which of the three is at fault
abbrev pub which : PlainMaking → ℕ
which Geometry = 1
which Length = 2
which Status = 3

abbrev pub making_row : PlainMaking → Row
making_row m = rowed 2 13 (which m ∷ [])
