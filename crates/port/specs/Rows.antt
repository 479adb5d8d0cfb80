-- The rows of a port's refusals.
use Rattle.std.specs.Prelude.{ℕ, [], ◌∷◌}
use Rattle.memory.specs.Row.{Row, rowed}
use Rattle.port.specs.declared.fault.PortFault.{PortFault}
use Rattle.port.specs.declared.fault.PortFault.TheVariants.{TooLong}
use Rattle.port.specs.declared.fault.ChipMaking.{ChipMaking}
use Rattle.port.specs.declared.fault.ChipMaking.TheVariants.{Geometry, Length, Status, Busy}

abbrev pub row : PortFault → Row
row (TooLong longest) = rowed 3 10 (longest ∷ [])

-- which of the four is at fault
abbrev pub which : ChipMaking → ℕ
which Geometry = 1
which Length = 2
which Status = 3
which Busy = 4

abbrev pub making_row : ChipMaking → Row
making_row m = rowed 3 13 (which m ∷ [])
