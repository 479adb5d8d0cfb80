-- One of two, by the side that was chosen.
use Rattle.port.specs.declared.bus.Side.{Side}
use Rattle.port.specs.declared.bus.Side.TheVariants.{First, Second}

abbrev pub by_side : {A : Type 0} → Side → A → A → A
by_side First x y = x
by_side Second x y = y

abbrev pub OnSide : Side → Type 0 → Type 0 → Type 0
OnSide First P Q = P
OnSide Second P Q = Q
