-- The meaning and the trace of a driver, over what its port means: its chip and its frames.
use Rattle.std.specs.Prelude.{List}
use Rattle.port.specs.Machine.{Frame}
use Rattle.port.specs.declared.port.Port.{Ghosts}
use Rattle.part.specs.Meaning.{Meaning, Event}
use Rattle.driver.specs.declared.driver.Driver.{Driver}
use Rattle.driver.specs.Driving.{Drives, seen}

module _ {P : Type 0} (port : Ghosts P) where
  abbrev pub driver_meaning : Driver P port → Meaning
  driver_meaning d = seen d.outline (port.chip d.port)

  -- there are frames between the two states of the port, and they do what the events say and nothing else
  abbrev pub DriverTrace : Driver P port → Driver P port → List Event → Type 0
  DriverTrace d e events =
      (fs : List Frame) × port.trace d.port e.port fs × Drives d.outline (port.chip d.port) fs e.outline (port.chip e.port) events
