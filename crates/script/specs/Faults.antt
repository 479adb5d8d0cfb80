-- The fault of a chip that cannot be made.
use Rattle.trials.specs.declared.chip.ChipFault.{ChipFault}
use Rattle.trials.specs.declared.chip.ChipFault.TheVariants as chip
use Rattle.script.specs.declared.fault.Fault.{Fault}
use Rattle.script.specs.declared.fault.Fault.TheVariants.{Making, NoMemory}

abbrev pub unmade : ChipFault → Fault
unmade (chip.Making making) = Making making
unmade chip.NoMemory = NoMemory
