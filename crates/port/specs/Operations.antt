-- The operation that sends a cycle of a kind.
use Rattle.memory.specs.declared.kind.Kind.{Kind}
use Rattle.memory.specs.declared.kind.Kind.TheVariants as of_kind
use Rattle.port.specs.declared.instruction.Operation.{Operation}
use Rattle.port.specs.declared.instruction.Operation.TheVariants.{Program, Alter, Preset, SectorErase, BulkErase}

abbrev pub operation_of : Kind → Operation
operation_of of_kind.Program = Program
operation_of of_kind.Alter = Alter
operation_of of_kind.Preset = Preset
operation_of of_kind.SectorErase = SectorErase
operation_of of_kind.BulkErase = BulkErase
