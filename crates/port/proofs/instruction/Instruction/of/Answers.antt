use Rattle.std.proofs.Common.{◌<◌, length, get_or, ap, ◌∙◌, lit<}
use Rattle.std.proofs.lemmas.List.{get_or_default}
use Rattle.port.specs.declared.instruction.Operation.{Operation}
use Rattle.port.specs.declared.instruction.Operation.TheVariants.{WriteEnable, WriteDisable, ReadStatus, Identify, Read, FastRead, Program, Alter, Preset, SectorErase, BulkErase}
use Rattle.port.specs.Instructions.{table}
use Rattle.port.specs.Build.{listed, place}
use Rattle.port.proofs.instruction.Instruction.of.Goals as goal

in_table : (o : Operation) → place o < length table
unfolding table
in_table WriteEnable = lit< tt
in_table WriteDisable = lit< tt
in_table ReadStatus = lit< tt
in_table Identify = lit< tt
in_table Read = lit< tt
in_table FastRead = lit< tt
in_table Program = lit< tt
in_table Alter = lit< tt
in_table Preset = lit< tt
in_table SectorErase = lit< tt
in_table BulkErase = lit< tt

pub returns : goal.returns
unfolding table listed
returns c = ap (λ i. get_or table i _) c.place.ensures ∙ get_or_default table (place c.args.operation) _ _ (in_table c.args.operation)
