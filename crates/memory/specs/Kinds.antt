-- What the frame of a cycle holds, by its kind.
use Rattle.std.specs.Prelude.{Bool, true, false}
use Rattle.memory.specs.declared.kind.Kind.{Kind}
use Rattle.memory.specs.declared.kind.Kind.TheVariants.{Program, Alter, Preset, SectorErase, BulkErase}

-- an erase has no data
abbrev pub has_data : Kind → Bool
has_data Program = true
has_data Alter = true
has_data Preset = true
has_data SectorErase = false
has_data BulkErase = false

-- a bulk erase is at no address
abbrev pub has_address : Kind → Bool
has_address Program = true
has_address Alter = true
has_address Preset = true
has_address SectorErase = true
has_address BulkErase = false
