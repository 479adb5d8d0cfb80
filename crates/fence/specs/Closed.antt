-- Closed sectors, and the cycles that they bar.
use Rattle.std.specs.Prelude.{ℕ, Bool, false, cond, not, ◌||◌, List, [], ◌∷◌, replicate, Ok, Err, Result, nat_lt, slice_index_or, slice_set}
use Rattle.memory.specs.declared.kind.Kind.{Kind}
use Rattle.memory.specs.declared.kind.Kind.TheVariants.{Program, Alter, Preset, SectorErase, BulkErase}
use Rattle.memory.specs.Shape.{Shape, sector_at}
use Rattle.memory.specs.Protection.{free}
use Rattle.part.specs.declared.fault.PartFault.{PartFault}
use Rattle.part.specs.declared.fault.PartFault.TheVariants.{NoSector}
use Rattle.part.specs.Meaning.{Meaning}

-- one mark for each sector that a part may have: none is closed
unfoldable pub none_closed : List Bool
none_closed = replicate 128 false

-- the marks of the first list, and those of the second beside them
abbrev pub either : List Bool → List Bool → List Bool
either [] cs = []
either (g ∷ gs) [] = g ∷ gs
either (g ∷ gs) (c ∷ cs) = (g || c) ∷ either gs cs

-- a part's meaning with these sectors closed: they are protected too
abbrev pub fenced : Meaning → List Bool → Meaning
fenced m closed = record { shape = m.shape; image = m.image; guarded = either m.guarded closed; due = m.due }

abbrev pub is_closed : List Bool → ℕ → Bool
is_closed closed sector = slice_index_or closed sector false

-- closing or opening a sector: there is such a sector, or not
abbrev pub marked : Shape → ℕ → Result (Unit {0}) PartFault
marked m sector = cond (nat_lt sector m.sectors) (Ok tt) (Err (NoSector sector))

-- and the marks then
abbrev pub marks : Shape → List Bool → ℕ → Bool → List Bool
marks m closed sector mark = cond (nat_lt sector m.sectors) (slice_set closed sector mark) closed

-- a closed sector stands in the way of the cycle: its own, or for a bulk erase any
abbrev pub bars : Shape → List Bool → Kind → ℕ → Bool
bars m closed Program address = is_closed closed (sector_at m address)
bars m closed Alter address = is_closed closed (sector_at m address)
bars m closed Preset address = is_closed closed (sector_at m address)
bars m closed SectorErase address = is_closed closed (sector_at m address)
bars m closed BulkErase address = not (free (is_closed closed) m.sectors)
