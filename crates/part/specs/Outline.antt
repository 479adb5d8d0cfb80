-- An outline in the words of a meaning.
use Rattle.std.specs.Prelude.{◌≡◌, ℕ, Bool, false, not, List, map, slice_index_or}
use Rattle.std.specs.List.{range_with_len}
use Rattle.memory.specs.Shape.{Shape, shaped}
use Rattle.memory.specs.Protection.{protects}
use Rattle.part.specs.declared.outline.Outline.{Outline}
use Rattle.part.specs.Meaning.{Meaning}
use Rattle.part.specs.Verdict.{idle}

abbrev pub outlined : Outline → Shape
outlined o = shaped o.geometry.sectors o.geometry.pages

-- what the status byte protects, sector by sector
unfoldable pub guards : ℕ → ℕ → List Bool
guards status sectors = map (protects status sectors) (range_with_len 0 sectors)

abbrev pub guarding : Outline → ℕ → Bool
guarding o sector = slice_index_or (guards o.status.bits o.geometry.sectors) sector false

-- the outline of a part with this meaning
pub record Outlines (o : Outline) (m : Meaning) : Type 0 where
  pub shape : outlined o ≡ m.shape
  pub guarded : guards o.status.bits o.geometry.sectors ≡ m.guarded
  pub idle : not o.busy ≡ idle m
