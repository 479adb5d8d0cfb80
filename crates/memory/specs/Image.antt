-- What an `Image` holds, and a cycle on it.
use Rattle.std.specs.Prelude.{ℕ, zero, suc, ◌+◌, ◌%◌, Bool, true, cond, ◌&&◌, List, [], ◌∷◌, length, Some, None, vec_items, Option, ◌==◌, bit_and, nat_le, nat_lt, slice_index}
use Rattle.memory.specs.declared.kind.Kind.{Kind}
use Rattle.memory.specs.declared.kind.Kind.TheVariants.{Program, Alter, Preset, SectorErase, BulkErase}
use Rattle.memory.specs.declared.image.Image.{Image}
use Rattle.memory.specs.declared.image.ImageFault.{ImageFault}
use Rattle.memory.specs.declared.image.ImageFault.TheVariants.{Geometry, Length}
use Rattle.memory.specs.Shape.{Shape, shaped, size}
use Rattle.memory.specs.Cycle.{Cycle, program, alter, preset, sector_erase, bulk_erase, effect, replacing}

abbrev pub bytes_of : Image → List ℕ
bytes_of i = vec_items i.bytes

abbrev pub shape_of : Image → Shape
shape_of i = shaped i.geometry.sectors i.geometry.pages

-- 1 to 128 sectors of 1 to 2,048 pages
abbrev pub in_range : ℕ → ℕ → Bool
in_range sectors pages = nat_lt 0 sectors && (nat_le sectors 128 && (nat_lt 0 pages && nat_le pages 2048))

-- why an image of so many sectors, pages a sector and bytes cannot be made
abbrev pub unmade : ℕ → ℕ → ℕ → Option ImageFault
unmade sectors pages bytes =
    cond (in_range sectors pages) (cond (bytes == size (shaped sectors pages)) None (Some Length)) (Some Geometry)

-- which check failed, as the rows of every making that needs an image have it
abbrev pub which : ImageFault → ℕ
which Geometry = 1
which Length = 2

-- what a page cycle of this kind makes of the old byte and the one sent
abbrev pub rule : Kind → ℕ → ℕ → ℕ
rule Program = bit_and
rule Alter = replacing
rule Preset = bit_and
rule SectorErase = replacing
rule BulkErase = replacing

-- the cycle's address lies in a memory of so many bytes
abbrev pub reaches : ℕ → Cycle → Bool
reaches n (program address sent) = nat_lt address n
reaches n (alter address sent) = nat_lt address n
reaches n (preset address sent) = nat_lt address n
reaches n (sector_erase address) = nat_lt address n
reaches n bulk_erase = true

-- the image after the cycle, which does nothing past the end
abbrev pub carried : Shape → Cycle → List ℕ → List ℕ
carried m c image = cond (reaches (length image) c) (effect m c image) image

-- n bytes from an address on, rolling over to the first after the last
unfoldable pub rolled : List ℕ → ℕ → ℕ → List ℕ
rolled image address zero = []
rolled image address (suc n) = slice_index image (address % length image) ∷ rolled image (address + 1) n
