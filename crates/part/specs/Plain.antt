-- The plain image as a part, and its making.
use Rattle.std.specs.Prelude.{ℕ, cond, List, Some, None, Option}
use Rattle.memory.specs.declared.image.ImageFault.{ImageFault}
use Rattle.memory.specs.declared.image.ImageFault.TheVariants as of_image
use Rattle.memory.specs.Shape.{shaped}
use Rattle.memory.specs.Protection.{at_rest}
use Rattle.memory.specs.Image as of_image_specs
use Rattle.memory.specs.Image.{bytes_of, shape_of}
use Rattle.part.specs.declared.fault.PlainMaking.{PlainMaking}
use Rattle.part.specs.declared.fault.PlainMaking.TheVariants.{Geometry, Length, Status}
use Rattle.part.specs.declared.plain.PlainImage.{PlainImage}
use Rattle.part.specs.Meaning.{Meaning}
use Rattle.part.specs.Outline.{guards}

abbrev pub plainly : PlainImage → Meaning
plainly p = record {
  shape = shape_of p.image;
  image = bytes_of p.image;
  guarded = guards p.status.bits p.image.geometry.sectors;
  due = cond p.busy 1 0;
}

-- a plain image just made: nothing is due
abbrev pub fresh : ℕ → ℕ → ℕ → List ℕ → Meaning
fresh sectors pages status image = record { shape = shaped sectors pages; image = image; guarded = guards status sectors; due = 0 }

-- bytes that cannot be an image cannot be a plain image
abbrev pub imaging : ImageFault → PlainMaking
imaging of_image.Geometry = Geometry
imaging of_image.Length = Length

abbrev pub status_fault : ℕ → Option PlainMaking
status_fault status = cond (at_rest status) None (Some Status)

abbrev pub fault_of : Option ImageFault → ℕ → Option PlainMaking
fault_of (Some fault) status = Some (imaging fault)
fault_of None status = status_fault status

-- why a plain image cannot be made of so many sectors, pages a sector, a status byte and so many bytes
abbrev pub unmade : ℕ → ℕ → ℕ → ℕ → Option PlainMaking
unmade sectors pages status bytes = fault_of (of_image_specs.unmade sectors pages bytes) status
