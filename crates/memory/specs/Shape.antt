-- How a memory is divided: sectors of pages of bytes. An image is the list of all its bytes.
use Rattle.std.specs.Prelude.{◌≡◌, ℕ, ◌*◌, ◌/◌, ◌<◌, List, length, slice_index}

pub record Shape : Type 0 where
  pub sectors : ℕ
  -- in a sector
  pub pages : ℕ
  -- in a page
  pub bytes : ℕ

abbrev pub size : Shape → ℕ
size m = m.sectors * m.pages * m.bytes

-- the sector that an address lies in
abbrev pub sector_at : Shape → ℕ → ℕ
sector_at m address = address / m.bytes / m.pages

-- an image of this shape
pub record Imaged (m : Shape) (image : List ℕ) : Type 0 where
  pub whole : length image ≡ size m
  pub bytes : (i : ℕ) → slice_index image i < 256

-- a page of every chip so far
abbrev pub page_bytes : ℕ
page_bytes = 64

-- so many sectors of so many such pages
abbrev pub shaped : ℕ → ℕ → Shape
shaped s p = record { sectors = s; pages = p; bytes = page_bytes }
