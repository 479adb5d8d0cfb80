-- The cycles that alter a memory, what each leaves of an image, and which are accepted.
use Rattle.std.specs.Prelude.{◌≡◌, ℕ, ◌*◌, ◌/◌, Bool, true, not, ◌&&◌, List, [], ◌∷◌, length, replicate, bit_and, nat_le, nat_lt}
use Rattle.memory.specs.declared.kind.Kind.{Kind}
use Rattle.memory.specs.declared.kind.Kind.TheVariants.{Program, Alter, Preset, SectorErase, BulkErase}
use Rattle.memory.specs.Shape.{Shape, size, sector_at}
use Rattle.memory.specs.Protection.{free}
use Rattle.memory.specs.Page.{page, put, blank, written}

-- the address of an erase may be any of its sector
pub data Cycle : Type 0 where
  program : ℕ → List ℕ → Cycle
  alter : ℕ → List ℕ → Cycle
  preset : ℕ → List ℕ → Cycle
  sector_erase : ℕ → Cycle
  bulk_erase : Cycle

-- the cycle that a kind, an address and data ask for: an erase has no data, a bulk erase no address
abbrev pub cycle_of : Kind → ℕ → List ℕ → Cycle
cycle_of Program address sent = program address sent
cycle_of Alter address sent = alter address sent
cycle_of Preset address sent = preset address sent
cycle_of SectorErase address sent = sector_erase address
cycle_of BulkErase address sent = bulk_erase

-- alter leaves the byte sent; program and preset leave old AND sent
abbrev pub replacing : ℕ → ℕ → ℕ
replacing old sent = sent

-- the first address of the sector that an address lies in
abbrev pub sector_start : Shape → ℕ → ℕ
sector_start m address = sector_at m address * m.pages * m.bytes

-- the image that a cycle leaves
abbrev pub effect : Shape → Cycle → List ℕ → List ℕ
effect m (program address sent) image = written bit_and m.bytes address sent image
effect m (alter address sent) image = written replacing m.bytes address sent image
effect m (preset address sent) image = written bit_and m.bytes address sent image
effect m (sector_erase address) image = put (sector_start m address) (replicate (m.pages * m.bytes) 255) image
effect m bulk_erase image = replicate (length image) 255

-- the address is inside, and its sector is not protected
abbrev pub writable : Shape → (ℕ → Bool) → ℕ → Bool
writable m prot address = nat_lt address (size m) && not (prot (sector_at m address))

-- nothing that a cycle of this kind alters is protected: the sector of its address, and for a bulk erase all
abbrev pub permits : Shape → (ℕ → Bool) → Kind → ℕ → Bool
permits m prot Program address = not (prot (sector_at m address))
permits m prot Alter address = not (prot (sector_at m address))
permits m prot Preset address = not (prot (sector_at m address))
permits m prot SectorErase address = not (prot (sector_at m address))
permits m prot BulkErase address = free prot m.sectors

-- one byte at least, one page at most
abbrev pub fits_page : Shape → List ℕ → Bool
fits_page m sent = nat_lt 0 (length sent) && nat_le (length sent) m.bytes

-- whether a memory with these protected sectors takes the cycle
abbrev pub accepts : Shape → (ℕ → Bool) → Cycle → List ℕ → Bool
accepts m prot (program address sent) image = writable m prot address && fits_page m sent
accepts m prot (alter address sent) image = writable m prot address && fits_page m sent
accepts m prot (preset address sent) image =
    (writable m prot address && fits_page m sent) && blank (page m.bytes (address / m.bytes) image)
accepts m prot (sector_erase address) image = writable m prot address
accepts m prot bulk_erase image = free prot m.sectors

-- whether it takes each of a list in turn, and where the list leads
abbrev pub accepted : Shape → (ℕ → Bool) → List Cycle → List ℕ → Bool
accepted m prot [] image = true
accepted m prot (c ∷ l) image = accepts m prot c image && accepted m prot l (effect m c image)

abbrev pub leads : Shape → List Cycle → List ℕ → List ℕ
leads m [] image = image
leads m (c ∷ l) image = leads m l (effect m c image)

-- the list is accepted and leads to the image `to`
abbrev pub Goes : Shape → (ℕ → Bool) → List ℕ → List Cycle → List ℕ → Type 0
Goes m prot from l to = (accepted m prot l from ≡ true) × (leads m l from ≡ to)
