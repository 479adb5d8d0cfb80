-- When a part refuses. The checks stand in their order, and the first that fails is told.
use Rattle.std.specs.Prelude.{◌≡◌, ℕ, ◌+◌, ◌/◌, Bool, true, cond, not, ◌&&◌, List, length, is_some, Some, None, Ok, Err, Option, Result, ◌==◌, nat_le, nat_lt}
use Rattle.memory.specs.declared.kind.Kind.{Kind}
use Rattle.memory.specs.declared.kind.Kind.TheVariants.{Program, Alter, Preset, SectorErase, BulkErase}
use Rattle.memory.specs.Shape.{Shape, shaped, size}
use Rattle.memory.specs.Page.{page, blank}
use Rattle.memory.specs.Cycle.{cycle_of, permits, accepts}
use Rattle.part.specs.declared.fault.PartFault.{PartFault}
use Rattle.part.specs.declared.fault.PartFault.TheVariants.{Outside, NoSector, PageData, Busy, Protected, NotBlank}
use Rattle.part.specs.Meaning.{Meaning, protected_at}

-- a check, and what is told where it fails
abbrev pub check : Bool → PartFault → Option PartFault → Option PartFault
check ok fault later = cond ok later (Some fault)

-- the address is among so many; a bulk erase has none
abbrev pub within : ℕ → Kind → ℕ → Bool
within size Program address = nat_lt address size
within size Alter address = nat_lt address size
within size Preset address = nat_lt address size
within size SectorErase address = nat_lt address size
within size BulkErase address = true

-- 1: the address is inside
abbrev pub inside : Shape → Kind → ℕ → Bool
inside m kind address = within (size m) kind address

-- 2: one byte at least, one page at most; an erase has no data, and takes any number
abbrev pub takes_length : Shape → Kind → ℕ → Bool
takes_length m Program n = nat_lt 0 n && nat_le n m.bytes
takes_length m Alter n = nat_lt 0 n && nat_le n m.bytes
takes_length m Preset n = nat_lt 0 n && nat_le n m.bytes
takes_length m SectorErase n = true
takes_length m BulkErase n = true

-- 4: nothing that the cycle alters is protected (`permits`), and the address that is told where something is
abbrev pub told_address : Kind → ℕ → ℕ
told_address Program address = address
told_address Alter address = address
told_address Preset address = address
told_address SectorErase address = address
told_address BulkErase address = 0

-- 5: a preset's page is wholly FFh, which `clean` says
abbrev pub presets : Kind → Bool → Bool
presets Program clean = true
presets Alter clean = true
presets Preset clean = clean
presets SectorErase clean = true
presets BulkErase clean = true

-- 1 to 3 alone, of a memory of so many bytes, each page of which has 64
abbrev pub form_refusal : ℕ → Bool → Kind → ℕ → ℕ → Option PartFault
form_refusal size idle kind address n =
    check (within size kind address) (Outside address) (check (takes_length (shaped 0 0) kind n) (PageData n) (check idle Busy None))

-- why a cycle with n bytes of data is refused, if it is
abbrev pub refusal : Shape → (ℕ → Bool) → Bool → Bool → Kind → ℕ → ℕ → Option PartFault
refusal m prot idle clean kind address n =
    check (inside m kind address) (Outside address)
    (check (takes_length m kind n) (PageData n)
    (check idle Busy
    (check (permits m prot kind address) (Protected (told_address kind address))
    (check (presets kind clean) (NotBlank address) None))))

-- why a read of n bytes is refused, if it is
abbrev pub read_refusal : Shape → Bool → ℕ → ℕ → Option PartFault
read_refusal m idle address n = check (nat_le (address + n) (size m)) (Outside address) (check idle Busy None)

abbrev pub idle : Meaning → Bool
idle m = m.due == 0

-- the page of the address is wholly FFh
abbrev pub clean_at : Meaning → ℕ → Bool
clean_at m address = blank (page m.shape.bytes (address / m.shape.bytes) m.image)

-- the refusal of a cycle by a part whose page is as `clean` says, and by the part as it stands
abbrev pub verdict_if : Meaning → Bool → Kind → ℕ → List ℕ → Option PartFault
verdict_if m clean kind address sent = refusal m.shape (protected_at m) (idle m) clean kind address (length sent)

abbrev pub verdict : Meaning → Kind → ℕ → List ℕ → Option PartFault
verdict m kind address sent = verdict_if m (clean_at m address) kind address sent

-- the refusal of a read of n bytes
abbrev pub read_verdict : Meaning → ℕ → ℕ → Option PartFault
read_verdict m address n = read_refusal m.shape (idle m) address n

-- done, or refused with this fault
abbrev pub told : Option PartFault → Result (Unit {0}) PartFault
told None = Ok tt
told (Some fault) = Err fault

-- whether a sector is protected
abbrev pub protection : Meaning → ℕ → Result Bool PartFault
protection m sector = cond (nat_lt sector m.shape.sectors) (Ok (protected_at m sector)) (Err (NoSector sector))

-- with nothing due, exactly what the memory accepts is not refused
abbrev pub Accepting : Type 0
Accepting = (m : Meaning) (kind : Kind) (address : ℕ) (sent : List ℕ) → m.due ≡ 0
    → not (is_some (verdict m kind address sent)) ≡ accepts m.shape (protected_at m) (cycle_of kind address sent) m.image
