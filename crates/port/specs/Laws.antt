-- What a reader of the data sheet would ask of the machine.
use Rattle.std.specs.Prelude.{◌≡◌, ℕ, ◌+◌, ◌-◌, ◌*◌, ◌/◌, ◌%◌, ◌<◌, ◌≤◌, true, false, cond, ◌⊎◌, List, [], ◌∷◌, length, take, replicate, Some, None, Option, ◌≢◌, ◌==◌, bit_and, slice_index}
use Rattle.memory.specs.Shape.{sector_at}
use Rattle.memory.specs.Protection.{protects}
use Rattle.memory.specs.Cycle.{Cycle, program, alter, preset, sector_erase, bulk_erase, effect}
use Rattle.memory.specs.Image.{rolled}
use Rattle.port.specs.Chip.{Chip, Sound, shape}
use Rattle.port.specs.Asks.{Ask, enable, disable, status, identify, read, cycle, unknown}
use Rattle.port.specs.Machine.{Frame, frame, hears, takes, answer, after}

-- the cycle that an order starts, if any
abbrev pub starts : Chip → Ask → Option Cycle
starts c enable = None
starts c disable = None
starts c status = None
starts c identify = None
starts c (read address) = None
starts c (cycle y) = cond (takes c y) (Some y) None
starts c unknown = None

-- the cycle that a frame starts
abbrev pub carried_by : Chip → Frame → Option Cycle
carried_by c f = starts c (hears c f)

-- the places that a cycle may alter: those of its page, of its sector, or all
abbrev pub Within : Chip → Cycle → ℕ → Type 0
Within c (program address sent) i = i / (shape c).bytes ≡ address / (shape c).bytes
Within c (alter address sent) i = i / (shape c).bytes ≡ address / (shape c).bytes
Within c (preset address sent) i = i / (shape c).bytes ≡ address / (shape c).bytes
Within c (sector_erase address) i = sector_at (shape c) i ≡ sector_at (shape c) address
Within c bulk_erase i = Unit {0}

-- the sector of an address is not protected
abbrev pub Open : Chip → ℕ → Type 0
Open c address = protects c.status (shape c).sectors (sector_at (shape c) address) ≡ false

-- what each cycle needs beside the latch: that its sector is not protected, for a preset also that each byte of its page is
-- FFh, and for bulk erase that BP3, which is bit 6, and BP2 to BP0, bits 4 to 2, are all 0
abbrev pub Needs : Chip → Cycle → Type 0
Needs c (program address sent) = Open c address
Needs c (alter address sent) = Open c address
Needs c (preset address sent) =
    Open c address × ((i : ℕ) → i < length c.image → i / (shape c).bytes ≡ address / (shape c).bytes → slice_index c.image i ≡ 255)
Needs c (sector_erase address) = Open c address
Needs c bulk_erase = (c.status / 64 % 2 ≡ 0) × (c.status / 4 % 8 ≡ 0)

-- where data byte j of a page cycle at an address goes, with pages of z bytes: the data come round at the end of the page
abbrev pub place : ℕ → ℕ → ℕ → ℕ
place z address j = address / z * z + (address + j) % z

-- the data lie each at its place, as f of the byte that was there and the one sent: of two for one place the later one does. A
-- place that none is for holds what it held
abbrev pub Lays : (ℕ → ℕ → ℕ) → ℕ → ℕ → List ℕ → List ℕ → List ℕ → Type 0
Lays f z address sent was now =
    ((j : ℕ) → j < length sent → ((l : ℕ) → j < l → l < length sent → place z address l ≢ place z address j)
    → slice_index now (place z address j) ≡ f (slice_index was (place z address j)) (slice_index sent j))
    × ((i : ℕ) → ((j : ℕ) → j < length sent → place z address j ≢ i) → slice_index now i ≡ slice_index was i)

-- the image that each cycle leaves, byte by byte
abbrev pub Leaves : Chip → Cycle → List ℕ → Type 0
Leaves c (program address sent) now = Lays bit_and (shape c).bytes address sent c.image now
Leaves c (alter address sent) now = Lays (λ old new. new) (shape c).bytes address sent c.image now
Leaves c (preset address sent) now = Lays bit_and (shape c).bytes address sent c.image now
Leaves c (sector_erase address) now = (i : ℕ) → sector_at (shape c) i ≡ sector_at (shape c) address → slice_index now i ≡ 255
Leaves c bulk_erase now = (i : ℕ) → i < length c.image → slice_index now i ≡ 255

-- an address in its three bytes, the highest first
abbrev pub spelt : ℕ → ℕ → ℕ → ℕ
spelt a2 a1 a0 = a2 * 65536 + a1 * 256 + a0

-- a frame of this code, the bytes of an address that is inside, and the rest is heard as that order of the address
abbrev pub HeardAt : Chip → ℕ → List ℕ → ℕ → (ℕ → Ask) → Type 0
HeardAt c code rest wanted order =
    (a2 a1 a0 : ℕ) → spelt a2 a1 a0 < length c.image → hears c (frame (code ∷ a2 ∷ a1 ∷ a0 ∷ rest) wanted) ≡ order (spelt a2 a1 a0)

-- the frames that an idle chip hears, beside read status
pub record Hears (c : Chip) : Type 0 where
  pub enables : hears c (frame (0x06 ∷ []) 0) ≡ enable
  pub disables : hears c (frame (0x04 ∷ []) 0) ≡ disable
  pub identified : (n : ℕ) → n ≤ 3 → hears c (frame (0x9F ∷ []) n) ≡ identify
  pub reads : (n : ℕ) → HeardAt c 0x03 [] n read
  -- after one dummy byte
  pub reads_fast : (n dummy : ℕ) → HeardAt c 0x0B (dummy ∷ []) n read
  -- one byte of data or more
  pub programs : (x : ℕ) (xs : List ℕ) → HeardAt c 0x02 (x ∷ xs) 0 (λ a. cycle (program a (x ∷ xs)))
  pub alters : (x : ℕ) (xs : List ℕ) → HeardAt c 0x22 (x ∷ xs) 0 (λ a. cycle (alter a (x ∷ xs)))
  pub presets : (x : ℕ) (xs : List ℕ) → HeardAt c 0xD1 (x ∷ xs) 0 (λ a. cycle (preset a (x ∷ xs)))
  pub erases : HeardAt c 0xD8 [] 0 (λ a. cycle (sector_erase a))
  pub erases_all : hears c (frame (0xC7 ∷ []) 0) ≡ cycle bulk_erase

-- the address of what is heard, if it has one, lies on the chip
abbrev pub OnChip : Chip → Ask → Type 0
OnChip c enable = Unit {0}
OnChip c disable = Unit {0}
OnChip c status = Unit {0}
OnChip c identify = Unit {0}
OnChip c (read address) = address < length c.image
OnChip c (cycle (program address sent)) = address < length c.image
OnChip c (cycle (alter address sent)) = address < length c.image
OnChip c (cycle (preset address sent)) = address < length c.image
OnChip c (cycle (sector_erase address)) = address < length c.image
OnChip c (cycle bulk_erase) = Unit {0}
OnChip c unknown = Unit {0}

-- the shapes of frame that the data sheet lists: a code, how many bytes follow it, and how many are wanted back
pub data Listed : ℕ → ℕ → ℕ → Type 0 where
  code_06 : Listed 0x06 0 0
  code_04 : Listed 0x04 0 0
  code_05 : {wanted : ℕ} → Listed 0x05 0 wanted
  code_9F : {wanted : ℕ} → wanted ≤ 3 → Listed 0x9F 0 wanted
  code_03 : {wanted : ℕ} → Listed 0x03 3 wanted
  code_0B : {wanted : ℕ} → Listed 0x0B 4 wanted
  code_02 : {after : ℕ} → 3 < after → Listed 0x02 after 0
  code_22 : {after : ℕ} → 3 < after → Listed 0x22 after 0
  code_D1 : {after : ℕ} → 3 < after → Listed 0xD1 after 0
  code_D8 : Listed 0xD8 3 0
  code_C7 : Listed 0xC7 0 0

-- a byte that read status gives: bits 7 to 2 are those of the status, bit 0 (WIP) is 1 exactly while busy, and bit 1 (WEL) is
-- the latch while idle
abbrev pub Shows : Chip → ℕ → Type 0
Shows c b = (b / 4 ≡ c.status / 4) × (b % 2 ≡ cond (c.busy == 0) 0 1) × (c.busy ≡ 0 → b / 2 % 2 ≡ cond c.latch 1 0)

pub record MachineLaws : Type 0 where
  -- an ignored frame alters nothing and answers FFh
  pub ignored : (k w : ℕ) (c : Chip) (f : Frame) → hears c f ≡ unknown
      → (after k c f ≡ c) × (answer w c f ≡ replicate f.wanted 255)
  -- and so does one that asks for a cycle that is not taken
  pub turned_down : (k w : ℕ) (c : Chip) (f : Frame) (y : Cycle) → hears c f ≡ cycle y → takes c y ≡ false
      → (after k c f ≡ c) × (answer w c f ≡ replicate f.wanted 255)
  -- while busy only read status is not ignored
  pub busy : (c : Chip) (f : Frame) → 0 < c.busy → (hears c f ≡ status) ⊎ (hears c f ≡ unknown)
  -- what a frame of each code is heard as
  pub codes : (c : Chip) → c.busy ≡ 0 → Hears c
  -- read status, idle or busy
  pub polls : (c : Chip) (n : ℕ) → hears c (frame (0x05 ∷ []) n) ≡ status
  -- a frame of any other code or shape is ignored
  pub no_other : (c : Chip) (code : ℕ) (rest : List ℕ) (n : ℕ) → (Listed code (length rest) n → ⊥) → hears c (frame (code ∷ rest) n) ≡ unknown
  pub no_code : (c : Chip) (n : ℕ) → hears c (frame [] n) ≡ unknown
  -- nor is anything heard of an address past the end
  pub on_chip : (c : Chip) (f : Frame) → OnChip c (hears c f)
  -- nothing but a cycle that is carried out alters the image, and then it is the cycle's effect
  pub idle_image : (k : ℕ) (c : Chip) (f : Frame) → carried_by c f ≡ None → (after k c f).image ≡ c.image
  pub cycle_image : (k : ℕ) (c : Chip) (f : Frame) (y : Cycle) → carried_by c f ≡ Some y → (after k c f).image ≡ effect (shape c) y c.image
  -- which leaves this at each place
  pub leaves : (k : ℕ) (c : Chip) → Sound c → (f : Frame) (y : Cycle) → carried_by c f ≡ Some y → Leaves c y (after k c f).image
  -- in pages of 64 bytes
  pub page : (c : Chip) → (shape c).bytes ≡ 64
  -- a cycle alters only its page, its sector or, for bulk, all
  pub elsewhere : (k : ℕ) (c : Chip) → Sound c → (f : Frame) (y : Cycle) → carried_by c f ≡ Some y
      → (i : ℕ) → (Within c y i → ⊥) → slice_index (after k c f).image i ≡ slice_index c.image i
  -- a protected sector never alters
  pub protected : (k : ℕ) (c : Chip) → Sound c → (f : Frame) (i : ℕ) → protects c.status (shape c).sectors (sector_at (shape c) i) ≡ true
      → slice_index (after k c f).image i ≡ slice_index c.image i
  -- the latch is set only by write enable, and cleared only by write disable and by each cycle carried out
  pub latch : (k : ℕ) (c : Chip) (f : Frame) → (hears c f ≢ enable) → (hears c f ≢ disable) → carried_by c f ≡ None
      → (after k c f).latch ≡ c.latch
  pub latch_set : (k : ℕ) (c : Chip) (f : Frame) → hears c f ≡ enable → (after k c f).latch ≡ true
  pub latch_cleared : (k : ℕ) (c : Chip) (f : Frame) → hears c f ≡ disable → (after k c f).latch ≡ false
  pub latch_spent : (k : ℕ) (c : Chip) (f : Frame) (y : Cycle) → carried_by c f ≡ Some y → (after k c f).latch ≡ false
  -- a cycle that is heard is carried out if the latch is set and it has what it needs
  pub carries : (c : Chip) → Sound c → (f : Frame) (y : Cycle) → hears c f ≡ cycle y → c.latch ≡ true → Needs c y → carried_by c f ≡ Some y
  -- and only then
  pub needs_latch : (c : Chip) (f : Frame) (y : Cycle) → carried_by c f ≡ Some y → c.latch ≡ true
  pub needs : (c : Chip) → Sound c → (f : Frame) (y : Cycle) → carried_by c f ≡ Some y → Needs c y
  -- the busy count: a status read lowers it by one, a cycle carried out sets it, and nothing else alters it
  pub counts : (k : ℕ) (c : Chip) (f : Frame) → hears c f ≡ status → (after k c f).busy ≡ c.busy - 1
  pub sets : (k : ℕ) (c : Chip) (f : Frame) (y : Cycle) → carried_by c f ≡ Some y → (after k c f).busy ≡ k
  pub waits : (k : ℕ) (c : Chip) (f : Frame) → (hears c f ≢ status) → carried_by c f ≡ None → (after k c f).busy ≡ c.busy
  -- capacity and status bits stay
  pub fixed : (k : ℕ) (c : Chip) (f : Frame) → ((after k c f).capacity ≡ c.capacity) × ((after k c f).status ≡ c.status)
  -- as many bytes come back as are wanted
  pub filled : (w : ℕ) (c : Chip) (f : Frame) → length (answer w c f) ≡ f.wanted
  -- reads go up from the address and roll over to 0 after the last byte
  pub reads : (w : ℕ) (c : Chip) (f : Frame) (address i : ℕ) → hears c f ≡ read address → i < f.wanted
      → slice_index (answer w c f) i ≡ slice_index c.image ((address + i) % length c.image)
  -- and so does the definition that reads go by, of any list and any address
  pub rolls : (image : List ℕ) (address n i : ℕ) → i < n → slice_index (rolled image address n) i ≡ slice_index image ((address + i) % length image)
  -- read status gives the status byte, and each byte back is the same
  pub shows : (w : ℕ) (c : Chip) → Sound c → (f : Frame) (i : ℕ) → hears c f ≡ status → i < f.wanted
      → Shows c (slice_index (answer w c f) i) × (slice_index (answer w c f) i ≡ slice_index (answer w c f) 0)
  -- while busy the answer may be the status with 1 added, and may be it with 3 added: of a status with bits 1 and 0 clear, bit 0 is
  -- then 1, and bit 1 may be 0 and may be 1
  pub either : (c : Chip) (f : Frame) → hears c f ≡ status → 0 < c.busy
      → (answer 0 c f ≡ replicate f.wanted (c.status + 1)) × (answer 2 c f ≡ replicate f.wanted (c.status + 3))
  -- an idle chip identifies itself by the maker's byte, the memory type and its capacity byte, as many of them as are wanted
  pub identifies : (w : ℕ) (c : Chip) (n : ℕ) → c.busy ≡ 0 → n ≤ 3
      → answer w c (frame (0x9F ∷ []) n) ≡ take n (0x20 ∷ 0xDA ∷ c.capacity ∷ [])
  -- to want more than these three is another shape
  pub identifies_three : (c : Chip) (n : ℕ) → 3 < n → hears c (frame (0x9F ∷ []) n) ≡ unknown
