-- The chip machine: what a frame does to a chip, and what it answers.
use Rattle.std.specs.Prelude.{ℕ, ◌+◌, ◌-◌, ◌/◌, Bool, true, false, cond, not, ◌&&◌, List, [], ◌∷◌, length, take, replicate, Ok, Err, Result, ◌==◌, bit_and, nat_le}
use Rattle.memory.specs.Shape.{sector_at}
use Rattle.memory.specs.Protection.{protects}
use Rattle.memory.specs.Page.{page, blank}
use Rattle.memory.specs.Cycle as of_memory
use Rattle.memory.specs.Cycle.{effect, program, alter, preset, sector_erase, bulk_erase}
use Rattle.memory.specs.Image.{rolled}
use Rattle.port.specs.declared.fault.PortFault.{PortFault}
use Rattle.port.specs.declared.fault.PortFault.TheVariants.{TooLong}
use Rattle.port.specs.Chip.{Chip, shape}
use Rattle.port.specs.Asks.{Ask, enable, disable, status, identify, read, cycle, unknown, ordered, heard}

-- the status byte: WIP (bit 0) is set exactly while busy; bit 1 is then that of w, which has no rule, and else WEL
abbrev pub shown : ℕ → Chip → ℕ
shown w c = c.status + cond (c.busy == 0) (cond c.latch 2 0) (1 + bit_and w 2)

-- the maker's byte, the memory type and the capacity
abbrev pub identity : Chip → List ℕ
identity c = 0x20 ∷ 0xDA ∷ c.capacity ∷ []

-- the n bytes back
abbrev pub reply : ℕ → Chip → Ask → ℕ → List ℕ
reply w c enable n = replicate n 255
reply w c disable n = replicate n 255
reply w c status n = replicate n (shown w c)
reply w c identify n = cond (nat_le n 3) (take n (identity c)) (replicate n 255)
reply w c (read address) n = rolled c.image address n
reply w c (cycle y) n = replicate n 255
reply w c unknown n = replicate n 255

-- the latch is set, and the sector of the address is not protected
abbrev pub opens : Chip → ℕ → Bool
opens c address = c.latch && not (protects c.status (shape c).sectors (sector_at (shape c) address))

-- whether the chip carries out a cycle: a preset needs a page wholly FFh, a bulk erase all four BP bits 0
abbrev pub takes : Chip → of_memory.Cycle → Bool
takes c (program address sent) = opens c address
takes c (alter address sent) = opens c address
takes c (preset address sent) = opens c address && blank (page (shape c).bytes (address / (shape c).bytes) c.image)
takes c (sector_erase address) = opens c address
takes c bulk_erase = c.latch && bit_and c.status 0x5C == 0

-- a cycle carried out leaves an image, clears the latch and sets the busy count to k, which has no rule
abbrev pub done : ℕ → Chip → List ℕ → Chip
done k c image = record { capacity = c.capacity; image = image; status = c.status; latch = false; busy = k }

abbrev pub latched : Bool → Chip → Chip
latched b c = record { capacity = c.capacity; image = c.image; status = c.status; latch = b; busy = c.busy }

-- a status read lowers the busy count
abbrev pub waited : Chip → Chip
waited c = record { capacity = c.capacity; image = c.image; status = c.status; latch = c.latch; busy = c.busy - 1 }

abbrev pub act : ℕ → Chip → Ask → Chip
act k c enable = latched true c
act k c disable = latched false c
act k c status = waited c
act k c identify = c
act k c (read address) = c
act k c (cycle y) = cond (takes c y) (done k c (effect (shape c) y c.image)) c
act k c unknown = c

-- a frame: the bytes sent, and how many are wanted back
pub record Frame : Type 0 where
  pub sent : List ℕ
  pub wanted : ℕ

abbrev pub frame : List ℕ → ℕ → Frame
frame s n = record { sent = s; wanted = n }

-- what the chip hears of a frame, as it stands
abbrev pub hears : Chip → Frame → Ask
hears c f = heard c.busy (length c.image) (ordered f.sent f.wanted)

-- THE MACHINE. Two results have no rule, and are arguments: what bit 1 shows while busy (that of w), and the
-- busy count after a cycle (k).
abbrev pub answer : ℕ → Chip → Frame → List ℕ
answer w c f = reply w c (hears c f) f.wanted

abbrev pub after : ℕ → Chip → Frame → Chip
after k c f = act k c (hears c f)

-- refused if the bytes sent and wanted are more than the longest frame
abbrev pub verdict : ℕ → Frame → Result (Unit {0}) PortFault
verdict longest f = cond (nat_le (length f.sent + f.wanted) longest) (Ok tt) (Err (TooLong longest))

-- frames lead from one chip to another, each cycle setting the busy count to k
pub data Runs (k : ℕ) : Chip → List Frame → Chip → Type 0 where
  none : {c : Chip} → Runs k c [] c
  step : {c d : Chip} {f : Frame} {fs : List Frame} → Runs k (after k c f) fs d → Runs k c (f ∷ fs) d
