-- What a driver means: the chip behind its port, seen through what it remembers of it.
use Rattle.std.specs.Prelude.{◌≡◌, ℕ, ◌+◌, ◌-◌, false, cond, List, [], ◌∷◌}
use Rattle.port.specs.Chip.{Chip, shape}
use Rattle.port.specs.Machine.{Frame}
use Rattle.part.specs.declared.outline.Outline.{Outline}
use Rattle.part.specs.Meaning.{Meaning, Event, Tells, asked, carried, polled, cycles, polls}
use Rattle.part.specs.Outline.{outlined, guards}
use Rattle.driver.specs.Carries.{Carries, Harmless, status_reads}

-- after a cycle the chip shows busy so many times and then idle; once idle was seen nothing is due
abbrev pub seen : Outline → Chip → Meaning
seen o c = record {
  shape = outlined o;
  image = c.image;
  guarded = guards o.status.bits o.geometry.sectors;
  due = cond o.busy (c.busy + 1) 0;
}

-- what is remembered is true of the chip
pub record Intact (o : Outline) (c : Chip) : Type 0 where
  pub shape : shape c ≡ outlined o
  pub status : c.status ≡ o.status.bits
  pub idle : o.busy ≡ false → c.busy ≡ 0

-- no cycle and no poll: reads at most
abbrev pub Quiet : List Event → Type 0
Quiet [] = Unit {0}
Quiet (asked n ∷ es) = Quiet es
Quiet (carried y ∷ es) = ⊥
Quiet (polled ∷ es) = ⊥

-- THE DRIVER'S PROMISE for the frames sent between two states: one status read for each poll, what is remembered of
-- shape and status stays, and the cycles that the frames carry out are exactly those of the events. Reads, and calls
-- that are refused, send no frame that alters the chip. The events lead from what the driver meant to what it means.
pub record Drives (o : Outline) (c : Chip) (fs : List Frame) (p : Outline) (d : Chip) (es : List Event) : Type 0 where
  pub polls : status_reads fs ≡ polls es
  pub shape : outlined p ≡ outlined o
  pub status : p.status.bits ≡ o.status.bits
  pub carries : Carries c fs d (cycles es)
  pub harmless : Quiet es → (d ≡ c) × Harmless c fs
  pub tells : Tells (seen o c) es (seen p d)

-- n status reads later
abbrev pub lowered : ℕ → Chip → Chip
lowered n c = record { capacity = c.capacity; image = c.image; status = c.status; latch = c.latch; busy = c.busy - n }
