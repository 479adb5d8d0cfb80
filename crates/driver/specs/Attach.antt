-- Attaching, and its refusals.
use Rattle.std.specs.Prelude.{ℕ, ◌+◌, cond, List, [], ◌∷◌, ◌++◌, replicate, Some, None, Option, nat_lt}
use Rattle.memory.specs.Row.{Row, rowed}
use Rattle.port.specs.Build.{status_frame}
use Rattle.port.specs.Chip.{Chip}
use Rattle.port.specs.Machine.{Frame}
use Rattle.part.specs.Limit.{allowed}
use Rattle.driver.specs.declared.fault.AttachFault.{AttachFault}
use Rattle.driver.specs.declared.fault.AttachFault.TheVariants.{Limit, Busy}
use Rattle.driver.specs.Frames.{identify_frame}

abbrev pub row : AttachFault → Row
row (Limit limit) = rowed 1 9 (limit ∷ [])
row (Busy polls) = rowed 1 3 (polls ∷ [])

-- why a driver does not attach with this poll limit to a chip that will show busy so many times, if it does not
abbrev pub unattached : ℕ → ℕ → Option AttachFault
unattached limit busy = cond (allowed limit) (cond (nat_lt busy limit) None (Some (Busy limit))) (Some (Limit limit))

-- the chip once it has shown idle
abbrev pub rested : Chip → Chip
rested c = record { capacity = c.capacity; image = c.image; status = c.status; latch = c.latch; busy = 0 }

-- polls until the chip shows idle, and then the identification and the status, once each
abbrev pub attach_frames : ℕ → List Frame
attach_frames busy = replicate (busy + 1) status_frame ++ (identify_frame ∷ status_frame ∷ [])
