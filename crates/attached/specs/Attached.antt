-- What is promised of calls to a fence over a driver that was just attached.
use Rattle.std.specs.Prelude.{◌≡◌, ℕ, List, replicate, Some, None}
use Rattle.port.specs.declared.port.Port.{Ghosts}
use Rattle.port.specs.Build.{status_frame}
use Rattle.part.specs.declared.part.Part as of_part
use Rattle.driver.specs.declared.driver.Driver.{Driver}
use Rattle.driver.specs.declared.fault.AttachFault.{AttachFault}
use Rattle.driver.specs.declared.fault.AttachFault.TheVariants.{Limit, Busy}
use Rattle.driver.specs.Attach.{attach_frames, rested, unattached}
use Rattle.driver.specs.Driving.{lowered}
use Rattle.driver.specs.Means.{driver_meaning, DriverTrace}
use Rattle.least.specs.declared.step.Step.{Step}
use Rattle.calls.specs.declared.call.Entry.{Entry}
use Rattle.calls.specs.Records.{Records}
use Rattle.calls.specs.History.{Kept, State}

module _ {P : Type 0} (ports : Ghosts P) where
  -- a driver of the port, as a part
  abbrev pub driving : of_part.Ghosts (Driver P ports)
  driving = record { meaning = driver_meaning ports; trace = DriverTrace ports }

  -- a driver attached to the port, with nothing due, and the calls made to a new fence over it
  pub record Played (limit : ℕ) (port : P) (steps : List Step) (sent : List ℕ) (before after : List Entry) (s : State (Driver P ports)) : Type 0 where
    pub attaches : unattached limit (ports.chip port).busy ≡ None
    pub driver : Driver P ports
    pub frames : ports.trace port driver.port (attach_frames (ports.chip port).busy)
    pub rests : ports.chip driver.port ≡ rested (ports.chip port)
    pub idle : (driver_meaning ports driver).due ≡ 0
    -- its calls are those handed in, and its record keeps the promise, whose image is at first the chip's
    pub image : (driver_meaning ports driver).image ≡ (ports.chip port).image
    pub records : Records before after
    pub kept : Kept driving driver steps sent after s

  -- the driver does not attach: the port is handed back as attaching leaves it
  abbrev pub Refused : ℕ → P → AttachFault → P → Type 0
  Refused limit port (Limit n) port' = (unattached limit (ports.chip port).busy ≡ Some (Limit n)) × (port' ≡ port)
  Refused limit port (Busy n) port' =
      (unattached limit (ports.chip port).busy ≡ Some (Busy n)) × (ports.chip port' ≡ lowered limit (ports.chip port)) × ports.trace port port' (replicate limit status_frame)
