use Rattle.std.proofs.Common.{◌≡◌, ◌+◌, ◌-◌, ◌≤◌, List, ◌++◌, length, take}
use Rattle.memory.specs.Page.{block}
use Rattle.port.specs.Machine.{Frame}
use Rattle.driver.specs.Frames.{reads}
use Rattle.driver.proofs.read.read.Given as goal

abbrev pub invariant-loop-done : goal.invariant-loop-done
invariant-loop-done g l =
    (l.done ≤ length l.initial.into)
    × (g.P.Port.chip l.port ≡ g.P.Port.chip l.initial.port)
    × (g.P.Port.longest l.port ≡ g.P.Port.longest l.initial.port)
    × ((fs : List Frame) × g.P.Port.trace l.initial.port l.port fs
    × (fs ++ reads l.room (l.address + l.done) (length l.initial.into - l.done) ≡ reads l.room l.address (length l.initial.into)))
    × ((g.P.Port.chip l.initial.port).busy ≡ 0 → l.address + length l.initial.into ≤ length (g.P.Port.chip l.initial.port).image
    → take l.done l.into ≡ block l.address l.done (g.P.Port.chip l.initial.port).image)
