use Rattle.std.proofs.Common.{◌≡◌, take, drop}
use Rattle.calls.specs.Records.{Records}
use Rattle.calls.specs.History.{state}
use Rattle.calls.proofs.Histories.{SoFar}
use Rattle.calls.proofs.perform.perform.Given as goal

-- the calls so far are recorded, the others are as they were lent, and the record so far keeps the law
abbrev pub invariant-loop-entry : goal.invariant-loop-entry
invariant-loop-entry g l =
    Records (take l.entry-index l.initial.entries) (take l.entry-index l.entries)
    × (drop l.entry-index l.entries ≡ drop l.entry-index l.initial.entries)
    × SoFar g.P.Part l.initial.fence.part l.initial.steps l.initial.«data» (take l.entry-index l.entries) (state l.fence l.steps l.«data»)
