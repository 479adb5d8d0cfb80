use Rattle.std.proofs.Common.{◌≡◌, ◌-◌, ◌≤◌, length, drop}
use Rattle.listing.specs.Scan.{pairs}
use Rattle.listing.proofs.reader.Reader.pairs_end.Given as goal

abbrev pub invariant-loop-at : goal.invariant-loop-at
invariant-loop-at l = (pairs 0 l.rest ≡ pairs l.at (drop l.at l.rest)) × (l.at ≤ length l.rest)

abbrev pub decreases-loop-at : goal.decreases-loop-at
decreases-loop-at l = length l.rest - l.at
