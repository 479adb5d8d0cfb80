use Rattle.std.proofs.Common.{◌≡◌, ◌*◌, ◌/◌, ◌-◌, ◌≤◌, length, drop}
use Rattle.listing.specs.Values.{values, tallied}
use Rattle.listing.proofs.pairs.count_pairs.Given as goal

abbrev pub invariant-loop-at : goal.invariant-loop-at
invariant-loop-at l =
    (tallied 0 (values 0 l.pairs) ≡ tallied (l.at / 3) (values l.at (drop l.at l.pairs)))
    × (l.at ≤ length l.pairs) × (3 * (l.at / 3) ≡ l.at)

abbrev pub decreases-loop-at : goal.decreases-loop-at
decreases-loop-at l = length l.pairs - l.at
