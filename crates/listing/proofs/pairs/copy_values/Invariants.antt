use Rattle.std.proofs.Common.{◌≡◌, ◌*◌, ◌++◌, take, drop}
use Rattle.listing.specs.Values.{values, good}
use Rattle.listing.proofs.pairs.copy_values.Given as goal

abbrev pub invariant-loop-i : goal.invariant-loop-i
invariant-loop-i l =
    (drop l.i (good (values 0 l.pairs)) ≡ good (values (3 * l.i) (drop (3 * l.i) l.pairs)))
    × (l.into ≡ take l.i (good (values 0 l.pairs)) ++ drop l.i l.initial.into)
