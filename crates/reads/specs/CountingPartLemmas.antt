-- The count of a counting part, which stops at the largest number: kept, and added up. These are lemmas; they stand here since the
-- laws `stays` and `joins` are proved in src/.
use Rattle.std.specs.Prelude.{◌≡◌, ℕ, ◌+◌, min}
use Rattle.std.proofs.Common.{arith}
use Rattle.least.specs.Fewest.{largest}

pub stayed : (a : ℕ) → min a largest ≡ min (a + 0) largest
stayed a = omega arith

pub joined :
    (a b c x y z : ℕ) → min b largest ≡ min (a + x) largest → min c largest ≡ min (b + y) largest → z ≡ x + y
    → min c largest ≡ min (a + z) largest
joined a b c x y z p q e = omega arith
