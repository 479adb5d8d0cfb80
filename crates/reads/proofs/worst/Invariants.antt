use Rattle.std.proofs.Common.{◌≡◌}
use Rattle.reads.proofs.worst.Given as goal

-- one plan for each number
abbrev pub invariant-loop-number : goal.invariant-loop-number
invariant-loop-number l = l.plans.made ≡ l.number
