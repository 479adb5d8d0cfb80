use Rattle.std.proofs.Common.{◌≡◌, ◌+◌, ◌-◌, ◌*◌, ◌≤◌}
use Rattle.least.specs.Fewest.{fewest}
use Rattle.planner.specs.Asking.{bytes_below}
use Rattle.planner.specs.Looking.{LookedBy}
use Rattle.planner.specs.Survey.{off_from}
use Rattle.planner.proofs.survey.erase_costs.Given as goal

abbrev pub invariant-loop-q : goal.invariant-loop-q
invariant-loop-q g l =
    LookedBy g.P.Part (bytes_below (g.P.Part.meaning l.initial.part) l.write.address l.write.bytes.now l.limit l.initial.cost l.first (l.q - l.first)) l.initial.part l.part
    × (l.cost.0 ≤ l.initial.cost.0 + (l.q - l.first)) × (l.cost.1 ≤ l.initial.cost.1 + 64 * (l.q - l.first))
    × (l.cost ≡ fewest.plus l.initial.cost (off_from (g.P.Part.meaning l.initial.part) l.write.address l.write.bytes.now l.first (l.q - l.first)))
