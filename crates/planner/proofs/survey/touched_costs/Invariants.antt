use Rattle.std.proofs.Common.{◌≡◌, ◌-◌}
use Rattle.planner.specs.Asking.{bytes_on}
use Rattle.planner.specs.Looking.{LookedBy}
use Rattle.planner.specs.Survey.{UpTo, kept_from, on_from}
use Rattle.planner.proofs.survey.touched_costs.Given as goal

abbrev pub invariant-loop-q : goal.invariant-loop-q
invariant-loop-q g l =
    let m = g.P.Part.meaning l.initial.part in
    let a = l.write.address in
    let b = l.write.bytes.now in
    LookedBy g.P.Part (bytes_on a b l.first (l.q - l.first)) l.initial.part l.part
    × UpTo (l.q - l.first) l.costs.cost × UpTo (l.q - l.first) l.costs.presets
    × (l.costs.cost ≡ kept_from m a b l.first (l.q - l.first))
    × (l.costs.presets ≡ on_from m a b l.first (l.q - l.first))
