use Rattle.std.proofs.Common.{◌≡◌, ◌*◌, ◌≤◌, length, take, drop}
use Rattle.listing.specs.PlanFault.{first_unlisted}
use Rattle.listing.specs.PlanFrames.{plan_text}
use Rattle.listing.proofs.plan_text.text_len.Given as goal

abbrev pub invariant-loop-step : goal.invariant-loop-step
invariant-loop-step l =
    (first_unlisted l.data l.steps ≡ first_unlisted l.data (drop l.step-index l.steps))
    × (l.needed ≡ length (plan_text l.data (take l.step-index l.steps))) × (l.needed ≤ 207 * l.step-index)
