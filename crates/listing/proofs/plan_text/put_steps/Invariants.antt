use Rattle.std.proofs.Common.{take}
use Rattle.listing.specs.PlanFrames.{plan_text}
use Rattle.listing.specs.Sheets.{Wrote}
use Rattle.listing.proofs.plan_text.put_steps.Given as goal

abbrev pub invariant-loop-step : goal.invariant-loop-step
invariant-loop-step l = Wrote l.initial.sheet l.sheet (plan_text l.data (take l.step-index l.steps))
