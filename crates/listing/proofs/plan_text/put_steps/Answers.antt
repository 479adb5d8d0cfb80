use Rattle.listing.proofs.Planned.{unlisted_at, text_none, step_room, step_turn}
use Rattle.listing.proofs.Sheets.{wrote_none}
use Rattle.listing.proofs.plan_text.put_steps.Goals as goal

pub loop-step-init : goal.loop-step-init
loop-step-init c = wrote_none c.args.sheet.now (text_none c.args.data.now)

pub invariant_of-put : goal.invariant_of-put
invariant_of-put c = record { listed = unlisted_at c.args.data.now c.args.steps.now c.loop-step.step-index _ c.requires.listable c.loop-step-test.true }

pub put-requires : goal.put-requires
put-requires c = step_room c.args.data.now c.args.steps.now c.loop-step.step-index _ c.loop-step-test.true c.requires.room c.loop-step.invariant

pub loop-step-preserved : goal.loop-step-preserved
loop-step-preserved c = step_turn c.args.data.now c.args.steps.now c.loop-step.step-index _ c.loop-step-test.true c.requires.room c.loop-step.invariant c.put.ensures
