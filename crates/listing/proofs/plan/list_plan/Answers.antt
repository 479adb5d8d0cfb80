use Rattle.std.proofs.Common.{◌≡◌, ◌≤◌, length, sym, ap, ◌∙◌, arith, rules}
use Rattle.least.specs.Steps.{cycles_of}
use Rattle.listing.specs.PlanFault.{first_unlisted}
use Rattle.listing.specs.PlanFrames.{plan_text, kept}
use Rattle.listing.proofs.Laying.{put_start, over-fits}
use Rattle.listing.proofs.Played.{has_effect}
use Rattle.listing.proofs.Sendings.{plan-reads}
use Rattle.listing.proofs.Sheets.{sheet_text}
use Rattle.listing.proofs.plan.list_plan.Goals as goal

pub returns-in_err-needed-clause-reads : goal.returns-in_err-needed-clause-reads
returns-in_err-needed-clause-reads c = plan-reads c.args.data.now c.args.steps.now (λ i. omega (arith, c.type_inv.data i))

pub returns-in_err-needed-clause-effect : goal.returns-in_err-needed-clause-effect
returns-in_err-needed-clause-effect c = has_effect (cycles_of c.args.data.now c.args.steps.now)

pub returns-in_err-check_room-clause-reads : goal.returns-in_err-check_room-clause-reads
returns-in_err-check_room-clause-reads c = plan-reads c.args.data.now c.args.steps.now (λ i. omega (arith, c.type_inv.data i))

pub returns-in_err-check_room-clause-effect : goal.returns-in_err-check_room-clause-effect
returns-in_err-check_room-clause-effect c = has_effect (cycles_of c.args.data.now c.args.steps.now)

pub returns-clause-buffer : goal.returns-clause-buffer
returns-clause-buffer c =
    let d = c.args.data.now in
    let s = c.args.steps.now in
    let l = c.args.into.now in
    let e = sym c.in_ok-needed.ensures.0 in
    let k = c.in_ok-needed.ensures.1 in
    let h : length (plan_text d s) ≤ length l = omega arith in
    let t = sheet_text c.new-sheet.ensures.place c.new-sheet.ensures.buffer c.put_steps.ensures in
    let n = c.put_steps.ensures.same ∙ c.new-sheet.ensures.same in
    let b : c.put_steps.new.sheet.into.now ≡ kept (first_unlisted d s) (plan_text d s) l = t.1 ∙ put_start (plan_text d s) l ∙ sym (over-fits (plan_text d s) l h) ∙ ap (λ o. kept o (plan_text d s) l) e in
    search (rules, sym n, b)

pub returns-clause-reads : goal.returns-clause-reads
returns-clause-reads c = plan-reads c.args.data.now c.args.steps.now (λ i. omega (arith, c.type_inv.data i))

pub returns-clause-effect : goal.returns-clause-effect
returns-clause-effect c = has_effect (cycles_of c.args.data.now c.args.steps.now)
