use Rattle.std.proofs.Common.{length, sym, refl, ap, ◌∙◌, arith}
use Rattle.listing.proofs.Planned.{first_on, text_none, size_more}
use Rattle.listing.proofs.plan_text.text_len.Goals as goal

pub loop-step-init : goal.loop-step-init
loop-step-init c = (refl, sym (ap length (text_none c.args.data.now)), omega arith)

pub loop-step-preserved : goal.loop-step-preserved
loop-step-preserved c =
    let d = c.args.data.now in
    let s = c.args.steps.now in
    let i = c.loop-step.step-index in
    let h = c.loop-step-test.true in
    let e = c.in_ok-new.ensures in
    let m = c.len.ensures.most in
    let u = rw (e.0, e.1) at c.in_ok-new.field-0.listed in
    let t = size_more d s i _ _ h (rw (e.0, e.1) at c.len.ensures.exact) in
    (c.loop-step.invariant.0 ∙ first_on d s i _ h u, omega arith, omega arith)
