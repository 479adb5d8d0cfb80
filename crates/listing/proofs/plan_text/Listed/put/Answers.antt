use Rattle.std.proofs.Common.{length, ap, arith}
use Rattle.port.proofs.Building.{length-enable}
use Rattle.least.specs.Steps.{step_cycle}
use Rattle.listing.specs.PlanFrames.{enabling, sending}
use Rattle.listing.specs.Writing.{line_text}
use Rattle.listing.proofs.Planned.{built_for, built-size, step-text}
use Rattle.listing.proofs.Sheets.{room_first, room_next, wrote_is, wrote_join}
use Rattle.listing.proofs.plan_text.Listed.put.Goals as goal

pub put_frame-requires : goal.put_frame-requires
put_frame-requires c =
    let d = c.args.self.now.«data».now in
    let s = c.args.self.now.step.now in
    let e = length-enable in
    record { short = omega arith; room = room_first c.args.sheet.now (line_text enabling) (line_text (sending (step_cycle d s))) (step-text d s) c.requires }

pub put_frame-requires-2 : goal.put_frame-requires-2
put_frame-requires-2 c =
    let d = c.args.self.now.«data».now in
    let s = c.args.self.now.step.now in
    let b = built-size d s c.into.result c.sent-sent.result.now c.into.ensures c.sent-sent.ensures c.args.self.now.listed in
    let f = built_for d s c.into.result c.sent-sent.result.now c.into.ensures c.sent-sent.ensures in
    let n = ap (λ x. length (line_text x)) f in
    let r = room_next (line_text (sending (step_cycle d s))) (step-text d s) c.requires c.put_frame.ensures in
    record { short = b.0; room = omega arith }

pub returns : goal.returns
returns c =
    let d = c.args.self.now.«data».now in
    let s = c.args.self.now.step.now in
    let f = built_for d s c.into.result c.sent-sent.result.now c.into.ensures c.sent-sent.ensures in
    wrote_join (step-text d s) c.requires c.put_frame.ensures (wrote_is c.put_frame-2.ensures (ap line_text f))
