use Rattle.std.proofs.Common.{Ok, Err, refl}
use Rattle.planner.specs.declared.run_fault.RunFault.TheVariants as runs
use Rattle.writing.specs.WriteRows.{unplanned_as}
use Rattle.writing.proofs.Carrying.{carried_as, carried-unplanned, carried-ran, ended_as}
use Rattle.writing.proofs.write.carry_out.Goals as goal

pub returns-in_err-cost : goal.returns-in_err-cost
returns-in_err-cost g c =
    let e = c.in_err-cost.ensures in
    let fault = c.in_err-cost.field-0.0 in
    carried_as _ g.met.P.Part.stays g.met.P.Part.joins _ _ _ _ _ _ _ _ _ _ (unplanned_as fault) c.from_residual.ensures.1
    (carried-unplanned _ g.met.P.Part.stays g.met.P.Part.joins _ _ _ _ _ _ _ _ _ fault c.requires.idle e.asked e.answer)

-- a run of the plan does not end so
pub unreachable-requires : goal.unreachable-requires
unreachable-requires g c =
    let e = c.in_ok-cost.ensures in
    let n = c.in-Err-Limit.field-0-0 in
    ended_as _ g.met.P.Part.stays g.met.P.Part.joins _ _ _ _ _ _ _ _ _ c.in_ok-cost.cost _ (runs.Limit n)
    (carried-ran _ g.met.P.Part.stays g.met.P.Part.joins _ _ _ _ _ _ _ _ _ _ _ _ _ (Err c.in-Err-Limit.field-0) (g.met.P.Part.sound _) c.requires.byte c.requires.limited
    c.requires.idle e.asked e.answer refl c.in-Err-Limit.ensures.ran) c.in-Err-Limit.field-0-is

pub unreachable-requires-in-Err-StillBusy : goal.unreachable-requires-in-Err-StillBusy
unreachable-requires-in-Err-StillBusy g c =
    let e = c.in_ok-cost.ensures in
    let n = c.in-Err-StillBusy.field-0-0 in
    ended_as _ g.met.P.Part.stays g.met.P.Part.joins _ _ _ _ _ _ _ _ _ c.in_ok-cost.cost _ (runs.StillBusy n)
    (carried-ran _ g.met.P.Part.stays g.met.P.Part.joins _ _ _ _ _ _ _ _ _ _ _ _ _ (Err c.in-Err-StillBusy.field-0) (g.met.P.Part.sound _) c.requires.byte c.requires.limited
    c.requires.idle e.asked e.answer refl c.in-Err-StillBusy.ensures.ran) c.in-Err-StillBusy.field-0-is

pub unreachable-requires-in-Err-Refused : goal.unreachable-requires-in-Err-Refused
unreachable-requires-in-Err-Refused g c =
    let e = c.in_ok-cost.ensures in
    let n = c.in-Err-Refused.field-0-0 in
    ended_as _ g.met.P.Part.stays g.met.P.Part.joins _ _ _ _ _ _ _ _ _ c.in_ok-cost.cost _ (runs.Refused n c.in-Err-Refused.field-0-1)
    (carried-ran _ g.met.P.Part.stays g.met.P.Part.joins _ _ _ _ _ _ _ _ _ _ _ _ _ (Err c.in-Err-Refused.field-0) (g.met.P.Part.sound _) c.requires.byte c.requires.limited
    c.requires.idle e.asked e.answer refl c.in-Err-Refused.ensures.ran) c.in-Err-Refused.field-0-is

pub returns-in-Err-Abandoned : goal.returns-in-Err-Abandoned
returns-in-Err-Abandoned g c =
    let e = c.in_ok-cost.ensures in
    rw c.in-Err-Abandoned.cycles-is
    (ended_as _ g.met.P.Part.stays g.met.P.Part.joins _ _ _ _ _ _ _ _ _ c.in_ok-cost.cost _ (runs.Abandoned _)
    (carried-ran _ g.met.P.Part.stays g.met.P.Part.joins _ _ _ _ _ _ _ _ _ _ _ _ _ (Err c.in-Err-Abandoned.field-0) (g.met.P.Part.sound _) c.requires.byte c.requires.limited
    c.requires.idle e.asked e.answer refl c.in-Err-Abandoned.ensures.ran) c.in-Err-Abandoned.field-0-is)

pub returns-in-Ok : goal.returns-in-Ok
returns-in-Ok g c =
    let e = c.in_ok-cost.ensures in
    carried-ran _ g.met.P.Part.stays g.met.P.Part.joins _ _ _ _ _ _ _ _ _ _ _ _ _ (Ok c.in-Ok.field-0) (g.met.P.Part.sound _) c.requires.byte c.requires.limited
    c.requires.idle e.asked e.answer refl c.in-Ok.ensures.ran
