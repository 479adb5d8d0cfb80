use Rattle.std.proofs.Common.{◌≡◌, Err, sym, refl, ap, ◌∙◌}
use Rattle.std.proofs.lemmas.Result.{err_from_is_err_and}
use Rattle.part.specs.declared.fault.PartFault.TheVariants.{Protected}
use Rattle.part.specs.Meaning.{Meaning, none}
use Rattle.part.specs.Verdict.{told, clean_at, verdict}
use Rattle.part.proofs.Refusals.{unrefused}
use Rattle.part.proofs.Telling.{tells_cycle}
use Rattle.fence.specs.Closed.{either, fenced}
use Rattle.fence.proofs.Barring.{formed-verdict, open_verdict}
use Rattle.fence.proofs.fence_part.FencePart.cycle.Goals as goal

pub returns-in_err-check_form-clause-trace : goal.returns-in_err-check_form-clause-trace
returns-in_err-check_form-clause-trace g c =
    let p = err_from_is_err_and c.from_residual.result c.from_residual.ensures.1 in
    rw p.1 (refl, g.met.P.Part.stays c.args.self.now.part, none)

pub returns-then-bars-clause-result : goal.returns-then-bars-clause-result
returns-then-bars-clause-result g c =
    let f = c.args.self.now in
    let m : Meaning = g.P.Part.meaning f.part in
    let o = unrefused _ c.in_ok-check_form.ensures in
    ap (λ a. Err (Protected a)) c.told_address.ensures
    ∙ ap told
    (sym (formed-verdict m (g.met.P.Part.sound f.part) f.closed (clean_at m c.args.address) c.args.kind c.args.address c.args.data.now (sym c.if-bars.ensures) _ _ c.size_of.ensures c.is_busy.ensures o))

pub returns-then-bars-clause-trace : goal.returns-then-bars-clause-trace
returns-then-bars-clause-trace g c = (refl, g.met.P.Part.stays c.args.self.now.part, none)

pub returns-clause-result : goal.returns-clause-result
returns-clause-result g c =
    let f = c.args.self.now in
    let m : Meaning = g.P.Part.meaning f.part in
    c.cycle.ensures.result
    ∙ ap told (open_verdict m (g.met.P.Part.sound f.part) f.closed (clean_at m c.args.address) c.args.kind c.args.address c.args.data.now (sym c.if-bars.ensures))

-- what the part below did not refuse, the fence accepts: no closed sector bars it
pub returns-clause-trace : goal.returns-clause-trace
returns-clause-trace g c =
    let f = c.args.self.now in
    let m : Meaning = g.P.Part.meaning f.part in
    let e = c.cycle.ensures in
    let r : c.cycle.result ≡ told (verdict (fenced m f.closed) c.args.kind c.args.address c.args.data.now) =
    e.result ∙ ap told (open_verdict m (g.met.P.Part.sound f.part) f.closed (clean_at m c.args.address) c.args.kind c.args.address c.args.data.now (sym c.if-bars.ensures)) in (
      refl,
      e.trace,
      tells_cycle (fenced m f.closed) _ c.args.kind c.args.address c.args.data.now c.cycle.result r e.shape (ap (λ l. either l f.closed) e.guarded)
          (λ x. ap (λ (y : Meaning). fenced y f.closed) (e.undone x)) e.image e.due,
    )
