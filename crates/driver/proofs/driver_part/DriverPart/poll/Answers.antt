use Rattle.std.proofs.Common.{◌≡◌, not, ◌&&◌, eqb, [], ◌∷◌, sym, refl, ap, ◌∙◌}
use Rattle.port.specs.Build.{status_frame}
use Rattle.port.specs.Chip.{Chip}
use Rattle.part.specs.declared.outline.Outline.{Outline}
use Rattle.driver.proofs.Driven.{drives_poll}
use Rattle.driver.proofs.driver_part.DriverPart.poll.Goals as goal
use Rattle.driver.proofs.driver_part.DriverPart.poll.Goals.{then-self, else-self}

pub returns-clause-trace : goal.returns-clause-trace
returns-clause-trace g c =
    let o : Outline = c.args.self.now.outline in
    let chip : Chip = g.P.Port.chip c.args.self.now.port in
    let e = c.is_busy-busy.ensures.chip in
    let b : c.if-self.self ≡ (o.busy && not (eqb chip.busy 0)) = elim c.if-self.branch [
      | then-self w ↦ w.self-is ∙ c.is_busy-busy.ensures.busy ∙ sym (ap (λ x. x && not (eqb chip.busy 0)) w.if-self.true)
      | else-self w ↦ w.self-is ∙ w.if-self.false ∙ sym (ap (λ x. x && not (eqb chip.busy 0)) w.if-self.false)
    ] in
    (status_frame ∷ [], c.is_busy-busy.ensures.trace, drives_poll o _ chip (g.P.Port.chip c.is_busy-busy.new.port) refl refl b e)
