use Rattle.std.proofs.Common.{◌||◌, sym, ap, ◌∙◌}
use Rattle.fence.specs.Closed.{is_closed}
use Rattle.fence.proofs.Barring.{fenced-protection}
use Rattle.fence.proofs.fence_part.FencePart.is_protected.Goals as goal

pub returns-then-protected : goal.returns-then-protected
returns-then-protected g c =
    let f = c.args.self.now in
    fenced-protection (g.P.Part.meaning f.part) (g.met.P.Part.sound f.part) f.closed c.args.sector c.in_ok-protected.protected c.in_ok-protected.protected
    c.in_ok-protected.ensures (c.if-protected.true ∙ sym (ap (λ b. b || is_closed f.closed c.args.sector) c.if-protected.true))

pub returns-else-protected : goal.returns-else-protected
returns-else-protected g c =
    let f = c.args.self.now in
    fenced-protection (g.P.Part.meaning f.part) (g.met.P.Part.sound f.part) f.closed c.args.sector c.in_ok-protected.protected c.is_closed.result
    c.in_ok-protected.ensures (c.is_closed.ensures ∙ sym (ap (λ b. b || is_closed f.closed c.args.sector) c.if-protected.false))
