use Rattle.std.proofs.Common.{◌≡◌, [], ◌∷◌, length, ap, ◌∙◌, subst, arith}
use Rattle.port.specs.declared.instruction.Operation.{Operation}
use Rattle.port.specs.Build.{built}
use Rattle.port.specs.Machine.{Frame, frame, after}
use Rattle.driver.specs.Frames.{cycle_frame}
use Rattle.port.specs.Operations.{operation_of}
use Rattle.port.proofs.Building.{length-enable}
use Rattle.driver.proofs.Sending.{length-cycle, after-enable}
use Rattle.driver.proofs.cycle.send.Goals as goal

pub ask-requires : goal.ask-requires
ask-requires g c =
    let l = length-enable in
    let s = (g.met.P.Port.sound c.args.port.now).1 in (omega arith, omega arith)

pub ask-requires-2 : goal.ask-requires-2
ask-requires-2 g c =
    let s = (g.met.P.Port.sound c.args.port.now).1 in
    let e = c.ask.ensures.longest in
    let o : length (built c.from.result c.args.address c.args.data.now) ≡ length (built (operation_of c.args.kind) c.args.address c.args.data.now) =
    ap (λ x. length (built x c.args.address c.args.data.now)) c.from.ensures in
    let l = length-cycle c.args.kind c.args.address c.args.data.now c.requires.1 in
    (omega arith, omega arith)

pub returns : goal.returns
returns g c =
    let chip = g.P.Port.chip c.args.port.now in
    let frame_of : Operation → Frame = λ o. frame (built o c.args.address c.args.data.now) 0 in
    let o = c.from.ensures in
    let T : Operation → Type 0 = λ x. g.P.Port.trace c.ask.new.port c.ask-2.new.port (frame_of x ∷ []) in
    record {
      chip =
          c.ask-2.ensures.chip
          ∙ ap (λ x. after (g.P.Port.chip c.ask-2.new.port).busy (g.P.Port.chip c.ask.new.port) (frame_of x)) o
          ∙ ap (λ x. after (g.P.Port.chip c.ask-2.new.port).busy x (cycle_frame c.args.kind c.args.address c.args.data.now))
          (c.ask.ensures.chip ∙ after-enable (g.P.Port.chip c.ask.new.port).busy chip);
      trace = g.met.P.Port.joins _ _ _ _ _ c.ask.ensures.trace (subst T o c.ask-2.ensures.trace);
    }
