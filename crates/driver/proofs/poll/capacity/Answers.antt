use Rattle.std.proofs.Common.{get_or, ap, ◌∙◌, arith}
use Rattle.driver.proofs.Hearing.{length-identify, answer-identify, after-identify}
use Rattle.driver.proofs.poll.capacity.Goals as goal

pub ask-requires : goal.ask-requires
ask-requires g c =
    let l = length-identify in
    let s = (g.met.P.Port.sound c.args.port.now).1 in (omega arith, omega arith)

pub returns-clause-byte : goal.returns-clause-byte
returns-clause-byte g c = λ b.
    ap (λ l. get_or l 2 0) (c.ask.ensures.back ∙ answer-identify (get_or c.ask.new.back 0 0) (g.P.Port.chip c.args.port.now) b)

pub returns-clause-chip : goal.returns-clause-chip
returns-clause-chip g c = c.ask.ensures.chip ∙ after-identify (g.P.Port.chip c.ask.new.port).busy (g.P.Port.chip c.args.port.now)
