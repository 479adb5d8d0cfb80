use Rattle.std.proofs.Common.{get_or, ap, ◌∙◌, arith}
use Rattle.driver.proofs.Hearing.{length-status, answer-status, after-status}
use Rattle.driver.proofs.poll.status.Goals as goal

pub ask-requires : goal.ask-requires
ask-requires g c =
    let l = length-status in
    let s = (g.met.P.Port.sound c.args.port.now).1 in (omega arith, omega arith)

pub returns-clause-byte : goal.returns-clause-byte
returns-clause-byte g c =
    ap (λ l. get_or l 0 0) (c.ask.ensures.back ∙ answer-status (get_or c.ask.new.back 0 0) (g.P.Port.chip c.args.port.now))

pub returns-clause-chip : goal.returns-clause-chip
returns-clause-chip g c = c.ask.ensures.chip ∙ after-status (g.P.Port.chip c.ask.new.port).busy (g.P.Port.chip c.args.port.now)
