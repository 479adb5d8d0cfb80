use Rattle.std.proofs.Common.{◌≡◌, ◌+◌, ◌-◌, refl, arith}
use Rattle.part.proofs.Playing.{played_poll}
use Rattle.side_by_side.proofs.Slows.{slow_last, slow_more}
use Rattle.side_by_side.proofs.slow_part.SlowImagePart.poll.Goals as goal

pub returns-then-self-eq0-clause-trace : goal.returns-then-self-eq0-clause-trace
returns-then-self-eq0-clause-trace c =
    let s = c.args.self.now in
    (played_poll _ _ (slow_last s c.poll.new.self c.if-self-eq0.true c.poll.ensures.waited), refl)

pub returns-clause-trace : goal.returns-clause-trace
returns-clause-trace c =
    let s = c.args.self.now in
    let e : s.left ≡ s.left - 1 + 1 = omega arith in
    (played_poll _ _ (slow_more s (s.left - 1) e), refl)
