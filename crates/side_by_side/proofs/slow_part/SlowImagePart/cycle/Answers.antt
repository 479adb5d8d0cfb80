use Rattle.std.proofs.Common.{refl}
use Rattle.std.proofs.lemmas.Result.{err_from_is_err_and}
use Rattle.part.proofs.Playing.{played_none}
use Rattle.side_by_side.proofs.Slows.{slowly_same, slow_cycle}
use Rattle.side_by_side.proofs.slow_part.SlowImagePart.cycle.Goals as goal

pub returns-in_err-cycle-clause-trace : goal.returns-in_err-cycle-clause-trace
returns-in_err-cycle-clause-trace c =
    let p = err_from_is_err_and c.from_residual.result c.from_residual.ensures.1 in
    rw p.1 (played_none _ _ (slowly_same c.args.self.now c.cycle.new.self (c.in_err-cycle.ensures.undone refl)), refl)

pub returns-clause-trace : goal.returns-clause-trace
returns-clause-trace c = (slow_cycle c.args.self.now c.cycle.new.self _ c.in_ok-cycle.ensures.trace.0, refl)
