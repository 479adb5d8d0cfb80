use Rattle.std.proofs.Common.{ℕ, ◌+◌, ◌-◌, ◌≤◌, not, [], ◌∷◌, length, sym, refl, arith}
use Rattle.std.proofs.lemmas.Result.{err_from_is_err_and}
use Rattle.port.specs.Chip.{Chip}
use Rattle.part.specs.declared.outline.Outline.{Outline}
use Rattle.part.specs.Meaning.{asked}
use Rattle.part.specs.Outline.{outlined}
use Rattle.part.proofs.Playing.{played_read}
use Rattle.part.proofs.Refusals.{read-inside, unrefused}
use Rattle.driver.specs.Frames.{reads}
use Rattle.driver.specs.Joins.{drives_none}
use Rattle.driver.proofs.Reading.{reads_carry, reads-harmless, reads_no_status}
use Rattle.driver.proofs.Driven.{drives_quiet, rests}
use Rattle.driver.proofs.driver_part.DriverPart.read.Goals as goal

pub returns-in_err-check_read-clause-trace : goal.returns-in_err-check_read-clause-trace
returns-in_err-check_read-clause-trace g c =
    let p = err_from_is_err_and c.from_residual.result c.from_residual.ensures.1 in
    let s = c.args.self.now in rw p.1 ([], g.met.P.Port.stays s.port, drives_none s.outline (g.P.Port.chip s.port))

pub returns-clause-trace : goal.returns-clause-trace
returns-clause-trace g c =
    let o : Outline = c.args.self.now.outline in
    let chip : Chip = g.P.Port.chip c.args.self.now.port in
    let a : ℕ = c.args.address in
    let n : ℕ = length c.args.into.now in
    let room : ℕ = g.P.Port.longest c.args.self.now.port - 4 in
    let within = read-inside (outlined o) (not o.busy) a n (sym (unrefused _ c.in_ok-check_read.ensures)) in
    let few : a + n ≤ 16777216 = omega (arith, within.0, o.geometry.small) in (
      reads room a n,
      c.read.ensures.trace,
      drives_quiet o chip _ (reads room a n) (asked n ∷ []) c.read.ensures.chip (reads_carry room a n chip few) (reads-harmless room a n chip few) (reads_no_status room a n few) refl refl
          (played_read _ _ n (rests o chip within.1) refl),
    )
