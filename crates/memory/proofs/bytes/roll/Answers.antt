use Rattle.std.proofs.Common.{◌≡◌, ◌<◌, ◌+◌, ◌-◌, ◌%◌, cond, eqb, length, get_or, sym, refl, ap, ◌∙◌, arith, length-set, mod-lt, rules}
use Rattle.std.proofs.lemmas.Bool.{eq-eqb, ne_eqb, cond-true, cond-false}
use Rattle.std.proofs.lemmas.List.{take_all, append-nil}
use Rattle.memory.proofs.Loops.{roll_more, rolled_none, next_round}
use Rattle.memory.proofs.Rolled.{rolled-straight}
use Rattle.memory.proofs.bytes.roll.Goals.{then-at-bytes, else-at-bytes}
use Rattle.memory.proofs.bytes.roll.Goals as goal

pub returns-then-into-bytes-clause-rolled : goal.returns-then-into-bytes-clause-rolled
returns-then-into-bytes-clause-rolled c h =
    let at = c.args.from % length c.args.bytes.now in
    let b = mod-lt c.args.from h in
    let s = rolled-straight c.args.bytes.now c.args.from (length c.args.into.now) h (omega arith) in
    let e : at + length c.args.into.now - at ≡ length c.args.into.now = omega arith in cc

pub loop-byte-preserved : goal.loop-byte-preserved
loop-byte-preserved c =
    let bytes = c.args.bytes.now in
    let n = length c.loop-byte.into in
    let i = c.loop-byte.byte-index in
    let v = get_or bytes c.loop-byte.at 0 in
    let m = roll_more bytes c.loop-byte.into c.args.from i n v (omega arith) refl (ap (λ x. get_or bytes x 0) c.loop-byte.invariant.0) in
    let l = length-set c.loop-byte.into i v in
    (round, (cc c.loop-byte.invariant.1))
  where
    round : c.if-at-bytes.at ≡ (c.args.from + (c.loop-byte.byte-index + 1)) % length c.args.bytes.now
    round =
        let some : 0 < length c.args.bytes.now = search rules in
        let next = next_round (c.args.from + c.loop-byte.byte-index) (length c.args.bytes.now) c.loop-byte.at some c.loop-byte.invariant.0 in
        let e : c.args.from + c.loop-byte.byte-index + 1 ≡ c.args.from + (c.loop-byte.byte-index + 1) = omega arith in
        came ∙ next ∙ ap (λ x. x % length c.args.bytes.now) e
      where
        came : c.if-at-bytes.at ≡ cond (eqb (c.loop-byte.at + 1) (length c.args.bytes.now)) 0 (c.loop-byte.at + 1)
        came = elim c.if-at-bytes.branch [
          | then-at-bytes w ↦ w.at-is ∙ sym (cond-true _ _ _ (eq-eqb _ _ w.if-at-bytes.true))
          | else-at-bytes w ↦ w.at-is ∙ sym (cond-false _ _ _ (ne_eqb _ _ w.if-at-bytes.false))
        ]

pub returns-clause-rolled : goal.returns-clause-rolled
returns-clause-rolled c h =
    let n = length c.loop-byte.into in
    let i = c.loop-byte.byte-index in
    let t = take_all i c.loop-byte.into (omega arith) in
    let f = rolled_none c.args.bytes.now (c.args.from + i) (n - i) (omega arith) in
    let g = append-nil c.loop-byte.into in
    let k : n ≡ length c.args.into.now = omega arith in cc
