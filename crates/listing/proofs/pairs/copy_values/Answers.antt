use Rattle.std.proofs.Common.{◌≡◌, ◌+◌, ◌*◌, ◌<◌, length, drop, ap, ◌∙◌, arith}
use Rattle.listing.specs.Values.{values, good}
use Rattle.listing.proofs.Drops.{pair_at}
use Rattle.listing.proofs.Spelling.{value_left, value_here, value_turn}
use Rattle.listing.proofs.pairs.copy_values.Goals as goal

pub overflow_mul-i : goal.overflow_mul-i
overflow_mul-i c =
    let h : c.loop-i.i < length (good (values 0 c.args.pairs.now)) = omega arith in
    let k = value_left c.args.pairs.now (3 * c.loop-i.i) c.loop-i.i h c.loop-i.invariant.0 in omega arith

pub slice_bounds-read_pair-count : goal.slice_bounds-read_pair-count
slice_bounds-read_pair-count c = let h : c.loop-i.i < length (good (values 0 c.args.pairs.now)) = omega arith in value_left c.args.pairs.now (3 * c.loop-i.i) c.loop-i.i h c.loop-i.invariant.0

pub slice_bounds-read_pair-start : goal.slice_bounds-read_pair-start
slice_bounds-read_pair-start c =
    let h : c.loop-i.i < length (good (values 0 c.args.pairs.now)) = omega arith in
    let k = value_left c.args.pairs.now (3 * c.loop-i.i) c.loop-i.i h c.loop-i.invariant.0 in omega arith

pub loop-i-preserved : goal.loop-i-preserved
loop-i-preserved c =
    let t = c.args.pairs.now in
    let i = c.loop-i.i in
    let h : i < length (good (values 0 t)) = omega arith in
    let k : i < length c.args.into.now = omega arith in
    let n : 3 * i + 3 ≡ 3 * (i + 1) = omega arith in
    let p = value_turn t c.args.into.now c.in-Some.value (3 * i) i c.loop-i.into (pair_at t (3 * i) c.in-Some.ensures.value) h k c.loop-i.invariant.0 c.loop-i.invariant.1 in
    (p.0 ∙ ap (λ m. good (values m (drop m t))) n, p.1)

pub unreachable-requires : goal.unreachable-requires
unreachable-requires c =
    let t = c.args.pairs.now in
    let i = c.loop-i.i in
    let h : i < length (good (values 0 t)) = omega arith in
    value_here t (3 * i) i h c.loop-i.invariant.0 (pair_at t (3 * i) c.in_default.ensures.value)
