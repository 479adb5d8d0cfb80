use Rattle.std.proofs.Common.{◌≡◌, ℕ, ◌+◌, ◌-◌, ◌≤◌, List, sym, ap, ◌∙◌, subst, ap₂, arith, le_of_eq}
use Rattle.std.proofs.lemmas.Bool.{cond-true, cond-false}
use Rattle.part.specs.Meaning.{Meaning}
use Rattle.least.specs.Cost.{sum_to}
use Rattle.least.specs.Fewest.{fewest}
use Rattle.planner.specs.Asking.{bytes_below}
use Rattle.planner.specs.Survey.{below, preset_off, off_from, on_from, erased_from}
use Rattle.least.proofs.Laws.{fewest_lawful}
use Rattle.least.proofs.Sums.{Le}
use Rattle.planner.proofs.Askings.{below_front, below_next}
use Rattle.planner.proofs.Lookings.{looked_join, looked_most}
use Rattle.planner.proofs.Surveys.{erased_is}
use Rattle.planner.proofs.Totals.{parts, sum_next, sum-front}
use Rattle.planner.proofs.survey.erase_costs.Goals as goal

-- no more was asked for than if the look had gone on
within :
    (m : Meaning) (a : ℕ) (b : List ℕ) (limit start cost : ℕ × ℕ) (first count j : ℕ) → start ≡ cost → j ≤ count
    → bytes_below m a b limit start first j ≤ bytes_below m a b limit cost first count
within m a b limit start cost first count j e h =
    subst (λ (x : ℕ × ℕ). bytes_below m a b limit start first j ≤ bytes_below m a b limit x first count) e
    (below_front m a b limit start first count j h)

pub returns-then-at_most-clause-looked : goal.returns-then-at_most-clause-looked
returns-then-at_most-clause-looked g c =
    looked_most g.P.Part _ _ _ _ c.loop-q.invariant.0
    (within (g.P.Part.meaning c.args.part.now) c.args.write.address c.args.write.bytes.now c.args.limit _ _ c.args.first c.args.count
    (c.loop-q.q - c.args.first) c.plus-cost.ensures (omega arith))

pub returns-then-at_most-clause-value : goal.returns-then-at_most-clause-value
returns-then-at_most-clause-value g c =
    let inv = c.loop-q.invariant in
    let a = c.args.write.address in
    let b = c.args.write.bytes.now in
    let m = g.P.Part.meaning c.args.part.now in
    let n = c.args.count in
    let L = fewest_lawful 64 in
    let start : ℕ × ℕ = fewest.plus (1, 0) c.args.presets in
    let f : ℕ → ℕ × ℕ = λ i. preset_off m a b (c.args.first + i) in
    λ e.
    sym (cond-true _ _ _
    (subst (λ (x : ℕ × ℕ). Le fewest c.args.limit x) (erased_is m a b c.args.first n c.args.presets e)
    (L.leq_trans c.args.limit c.loop-q.cost (fewest.plus start (sum_to fewest n f)) (sym c.if-at_most.ensures)
    (subst (λ (x : ℕ × ℕ). Le fewest x (fewest.plus start (sum_to fewest n f))) (sym (inv.3 ∙ ap (λ x. fewest.plus x (sum_to fewest (c.loop-q.q - c.args.first) f)) c.plus-cost.ensures))
    (L.plus_mono start start (sum_to fewest (c.loop-q.q - c.args.first) f) (sum_to fewest n f) (L.leq_refl start) (sum-front L f n (c.loop-q.q - c.args.first) (omega arith)))))))

pub loop-q-preserved : goal.loop-q-preserved
loop-q-preserved g c =
    let inv = c.loop-q.invariant in
    let page = c.rest_cost.ensures in
    let a = c.args.write.address in
    let b = c.args.write.bytes.now in
    let m = g.P.Part.meaning c.args.part.now in
    let start : ℕ × ℕ = c.plus-cost.result in
    let f : ℕ → ℕ × ℕ = λ i. preset_off m a b (c.args.first + i) in
    let sum = parts _ _ _ c.plus-cost-in-loop-q.ensures in (
      looked_join g.P.Part g.met.P.Part.joins _ _ _ _ _ _ inv.0 page.looked
          (le_of_eq (sym (below_next m a b c.args.limit start c.args.first c.loop-q.q (omega arith) (ap (λ (x : ℕ × ℕ). fewest.leq c.args.limit x) (sym inv.3) ∙ sym c.if-at_most.ensures)))),
      omega (arith, inv.1, page.bound, sum.0),
      omega (arith, inv.2, page.bound, sum.1),
      c.plus-cost-in-loop-q.ensures
          ∙ ap₂ (λ x y. fewest.plus x y) inv.3
          (page.value ∙ ap (λ x. preset_off x a b c.loop-q.q) inv.0.same)
          ∙ ((fewest_lawful 64).plus_assoc start (sum_to fewest (c.loop-q.q - c.args.first) f) (preset_off m a b c.loop-q.q)
          ∙ ap (λ x. fewest.plus start x) (sym (sum_next fewest (preset_off m a b) c.args.first c.loop-q.q (omega arith)))),
    )

-- the cost, once no page is left
ended :
    (m : Meaning) (a : ℕ) (b : List ℕ) (first count j : ℕ) (presets cost : ℕ × ℕ) → j ≡ count
    → cost ≡ fewest.plus (fewest.plus (1, 0) presets) (off_from m a b first j) → presets ≡ on_from m a b first count
    → cost ≡ erased_from m a b first count
ended m a b first count j presets cost d t e =
    t ∙ (ap (λ n. fewest.plus (fewest.plus (1, 0) presets) (off_from m a b first n)) d ∙ erased_is m a b first count presets e)

pub returns-then-at_most-2-clause-looked : goal.returns-then-at_most-2-clause-looked
returns-then-at_most-2-clause-looked g c =
    looked_most g.P.Part _ _ _ _ c.loop-q.invariant.0
    (within (g.P.Part.meaning c.args.part.now) c.args.write.address c.args.write.bytes.now c.args.limit _ _ c.args.first c.args.count
    (c.loop-q.q - c.args.first) c.plus-cost.ensures (omega arith))

pub returns-else-at_most-2-clause-looked : goal.returns-else-at_most-2-clause-looked
returns-else-at_most-2-clause-looked g c =
    looked_most g.P.Part _ _ _ _ c.loop-q.invariant.0
    (within (g.P.Part.meaning c.args.part.now) c.args.write.address c.args.write.bytes.now c.args.limit _ _ c.args.first c.args.count
    (c.loop-q.q - c.args.first) c.plus-cost.ensures (omega arith))

pub returns-then-at_most-2-clause-value : goal.returns-then-at_most-2-clause-value
returns-then-at_most-2-clause-value g c =
    let m = g.P.Part.meaning c.args.part.now in
    let a = c.args.write.address in
    let b = c.args.write.bytes.now in
    let first = c.args.first in
    let j = c.loop-q.q - first in
    λ e.
    sym (cond-true _ _ _
    (subst (λ (x : ℕ × ℕ). Le fewest c.args.limit x)
    (ended m a b first c.args.count j c.args.presets c.loop-q.cost (omega arith) (c.loop-q.invariant.3 ∙ ap (λ x. fewest.plus x (off_from m a b first j)) c.plus-cost.ensures) e)
    (sym c.if-at_most-2.ensures)))

pub returns-else-at_most-2-clause-value : goal.returns-else-at_most-2-clause-value
returns-else-at_most-2-clause-value g c =
    let m = g.P.Part.meaning c.args.part.now in
    let a = c.args.write.address in
    let b = c.args.write.bytes.now in
    let first = c.args.first in
    let j = c.loop-q.q - first in
    λ e.
    sym (cond-false _ _ _ (sym c.if-at_most-2.ensures))
    ∙ ap (below c.args.limit)
    (ended m a b first c.args.count j c.args.presets c.loop-q.cost (omega arith) (c.loop-q.invariant.3 ∙ ap (λ x. fewest.plus x (off_from m a b first j)) c.plus-cost.ensures) e)
