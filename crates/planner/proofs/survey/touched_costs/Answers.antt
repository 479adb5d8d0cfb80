use Rattle.std.proofs.Common.{sym, ap, ◌∙◌, ap₂, arith, le_of_eq}
use Rattle.least.specs.Fewest.{fewest}
use Rattle.planner.specs.Survey.{kept, preset_on}
use Rattle.planner.proofs.Askings.{on_next}
use Rattle.planner.proofs.Lookings.{looked_join}
use Rattle.planner.proofs.Totals.{parts, sum_next}
use Rattle.planner.proofs.survey.touched_costs.Goals as goal

pub loop-q-preserved : goal.loop-q-preserved
loop-q-preserved g c =
    let inv = c.loop-q.invariant in
    let page = c.page_costs.ensures in
    let a = c.args.write.address in
    let b = c.args.write.bytes.now in
    let m = g.P.Part.meaning c.args.part.now in
    let q = c.loop-q.q in
    let cost = parts _ _ _ c.add_assign.ensures.after.0 in
    let presets = parts _ _ _ c.add_assign.ensures.after.1 in (
      looked_join g.P.Part g.met.P.Part.joins _ _ _ _ _ _ inv.0 page.looked (le_of_eq (sym (on_next a b c.args.first c.loop-q.q (omega arith)))),
      (omega (arith, inv.1, page.bound, cost.0), omega (arith, inv.1, page.bound, cost.1)),
      (omega (arith, inv.2, page.bound, presets.0), omega (arith, inv.2, page.bound, presets.1)),
      c.add_assign.ensures.after.0
          ∙ ap₂ (λ x y. fewest.plus x y) inv.3 (page.kept ∙ ap (λ x. kept x a b q) inv.0.same)
          ∙ sym (sum_next fewest (kept m a b) c.args.first q (omega arith)),
      c.add_assign.ensures.after.1
          ∙ ap₂ (λ x y. fewest.plus x y) inv.4 (page.preset ∙ ap (λ x. preset_on x a b q) inv.0.same)
          ∙ sym (sum_next fewest (preset_on m a b) c.args.first q (omega arith)),
    )
