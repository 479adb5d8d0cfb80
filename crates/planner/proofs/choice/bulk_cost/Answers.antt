use Rattle.std.proofs.Common.{◌≡◌, ℕ, ◌*◌, sym, ap, ◌∙◌, ap₂, le_of_eq}
use Rattle.std.proofs.lemmas.Bool.{cond-true}
use Rattle.least.specs.Fewest.{fewest}
use Rattle.planner.specs.Asking.{bytes_below}
use Rattle.planner.specs.Survey.{below, erased_from, on_from}
use Rattle.planner.proofs.Lookings.{looked_most}
use Rattle.planner.proofs.Surveys.{bulk_flat, on_flat}
use Rattle.planner.proofs.choice.bulk_cost.Goals as goal

pub returns-clause-looked : goal.returns-clause-looked
returns-clause-looked g c =
    let m = g.P.Part.meaning c.args.part.now in
    let a = c.args.write.address in
    let b = c.args.write.bytes.now in
    let n = c.sectors.result * c.pages.result in
    let e : n ≡ m.shape.sectors * m.shape.pages = ap₂ (λ x y. x * y) c.sectors.ensures c.pages.ensures in
    let asked : ℕ → ℕ = λ x. bytes_below m a b c.args.limit (fewest.plus (1, 0) c.args.presets) 0 x in
    looked_most g.P.Part _ _ _ _ c.erase_costs.ensures.looked (le_of_eq (ap asked e ∙ sym (cond-true _ _ _ (sym c.if-not-is_free.ensures))))

pub returns-clause-value : goal.returns-clause-value
returns-clause-value g c =
    let m = g.P.Part.meaning c.args.part.now in
    let a = c.args.write.address in
    let b = c.args.write.bytes.now in
    let e : c.sectors.result * c.pages.result ≡ m.shape.sectors * m.shape.pages = ap₂ (λ x y. x * y) c.sectors.ensures c.pages.ensures in
    λ t.
    c.erase_costs.ensures.value (t ∙ (on_flat m a b ∙ ap (λ n. on_from m a b 0 n) (sym e)))
    ∙ (ap (below c.args.limit) (ap (λ n. erased_from m a b 0 n) e ∙ bulk_flat m a b) ∙ sym (cond-true _ _ _ (sym c.if-not-is_free.ensures)))
