use Rattle.std.proofs.Common.{◌≡◌, ℕ, ◌*◌, ◌<◌, ◌≤◌, List, [], ◌∷◌, Some, cond, eqb, refl, ap, ap₂, ◌∙◌, rules}
use borrow.Author.Tests.{tests}
use Rattle.std.specs.Coded.{le_prop}
use Rattle.std.specs.List.{find}
use Rattle.std.proofs.lemmas.Iterator.{YieldsList-from_slice}
use Rattle.std.proofs.lemmas.Iterator.Search.{find_from_yields_List}
use Rattle.memory.specs.declared.model.Model.{Model}
use Rattle.memory.specs.Models.{models, model, lookup}
use Rattle.memory.proofs.model.Model.find.Goals as goal

find_looks : (ms : List Model) (c : ℕ) → find (λ m. eqb m.capacity c) ms ≡ lookup ms c
find_looks [] c = refl
find_looks (m ∷ ms) c = ap (cond (eqb m.capacity c) (Some m)) (find_looks ms c)

-- a model is its numbers: their bounds have one proof each
same : (c s p : ℕ) (a a' : 0 < s) (b b' : s ≤ 128) (d d' : 0 < p) (e e' : p ≤ 2048) (f f' : s * p ≤ 262144)
    → model c s p a b d e f ≡ model c s p a' b' d' e' f'
same c s p a a' b b' d d' e e' f f' =
    ap (λ x. model c s p x b d e f) (le_prop a a')
    ∙ (ap (λ x. model c s p a' x d e f) (le_prop b b')
    ∙ (ap (λ x. model c s p a' b' x e f) (le_prop d d')
    ∙ (ap (λ x. model c s p a' b' d' x f) (le_prop e e') ∙ ap (λ x. model c s p a' b' d' e' x) (le_prop f f'))))

pub returns : goal.returns
unfolding models
returns c =
    let t : c.iter.result.rest.now ≡ models =
    c.iter.ensures.rest
    ∙ ap₂ (λ x xs. x ∷ xs) (same _ _ _ _ _ _ _ _ _ _ _ _ _) (ap₂ (λ x xs. x ∷ xs) (same _ _ _ _ _ _ _ _ _ _ _ _ _)
    (ap₂ (λ x xs. x ∷ xs) (same _ _ _ _ _ _ _ _ _ _ _ _ _) (ap₂ (λ x xs. x ∷ xs) (same _ _ _ _ _ _ _ _ _ _ _ _ _) refl))) in
    c.copied.ensures
    ∙ find_from_yields_List (λ (m : Model). eqb m.capacity c.args.capacity) _ _ c.find.result c.find.ensures.ran (YieldsList-from_slice models t) (λ x b q k. search (rules, tests))
    ∙ find_looks models c.args.capacity
