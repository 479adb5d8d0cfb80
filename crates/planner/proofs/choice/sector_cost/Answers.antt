use Rattle.std.proofs.Common.{◌≡◌, ℕ, ◌+◌, ◌*◌, Bool, true, false, cond, not, List, sym, ap, ◌∙◌, ap₂, arith, le_of_eq}
use Rattle.part.specs.Meaning.{Meaning}
use Rattle.least.specs.Cost.{lesser}
use Rattle.least.specs.Fewest.{fewest}
use Rattle.planner.specs.declared.chosen.Treatment.TheVariants.{Kept, Erased}
use Rattle.least.specs.Sectors.{sector_cost}
use Rattle.planner.specs.Asking.{bytes_below, bytes_on, for_costs}
use Rattle.planner.specs.Survey.{erased_from, erases, kept, kept_from, on_from, preset}
use Rattle.planner.proofs.Lookings.{looked_join}
use Rattle.planner.proofs.Surveys.{chose_first, chose_second}
use Rattle.planner.proofs.choice.sector_cost.Goals as goal

-- the choice, once both costs are known
chosen :
    (m : Meaning) (a : ℕ) (b : List ℕ) (k p : ℕ) (keep cost : ℕ × ℕ) (r : Bool × (ℕ × ℕ)) → p ≡ m.shape.pages
    → keep ≡ kept_from m a b (k * p) p → cost ≡ erased_from m a b (k * p) p
    → ◌≡◌ {A = Bool × (ℕ × ℕ)} r (not (fewest.leq keep cost), lesser fewest keep cost)
    → ◌≡◌ {A = Bool × (ℕ × ℕ)} r (erases m a b k, sector_cost fewest m.shape (kept m a b) (preset m a b) k)
chosen m a b k p keep cost r e u v t =
    let P : ℕ × ℕ → ℕ × ℕ → Bool × (ℕ × ℕ) = λ x y. (not (fewest.leq x y), lesser fewest x y) in
    t ∙ ap₂ P (u ∙ ap (λ n. kept_from m a b (k * n) n) e) (v ∙ ap (λ n. erased_from m a b (k * n) n) e)

-- and what was asked for
asked :
    (m n : Meaning) (a : ℕ) (b : List ℕ) (k p : ℕ) (keep presets : ℕ × ℕ) → p ≡ m.shape.pages → n ≡ m
    → keep ≡ kept_from m a b (k * p) p → presets ≡ on_from m a b (k * p) p
    → bytes_on a b (k * p) p + bytes_below n a b keep (fewest.plus (1, 0) presets) (k * p) p ≡ for_costs m a b (k * m.shape.pages) m.shape.pages
asked m n a b k p keep presets e same u v =
    ap (λ (x : ℕ). bytes_on a b (k * p) p + x)
    (ap (λ (x : Meaning). bytes_below x a b keep (fewest.plus (1, 0) presets) (k * p) p) same
    ∙ ap₂ (λ (x y : ℕ × ℕ). bytes_below m a b x (fewest.plus (1, 0) y) (k * p) p) u v)
    ∙ ap (λ (x : ℕ). for_costs m a b (k * x) x) e

pub returns-in-Some : goal.returns-in-Some
returns-in-Some g c =
    let m = g.P.Part.meaning c.args.part.now in
    let m' = g.P.Part.meaning c.touched_costs-kept.new.part in
    let a = c.args.write.address in
    let b = c.args.write.bytes.now in
    let k = c.args.k in
    let p = c.pages-pages.result in
    let touched = c.touched_costs-kept.ensures in
    let found = c.touched_costs-kept.result in
    let erase = c.in-Some.ensures in
    let e = c.pages-pages.ensures in
    let low = c.requires.0.sound.low in
    let both : ◌≡◌ {A = Bool × (ℕ × ℕ)} (true, c.in-Some.cost) (erases m a b k, sector_cost fewest m.shape (kept m a b) (preset m a b) k) =
    chosen m a b k p c.touched_costs-kept.result.cost (erased_from m' a b (k * p) p) (true, c.in-Some.cost) e touched.kept
    (ap (λ n. erased_from n a b (k * p) p) touched.looked.same)
    (chose_second c.touched_costs-kept.result.cost _ c.in-Some.cost
    (erase.value (touched.presets ∙ ap (λ n. on_from n a b (k * p) p) (sym touched.looked.same)))) in
    record {
      looked = looked_join g.P.Part g.met.P.Part.joins _ _ _ _ _ _ touched.looked erase.looked (le_of_eq (asked m m' a b k p found.cost found.presets e touched.looked.same touched.kept touched.presets));
      bound =
          let b = erase.bound p touched.bound.1 in
          ((omega (arith, b, low, e), omega (arith, b, low, e)), (omega (arith, touched.bound, low, e), omega (arith, touched.bound, low, e)));
      treatment = ap (λ (x : Bool × (ℕ × ℕ)). cond x.0 Erased Kept) both;
      value = ap (λ (x : Bool × (ℕ × ℕ)). x.1) both;
      touched = touched.presets ∙ ap (λ n. on_from m a b (k * n) n) e;
    }

pub returns-in-None : goal.returns-in-None
returns-in-None g c =
    let m = g.P.Part.meaning c.args.part.now in
    let m' = g.P.Part.meaning c.touched_costs-kept.new.part in
    let a = c.args.write.address in
    let b = c.args.write.bytes.now in
    let k = c.args.k in
    let p = c.pages-pages.result in
    let touched = c.touched_costs-kept.ensures in
    let found = c.touched_costs-kept.result in
    let erase = c.in-None.ensures in
    let e = c.pages-pages.ensures in
    let low = c.requires.0.sound.low in
    let both : ◌≡◌ {A = Bool × (ℕ × ℕ)} (false, c.touched_costs-kept.result.cost) (erases m a b k, sector_cost fewest m.shape (kept m a b) (preset m a b) k) =
    chosen m a b k p c.touched_costs-kept.result.cost (erased_from m' a b (k * p) p) (false, c.touched_costs-kept.result.cost) e touched.kept
    (ap (λ n. erased_from n a b (k * p) p) touched.looked.same)
    (chose_first c.touched_costs-kept.result.cost _
    (erase.value (touched.presets ∙ ap (λ n. on_from n a b (k * p) p) (sym touched.looked.same)))) in
    record {
      looked = looked_join g.P.Part g.met.P.Part.joins _ _ _ _ _ _ touched.looked erase.looked (le_of_eq (asked m m' a b k p found.cost found.presets e touched.looked.same touched.kept touched.presets));
      bound = ((omega (arith, touched.bound, low, e), omega (arith, touched.bound, low, e)), (omega (arith, touched.bound, low, e), omega (arith, touched.bound, low, e)));
      treatment = ap (λ (x : Bool × (ℕ × ℕ)). cond x.0 Erased Kept) both;
      value = ap (λ (x : Bool × (ℕ × ℕ)). x.1) both;
      touched = touched.presets ∙ ap (λ n. on_from m a b (k * n) n) e;
    }
