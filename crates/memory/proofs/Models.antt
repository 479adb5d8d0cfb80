-- What holds of every known chip.
use Rattle.std.proofs.Common.{◌≡◌, ℕ, Bool, true, false, ◌&&◌, eqb, ◌⊎◌, List, [], ◌∷◌, is_some, Some, None, Option, sym, refl, ◌∙◌, inl, inr, ◌<◌, ◌≤◌, ltb, leb, arith}
use Rattle.std.proofs.lemmas.Bool.{cases_Bool, and_parts, ltb-true, leb-true, cond-true, cond-false, false≢true}
use Rattle.std.proofs.lemmas.Option.{none-some}
use Rattle.memory.specs.declared.model.Model.{Model}
use Rattle.memory.specs.Image.{in_range}
use Rattle.memory.proofs.Pages.{Real}
use Rattle.memory.specs.Models.{models, lookup, shape_or, shape_for}

abbrev pub each : (Model → Bool) → List Model → Bool
each test [] = true
each test (m ∷ ms) = test m && each test ms

-- a test that every row passes is passed by what a look-up finds
pub found_passes : (test : Model → Bool) (ms : List Model) (c : ℕ) (m : Model) → each test ms ≡ true → lookup ms c ≡ Some m → test m ≡ true
found_passes test [] c m t e = absurd (none-some m e)
found_passes test (x ∷ ms) c m t e = go (cases_Bool (eqb x.capacity c)) (λ f. found_passes test ms c m (and_parts _ _ t).1 f)
  where
    go : (eqb x.capacity c ≡ true) ⊎ (eqb x.capacity c ≡ false) → (lookup ms c ≡ Some m → test m ≡ true) → test m ≡ true
    go (inl b) ih =
        let f : Some x ≡ Some m = sym (cond-true _ (Some x) (lookup ms c) b) ∙ e in
        let s : x ≡ m = cc in
        mathlib.Core.Path.subst (λ (y : Model). test y ≡ true) s (and_parts _ _ t).0
    go (inr b) ih = ih (sym (cond-false _ (Some x) (lookup ms c) b) ∙ e)

pub models_ranged : (c : ℕ) (m : Model) → lookup models c ≡ Some m → in_range m.geometry.sectors m.geometry.pages ≡ true
unfolding models
models_ranged c m e = found_passes (λ x. in_range x.geometry.sectors x.geometry.pages) models c m refl e

-- whatever the capacity byte, a page is 64 bytes
bytes-or : (o : Option Model) → (shape_or o).bytes ≡ 64
bytes-or None = refl
bytes-or (Some m) = refl

pub page-bytes : (c : ℕ) → (shape_for c).bytes ≡ 64
page-bytes c = bytes-or (lookup models c)

range_or : (o : Option Model) → ((m : Model) → o ≡ Some m → in_range m.geometry.sectors m.geometry.pages ≡ true) → is_some o ≡ true
    → in_range (shape_or o).sectors (shape_or o).pages ≡ true
range_or None h t = absurd (false≢true t)
range_or (Some m) h t = h m refl

known_range : (c : ℕ) → is_some (lookup models c) ≡ true → in_range (shape_for c).sectors (shape_for c).pages ≡ true
known_range c t = range_or (lookup models c) (λ m e. models_ranged c m e) t

-- a known chip has 1 to 128 sectors of 1 to 2,048 pages
pub known_ranged :
    (c : ℕ) → is_some (lookup models c) ≡ true
    → (0 < (shape_for c).sectors) × ((shape_for c).sectors ≤ 128) × (0 < (shape_for c).pages) × ((shape_for c).pages ≤ 2048)
known_ranged c t =
    let a = and_parts (ltb 0 (shape_for c).sectors) _ (known_range c t) in
    let b = and_parts (leb (shape_for c).sectors 128) _ a.1 in
    let d = and_parts (ltb 0 (shape_for c).pages) _ b.1 in
    (ltb-true _ _ a.0, leb-true _ _ b.0, ltb-true _ _ d.0, leb-true _ _ d.1)

pub known_real : (c : ℕ) → is_some (lookup models c) ≡ true → Real (shape_for c)
known_real c t = let b = page-bytes c in record { pages = (known_ranged c t).2; bytes = omega arith }
