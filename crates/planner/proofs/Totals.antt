-- Sums and lists that grow at their end: one more, a front of them, and those of sectors as one of pages.
use Rattle.std.proofs.Common.{◌≡◌, ℕ, zero, suc, ◌+◌, ◌-◌, ◌*◌, ◌<◌, ◌≤◌, ◌⊎◌, List, ◌++◌, sym, refl, ap, ◌∙◌, subst, ap₂, inl, inr, add-zero, add-suc, suc-mul, zero-mul, add-one, arith}
use Rattle.std.proofs.lemmas.List.{append_assoc, append-nil}
use Rattle.std.proofs.lemmas.Bool.{cases_eq}
use Rattle.memory.specs.Cycle.{Cycle}
use Rattle.least.specs.Cost.{Cost, Lawful, sum_to}
use Rattle.least.specs.Fewest.{fewest}
use Rattle.least.specs.Plan.{list_to}
use Rattle.least.proofs.Sums.{Le, plus_none, le-plus}

pub sum_more : {C : Type 0} (K : Cost C) (n : ℕ) (f : ℕ → C) → sum_to K (n + 1) f ≡ K.plus (sum_to K n f) (f n)
sum_more K n f = ap (λ x. sum_to K x f) (add-one n)

-- both parts of a sum
pub parts : (s a b : ℕ × ℕ) → s ≡ fewest.plus a b → (s.0 ≡ a.0 + b.0) × (s.1 ≡ a.1 + b.1)
parts s a b e = (ap (λ x. x.0) e, ap (λ x. x.1) e)

-- pages from the first one on, and one more
pub sum_next :
    {C : Type 0} (K : Cost C) (f : ℕ → C) (first q : ℕ) → first ≤ q
    → sum_to K (q + 1 - first) (λ j. f (first + j)) ≡ K.plus (sum_to K (q - first) (λ j. f (first + j))) (f q)
sum_next K f first q h =
    let more : q + 1 - first ≡ q - first + 1 = omega arith in
    let here : first + (q - first) ≡ q = omega arith in
    ap (λ n. sum_to K n (λ j. f (first + j))) more
    ∙ (sum_more K (q - first) (λ j. f (first + j)) ∙ ap (λ x. K.plus (sum_to K (q - first) (λ j. f (first + j))) (f x)) here)

pub sum_same : {C : Type 0} (K : Cost C) (n : ℕ) (f g : ℕ → C) → ((j : ℕ) → j < n → f j ≡ g j) → sum_to K n f ≡ sum_to K n g
sum_same K zero f g h = refl
sum_same K (suc n) f g h = ap₂ (λ x y. K.plus x y) (sum_same K n f g (λ j l. h j (omega arith))) (h n (omega arith))

module _ {C : Type 0} {K : Cost C} {z : ℕ} (L : Lawful K z) (f : ℕ → C) where
  -- costs only grow
  pub sum-front : (n j : ℕ) → j ≤ n → Le K (sum_to K j f) (sum_to K n f)
  sum-front zero j h = subst (λ x. Le K (sum_to K x f) (sum_to K zero f)) (none j h) (L.leq_refl _)
    where
      none : (i : ℕ) → i ≤ zero → zero ≡ i
      none i l = omega arith
  sum-front (suc n) j h = go (cases_eq j (suc n)) (λ l. sum-front n j l)
    where
      go : (j ≡ suc n) ⊎ (j ≡ suc n → ⊥) → (j ≤ n → Le K (sum_to K j f) (sum_to K n f)) → Le K (sum_to K j f) (sum_to K (suc n) f)
      go (inl e) ih = subst (λ x. Le K (sum_to K x f) (sum_to K (suc n) f)) (sym e) (L.leq_refl _)
      go (inr d) ih =
          L.leq_trans _ _ _ (ih (omega arith))
          (subst (λ x. Le K (sum_to K n f) x) (L.plus_comm (f n) (sum_to K n f)) (le-plus L (f n) (sum_to K n f)))

  sum-add : (a n : ℕ) → sum_to K (a + n) f ≡ K.plus (sum_to K a f) (sum_to K n (λ j. f (a + j)))
  sum-add a zero = ap (λ x. sum_to K x f) (add-zero a) ∙ sym (plus_none L _)
  sum-add a (suc n) =
      ap (λ x. sum_to K x f) (add-suc a n)
      ∙ (ap (λ x. K.plus x (f (a + n))) (sum-add a n) ∙ L.plus_assoc _ _ _)

  -- the sum over s sectors of p pages
  pub sum_flat : (s p : ℕ) → sum_to K s (λ k. sum_to K p (λ j. f (k * p + j))) ≡ sum_to K (s * p) f
  sum_flat zero p = ap (λ x. sum_to K x f) (sym (zero-mul p))
  sum_flat (suc s) p =
      ap (λ x. K.plus x (sum_to K p (λ j. f (s * p + j)))) (sum_flat s p)
      ∙ (sym (sum-add (s * p) p) ∙ ap (λ x. sum_to K x f) (sym (suc-mul s p)))

module _ {C : Type 0} {K : Cost C} {z : ℕ} (L : Lawful K z) where
  exchange : (a b c d : C) → K.plus (K.plus a b) (K.plus c d) ≡ K.plus (K.plus a c) (K.plus b d)
  exchange a b c d =
      L.plus_assoc a b (K.plus c d)
      ∙ (ap (λ y. K.plus a y) (sym (L.plus_assoc b c d) ∙ (ap (λ y. K.plus y d) (L.plus_comm b c) ∙ L.plus_assoc c b d))
      ∙ sym (L.plus_assoc a c (K.plus b d)))

  -- two sums together, of terms that are the terms of one
  pub sum_both :
      (n : ℕ) (f g h : ℕ → C) → ((j : ℕ) → K.plus (f j) (g j) ≡ h j)
      → K.plus (sum_to K n f) (sum_to K n g) ≡ sum_to K n h
  sum_both zero f g h e = L.none_plus K.none
  sum_both (suc n) f g h e =
      exchange (sum_to K n f) (f n) (sum_to K n g) (g n) ∙ ap₂ (λ x y. K.plus x y) (sum_both n f g h e) (e n)

pub list_more : (n : ℕ) (f : ℕ → List Cycle) → list_to (n + 1) f ≡ list_to n f ++ f n
list_more n f = ap (λ x. list_to x f) (add-one n)

pub list_same : (n : ℕ) (f g : ℕ → List Cycle) → ((j : ℕ) → j < n → f j ≡ g j) → list_to n f ≡ list_to n g
list_same zero f g h = refl
list_same (suc n) f g h = ap₂ (λ x y. x ++ y) (list_same n f g (λ j l. h j (omega arith))) (h n (omega arith))

list_add : (f : ℕ → List Cycle) (a n : ℕ) → list_to (a + n) f ≡ list_to a f ++ list_to n (λ j. f (a + j))
list_add f a zero = ap (λ x. list_to x f) (add-zero a) ∙ sym (append-nil _)
list_add f a (suc n) =
    ap (λ x. list_to x f) (add-suc a n) ∙ (ap (λ x. x ++ f (a + n)) (list_add f a n) ∙ append_assoc (list_to a f) _ _)

-- the list over s sectors of p pages
pub list_flat : (f : ℕ → List Cycle) (s p : ℕ) → list_to s (λ k. list_to p (λ j. f (k * p + j))) ≡ list_to (s * p) f
list_flat f zero p = ap (λ x. list_to x f) (sym (zero-mul p))
list_flat f (suc s) p =
    ap (λ x. x ++ list_to p (λ j. f (s * p + j))) (list_flat f s p)
    ∙ (sym (list_add f (s * p) p) ∙ ap (λ x. list_to x f) (sym (suc-mul s p)))
