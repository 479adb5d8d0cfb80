-- When no sector below a number is protected: what follows, and what the four BP bits say of it.
use Rattle.std.proofs.Common.{◌≡◌, ℕ, zero, suc, ◌+◌, ◌-◌, ◌<◌, Bool, true, false, cond, not, ◌&&◌, ◌||◌, eqb, sym, refl, ap, ap₂, ◌∙◌, ⊎_elim, add-zero, add-one, zero-add, arith}
use Rattle.std.proofs.Math.Bool.{and-true}
use Rattle.std.specs.List.{list_any, range_with_len}
use lib.Bits.{bit_and}
use Rattle.std.proofs.lemmas.Nat.{pow_pos}
use Rattle.std.proofs.lemmas.Bool.{and_from, and_parts, both_ways, cases_Bool, cases_eq, eqb-true, false_from_ne_true, not-false, not-true, not_from_false}
use Rattle.std.proofs.lemmas.Bool.Decides.{nat_tests}
use Rattle.memory.specs.Protection.{block_protect, protected_count, protects, free}
use Rattle.memory.proofs.Protected.{none_protected}

pub free_at : (p : ℕ → Bool) (n k : ℕ) → free p n ≡ true → k < n → p k ≡ false
free_at p zero k t h = absurd (omega arith)
free_at p (suc n) k t h =
    let a = and_parts _ _ t in
    ⊎_elim (λ e. ap p e ∙ not-true _ a.0) (λ d. free_at p n k a.1 (omega arith)) (cases_eq k n)

pub free_all : (p : ℕ → Bool) (n : ℕ) → ((k : ℕ) → k < n → p k ≡ false) → free p n ≡ true
free_all p zero h = refl
free_all p (suc n) h = and_from _ _ (not_from_false _ (h n (omega arith))) (free_all p n (λ k l. h k (omega arith)))

-- one that is protected
pub free_not : (p : ℕ → Bool) (n k : ℕ) → k < n → p k ≡ true → free p n ≡ false
free_not p n k h e = false_from_ne_true _ (λ t. both_ways _ (free_at p n k t h) e)

-- the same are protected
pub free_same : (p q : ℕ → Bool) (n : ℕ) → ((k : ℕ) → k < n → p k ≡ q k) → free p n ≡ free q n
free_same p q zero h = refl
free_same p q (suc n) h = ap₂ (λ x y. not x && y) (h n (omega arith)) (free_same p q n (λ k l. h k (omega arith)))

-- no sector of a range is protected, and none before it
next : (x y z : Bool) → (not (x || y) && z) ≡ (not y && (not x && z))
next true true z = refl
next true false z = refl
next false true z = refl
next false false z = refl

none_of : (p : ℕ → Bool) (a n : ℕ) → (not (list_any p (range_with_len a n)) && free p a) ≡ free p (a + n)
none_of p a zero = ap (free p) (sym (add-zero a))
none_of p a (suc n) =
    next (p a) _ (free p a) ∙ ap (λ z. not (list_any p (range_with_len (a + 1) n)) && z) (sym (ap (free p) (add-one a)))
    ∙ none_of p (a + 1) n ∙ ap (free p) (omega arith)

pub free_is : (p : ℕ → Bool) (n : ℕ) → not (list_any p (range_with_len 0 n)) ≡ free p n
free_is p n = sym (and-true _) ∙ none_of p 0 n ∙ ap (free p) (zero-add n)

-- the four BP bits, looked at as one mask and as the two fields, agree at every byte
abbrev fielded : ℕ → ℕ
fielded st = cond (eqb (bit_and st 64) 0) (cond (eqb (block_protect st) 0) 0 1) 1

abbrev pub masked : ℕ → ℕ
masked st = cond (eqb (bit_and st 0x5C) 0) 0 1

fields : (st : ℕ) → st < 256 → fielded st ≡ masked st
fields st h =
    let f : free (λ x. not (eqb (fielded x) (masked x))) 256 ≡ true = refl in
    eqb-true _ _ (not-false _ (free_at (λ x. not (eqb (fielded x) (masked x))) 256 st f h))

count_some : (st s : ℕ) → st < 256 → 0 < s → eqb (bit_and st 0x5C) 0 ≡ false → 0 < protected_count st s
count_some st s h k e =
    let f = fields st h in
    let p = pow_pos (block_protect st - 1) in grind (arith, nat_tests)

-- the last sector or the first
end : ℕ → ℕ → ℕ
end st s = cond (eqb (bit_and st 32) 0) (s - 1) 0

end_in : (st s : ℕ) → 0 < s → end st s < s
unfolding end
end_in st s h = grind (arith, nat_tests)

end_protected : (st s : ℕ) → 0 < s → 0 < protected_count st s → protects st s (end st s) ≡ true
unfolding end
end_protected st s h k = grind (arith, nat_tests)

pub free-protects : (st s : ℕ) → st < 256 → 0 < s → free (protects st s) s ≡ eqb (bit_and st 0x5C) 0
free-protects st s h k = ⊎_elim none some (cases_Bool (eqb (bit_and st 0x5C) 0))
  where
    none : eqb (bit_and st 0x5C) 0 ≡ true → free (protects st s) s ≡ eqb (bit_and st 0x5C) 0
    none e = free_all _ s (λ i l. none_protected st s i (eqb-true _ _ e)) ∙ sym e

    some : eqb (bit_and st 0x5C) 0 ≡ false → free (protects st s) s ≡ eqb (bit_and st 0x5C) 0
    some e = free_not _ s (end st s) (end_in st s k) (end_protected st s k (count_some st s h k e)) ∙ sym e
