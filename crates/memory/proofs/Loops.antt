-- One turn of each loop over a page or an image.
use Rattle.std.proofs.Common.{◌≡◌, ℕ, suc, ◌+◌, ◌-◌, ◌*◌, ◌/◌, ◌%◌, ◌<◌, cond, eqb, ◌⊎◌, List, [], ◌∷◌, ◌++◌, length, get_or, take, drop, set, sym, ap, ◌∙◌, inl, inr, mod-lt, div-add-mod', arith}
use Rattle.std.proofs.lemmas.Nat.{mod-mul-add}
use Rattle.std.proofs.lemmas.Bool.{cases_eq, eq-eqb, ne_eqb, cond-true, cond-false}
use Rattle.std.proofs.lemmas.List.{append_assoc, drop-drop, take_more_set}
use Rattle.memory.specs.Page.{put}
use Rattle.memory.specs.Image.{rolled}

-- going round: the place after place a mod n
pub next_round : (a n at : ℕ) → 0 < n → at ≡ a % n → cond (eqb (at + 1) n) 0 (at + 1) ≡ (a + 1) % n
next_round a n at h e = go (cases_eq (at + 1) n)
  where
    whole : a ≡ a / n * n + at
    whole = sym (div-add-mod' a n) ∙ ap (λ x. a / n * n + x) (sym e)

    below : at < n
    below = rw e (mod-lt a h)

    go : (at + 1 ≡ n) ⊎ (at + 1 ≡ n → ⊥) → cond (eqb (at + 1) n) 0 (at + 1) ≡ (a + 1) % n
    go (inl t) =
        let u : a + 1 ≡ (a / n + 1) * n + 0 = omega (arith, native.Mathlib.Nat.add-mul (a / n) 1 n) in
        cond-true _ _ _ (eq-eqb _ _ t) ∙ sym (ap (λ x. x % n) u ∙ mod-mul-add (a / n + 1) n 0 h)
    go (inr d) =
        let l : at + 1 < n = omega arith in
        let u : a + 1 ≡ a / n * n + (at + 1) = omega arith in
        cond-false _ _ _ (ne_eqb _ _ d) ∙ sym (ap (λ x. x % n) u ∙ mod-mul-add (a / n) n (at + 1) l)

pub rolled_none : (image : List ℕ) (a n : ℕ) → n ≡ 0 → rolled image a n ≡ []
unfolding rolled
rolled_none image a n e = ap (λ x. rolled image a x) e

pub rolled_more : (image : List ℕ) (a n m : ℕ) → n ≡ suc m → rolled image a n ≡ get_or image (a % length image) 0 ∷ rolled image (a + 1) m
unfolding rolled
rolled_more image a n m e = ap (λ x. rolled image a x) e

-- one more byte read
pub roll_more : (image into : List ℕ) (a i n v : ℕ) → i < n → n ≡ length into → v ≡ get_or image ((a + i) % length image) 0
    → take i into ++ rolled image (a + i) (n - i) ≡ take (i + 1) (set into i v) ++ rolled image (a + (i + 1)) (n - (i + 1))
roll_more image into a i n v h k e =
    let f = rolled_more image (a + i) (n - i) (n - (i + 1)) (omega arith) in
    let t = take_more_set into i v (omega arith) in
    let s = append_assoc (take i into) (v ∷ []) (rolled image (a + i + 1) (n - (i + 1))) in
    let u : a + i + 1 ≡ a + (i + 1) = omega arith in cc

-- a part of a list that was written anew, as the checker has it
pub put_mid_lem : (at n : ℕ) (xs image : List ℕ) → length xs ≡ n → take at image ++ (xs ++ drop n (drop at image)) ≡ put at xs image
put_mid_lem at n xs image e =
    ap (λ y. take at image ++ (xs ++ y)) (drop-drop n at image ∙ ap (λ y. drop (at + y) image) (sym e))
