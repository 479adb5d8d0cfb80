-- One turn of each way through a line.
use Rattle.std.proofs.Common.{◌≡◌, ℕ, ◌+◌, Bool, true, false, cond, eqb, List, [], ◌∷◌, length, get_or, drop, Some, None, Option, Ok, Err, Result, sym, refl, ap, ◌∙◌, add-zero, zero-add, arith}
use Rattle.std.specs.List.{position, position_from}
use Rattle.std.proofs.lemmas.Iterator.Adapters.{position_from-zero}
use Rattle.std.proofs.lemmas.List.{drop-drop}
use Rattle.listing.specs.declared.extent.Extent.{Extent}
use Rattle.listing.specs.declared.extent.Extent.TheVariants.{Note, Frame}
use Rattle.std.proofs.lemmas.Bool.{ne_eqb}
use Rattle.listing.specs.Scan.{pair_of, on_pair, goes_on, at_mark, closing, pairs, inside}
use Rattle.listing.proofs.Drops.{first_left}

abbrev pub noted : ℕ → Option ℕ → Result Extent ℕ
noted n None = Err n
noted n (Some i) = Ok (Note i)

noted_more : (at : ℕ) (s : List ℕ) (c : Bool) (o : Option ℕ) → inside (at + 1) s ≡ noted (at + 1 + length s) o →
    (b : ℕ) → cond c (Ok (Note at)) (inside (at + 1) s) ≡ noted (at + length (b ∷ s)) (cond c (Some at) o)
noted_more at s true o e b = refl
noted_more at s false o e b = let n : at + 1 + length s ≡ at + length (b ∷ s) = omega arith in e ∙ ap (λ k. noted k o) n

inside_from : (at : ℕ) (s : List ℕ) → inside at s ≡ noted (at + length s) (position_from (λ b. eqb b 10) at s)
unfolding inside
inside_from at [] = ap Err (sym (add-zero at))
inside_from at (b ∷ s) = noted_more at s (eqb b 10) (position_from (λ b. eqb b 10) (at + 1) s) (inside_from (at + 1) s) b

-- a note, from its first 0Ah
pub inside_position : (s : List ℕ) (o : Option ℕ) → o ≡ position (λ b. eqb b 10) s → inside 0 s ≡ noted (length s) o
inside_position s o e =
    inside_from 0 s ∙ ap (λ n. noted n (position_from (λ b. eqb b 10) 0 s)) (zero-add (length s))
    ∙ ap (noted (length s)) (sym (e ∙ position_from-zero (λ b. eqb b 10) s))

pub pairs_turn : (at : ℕ) (s : List ℕ) →
    pairs at s ≡ on_pair (pair_of s) (Err at) (λ _. cond (goes_on (drop 2 s)) (pairs (at + 3) (drop 3 s)) (closing (at + 2) (drop 2 s)))
unfolding pairs pair_of
pairs_turn at [] = refl
pairs_turn at (a ∷ []) = refl
pairs_turn at (a ∷ b ∷ []) = refl
pairs_turn at (a ∷ b ∷ c ∷ s) = refl

turned : (t : List ℕ) (at : ℕ) →
    pairs at (drop at t) ≡ on_pair (pair_of (drop at t)) (Err at) (λ _. cond (goes_on (drop (at + 2) t)) (pairs (at + 3) (drop (at + 3) t)) (closing (at + 2) (drop (at + 2) t)))
turned t at =
    pairs_turn at (drop at t)
    ∙ ap (λ x. on_pair (pair_of (drop at t)) (Err at) (λ _. cond (goes_on x) (pairs (at + 3) (drop 3 (drop at t))) (closing (at + 2) x))) (drop-drop 2 at t)
    ∙ ap (λ x. on_pair (pair_of (drop at t)) (Err at) (λ _. cond (goes_on (drop (at + 2) t)) (pairs (at + 3) x) (closing (at + 2) (drop (at + 2) t)))) (drop-drop 3 at t)

module _ (t : List ℕ) (at : ℕ) where
  pub pairs_none : pair_of (drop at t) ≡ None → pairs at (drop at t) ≡ Err at
  pairs_none e =
      turned t at
      ∙ ap (λ o. on_pair o (Err at) (λ _. cond (goes_on (drop (at + 2) t)) (pairs (at + 3) (drop (at + 3) t)) (closing (at + 2) (drop (at + 2) t)))) e

  pub pairs_on : (v : ℕ) → pair_of (drop at t) ≡ Some v → goes_on (drop (at + 2) t) ≡ true → pairs at (drop at t) ≡ pairs (at + 3) (drop (at + 3) t)
  pairs_on v e g =
      turned t at
      ∙ ap (λ o. on_pair o (Err at) (λ _. cond (goes_on (drop (at + 2) t)) (pairs (at + 3) (drop (at + 3) t)) (closing (at + 2) (drop (at + 2) t)))) e
      ∙ ap (λ b. cond b (pairs (at + 3) (drop (at + 3) t)) (closing (at + 2) (drop (at + 2) t))) g

  pub pairs_off : (v : ℕ) → pair_of (drop at t) ≡ Some v → goes_on (drop (at + 2) t) ≡ false → pairs at (drop at t) ≡ closing (at + 2) (drop (at + 2) t)
  pairs_off v e g =
      turned t at
      ∙ ap (λ o. on_pair o (Err at) (λ _. cond (goes_on (drop (at + 2) t)) (pairs (at + 3) (drop (at + 3) t)) (closing (at + 2) (drop (at + 2) t)))) e
      ∙ ap (λ b. cond b (pairs (at + 3) (drop (at + 3) t)) (closing (at + 2) (drop (at + 2) t))) g

  pub closing_end : get_or t at 0 ≡ 10 → closing at (drop at t) ≡ Ok (Frame at)
  unfolding closing
  closing_end h =
      ap (λ x. cond (eqb x 10) (Ok (Frame at)) (cond (eqb x 32) (at_mark (at + 2) (drop 2 (drop at t))) (Err at))) (first_left t at ∙ h)

  pub closing_space : get_or t at 0 ≡ 32 → closing at (drop at t) ≡ at_mark (at + 2) (drop (at + 2) t)
  unfolding closing
  closing_space h =
      ap (λ x. cond (eqb x 10) (Ok (Frame at)) (cond (eqb x 32) (at_mark (at + 2) (drop 2 (drop at t))) (Err at))) (first_left t at ∙ h)
      ∙ ap (at_mark (at + 2)) (drop-drop 2 at t)

  pub closing_no : (get_or t at 0 ≡ 10 → ⊥) → (get_or t at 0 ≡ 32 → ⊥) → closing at (drop at t) ≡ Err at
  unfolding closing
  closing_no h k =
      ap (λ x. cond (eqb x 10) (Ok (Frame at)) (cond (eqb x 32) (at_mark (at + 2) (drop 2 (drop at t))) (Err at))) (first_left t at)
      ∙ ap (λ b. cond b (Ok (Frame at)) (cond (eqb (get_or t at 0) 32) (at_mark (at + 2) (drop 2 (drop at t))) (Err at))) (ne_eqb _ _ h)
      ∙ ap (λ b. cond b (at_mark (at + 2) (drop 2 (drop at t))) (Err at)) (ne_eqb _ _ k)
