-- Pairs and their values.
use Rattle.std.proofs.Common.{◌≡◌, ℕ, ◌+◌, ◌<◌, ◌≤◌, Bool, true, false, cond, eqb, ◌⊎◌, List, [], ◌∷◌, ◌++◌, length, get_or, take, drop, set, Some, None, Ok, Err, Option, Result, sym, refl, ap, ◌∙◌, subst, inl, inr, arith}
use Rattle.std.proofs.Math.Nat.{suc-ne-zero}
use Rattle.std.proofs.lemmas.List.{append-nil, append_assoc, drop-drop, drop_all, drop_more, take_more, set_at, length-drop, length-take-le}
use Rattle.std.proofs.lemmas.Bool.{eqb-true, eq-eqb, ne_eqb, cases_eq, cases_lt}
use Rattle.listing.specs.Hex.{Pair, Pairs, one, more}
use Rattle.listing.specs.Scan.{pair_of, on_pair}
use Rattle.listing.specs.Values.{before, after, values, good, tallied, Spelled}
use Rattle.listing.proofs.Digits.{pair_read, pair_left, pair-here, pair_alone, pair_past}

pub values_turn : (at : ℕ) (s : List ℕ) → values at s ≡ on_pair (pair_of s) (Err at) (λ v. after v (at + 2) (drop 2 s) (values (at + 3) (drop 3 s)))
unfolding values pair_of
values_turn at [] = refl
values_turn at (a ∷ []) = refl
values_turn at (a ∷ b ∷ []) = refl
values_turn at (a ∷ b ∷ c ∷ s) = refl

-- a pair, and what follows it
values-pair : {w : List ℕ} {v : ℕ} (at : ℕ) (s : List ℕ) → Pair w v → values at (w ++ s) ≡ after v (at + 2) s (values (at + 3) (drop 1 s))
values-pair {w} {v} at s p =
    values_turn at (w ++ s)
    ∙ ap (λ o. on_pair o (Err at) (λ n. after n (at + 2) (drop 2 (w ++ s)) (values (at + 3) (drop 3 (w ++ s))))) (pair_read p s)
    ∙ ap (λ r. after v (at + 2) r (values (at + 3) (drop 3 (w ++ s)))) (pair_left p s)
    ∙ ap (λ r. after v (at + 2) s (values (at + 3) r)) (pair_past p s)

pub values-read : {w bs : List ℕ} (at : ℕ) → Pairs w bs → values at w ≡ Ok bs
values-read {w} at (one p) = ap (values at) (sym (append-nil w)) ∙ values-pair at [] p
values-read at (more {s} {v} p ps) = values-pair at (32 ∷ s) p ∙ ap (before v) (values-read (at + 3) ps)

no_result : (at : ℕ) (x : List ℕ) → ◌≡◌ {A = Result (List ℕ) ℕ} (Err at) (Ok x) → ⊥
no_result at x e = suc-ne-zero 0 cc

last_pair : (at : ℕ) (a b : ℕ) (bs : List ℕ) (o : Option ℕ) → pair_of (a ∷ b ∷ []) ≡ o → on_pair o (Err at) (λ v. Ok (v ∷ [])) ≡ Ok bs → Pairs (a ∷ b ∷ []) bs
last_pair at a b bs None e f = absurd (no_result at bs f)
last_pair at a b bs (Some v) e f = let P : List ℕ → Type 0 = Pairs (a ∷ b ∷ []) in subst P (let q : v ∷ [] ≡ bs = cc in q) (one (pair-here a b v [] e))

joined-pair : (at a b v : ℕ) (s bs : List ℕ) (r : Result (List ℕ) ℕ) → Pair (a ∷ b ∷ []) v → values (at + 3) s ≡ r → before v r ≡ Ok bs → ((cs : List ℕ) → values (at + 3) s ≡ Ok cs → Pairs s cs) → Pairs (a ∷ b ∷ 32 ∷ s) bs
joined-pair at a b v s bs (Ok cs) p e f rest = let P : List ℕ → Type 0 = Pairs (a ∷ b ∷ 32 ∷ s) in subst P (let q : v ∷ cs ≡ bs = cc in q) (more p (rest cs e))
joined-pair at a b v s bs (Err n) p e f rest = absurd (no_result n bs f)

spaced-pair : (at a b c v : ℕ) (s bs : List ℕ) (d : Bool) → Pair (a ∷ b ∷ []) v → eqb c 32 ≡ d → cond d (before v (values (at + 3) s)) (Err (at + 2)) ≡ Ok bs → ((cs : List ℕ) → values (at + 3) s ≡ Ok cs → Pairs s cs) → Pairs (a ∷ b ∷ c ∷ s) bs
spaced-pair at a b c v s bs true p e f rest =
    let P : ℕ → Type 0 = λ x. Pairs (a ∷ b ∷ x ∷ s) bs in subst P (sym (eqb-true c 32 e)) (joined-pair at a b v s bs (values (at + 3) s) p refl f rest)
spaced-pair at a b c v s bs false p e f rest = absurd (no_result (at + 2) bs f)

more_pairs : (at a b c : ℕ) (s bs : List ℕ) (o : Option ℕ) → pair_of (a ∷ b ∷ c ∷ s) ≡ o → on_pair o (Err at) (λ v. after v (at + 2) (c ∷ s) (values (at + 3) s)) ≡ Ok bs → ((cs : List ℕ) → values (at + 3) s ≡ Ok cs → Pairs s cs) → Pairs (a ∷ b ∷ c ∷ s) bs
more_pairs at a b c s bs None e f rest = absurd (no_result at bs f)
more_pairs at a b c s bs (Some v) e f rest = spaced-pair at a b c v s bs (eqb c 32) (pair-here a b v (c ∷ s) e) refl f rest

lone_digit : (at a : ℕ) (bs : List ℕ) (o : Option ℕ) → pair_of (a ∷ []) ≡ o → on_pair o (Err at) (λ v. Ok (v ∷ [])) ≡ Ok bs → ⊥
lone_digit at a bs None e f = no_result at bs f
lone_digit at a bs (Some v) e f = pair_alone a v e

pub values-spelled : (at : ℕ) (s bs : List ℕ) → values at s ≡ Ok bs → Pairs s bs
unfolding values
values-spelled at [] bs e = absurd (no_result at bs e)
values-spelled at (a ∷ []) bs e = absurd (lone_digit at a bs (pair_of (a ∷ [])) refl e)
values-spelled at (a ∷ b ∷ []) bs e = last_pair at a b bs (pair_of (a ∷ b ∷ [])) refl e
values-spelled at (a ∷ b ∷ c ∷ s) bs e = more_pairs at a b c s bs (pair_of (a ∷ b ∷ c ∷ s)) refl e (λ cs f. values-spelled (at + 3) s cs f)

pub spelled : (s : List ℕ) → Spelled s
spelled s = ((λ bs p. values-read 0 p), (λ bs e. values-spelled 0 s bs e))

-- one turn over what is left of a text
module _ (t : List ℕ) (at : ℕ) where
  turned : values at (drop at t) ≡ on_pair (pair_of (drop at t)) (Err at) (λ v. after v (at + 2) (drop (at + 2) t) (values (at + 3) (drop (at + 3) t)))
  turned =
      values_turn at (drop at t)
      ∙ ap (λ x. on_pair (pair_of (drop at t)) (Err at) (λ v. after v (at + 2) x (values (at + 3) (drop 3 (drop at t))))) (drop-drop 2 at t)
      ∙ ap (λ x. on_pair (pair_of (drop at t)) (Err at) (λ v. after v (at + 2) (drop (at + 2) t) (values (at + 3) x))) (drop-drop 3 at t)

  pub values_none : pair_of (drop at t) ≡ None → values at (drop at t) ≡ Err at
  values_none e = turned ∙ ap (λ o. on_pair o (Err at) (λ v. after v (at + 2) (drop (at + 2) t) (values (at + 3) (drop (at + 3) t)))) e

  some_value : (v : ℕ) → pair_of (drop at t) ≡ Some v → values at (drop at t) ≡ after v (at + 2) (drop (at + 2) t) (values (at + 3) (drop (at + 3) t))
  some_value v e = turned ∙ ap (λ o. on_pair o (Err at) (λ v. after v (at + 2) (drop (at + 2) t) (values (at + 3) (drop (at + 3) t)))) e

  pub values_last : (v : ℕ) → pair_of (drop at t) ≡ Some v → length t ≤ at + 2 → values at (drop at t) ≡ Ok (v ∷ [])
  values_last v e h = some_value v e ∙ ap (λ x. after v (at + 2) x (values (at + 3) (drop (at + 3) t))) (drop_all (at + 2) t h)

  next_byte : (v : ℕ) → pair_of (drop at t) ≡ Some v → at + 2 < length t →
      values at (drop at t) ≡ cond (eqb (get_or t (at + 2) 0) 32) (before v (values (at + 3) (drop (at + 3) t))) (Err (at + 2))
  next_byte v e h = some_value v e ∙ ap (λ x. after v (at + 2) x (values (at + 3) (drop (at + 3) t))) (drop_more t (at + 2) 0 h)

  pub values_more : (v : ℕ) → pair_of (drop at t) ≡ Some v → at + 2 < length t → get_or t (at + 2) 0 ≡ 32 → values at (drop at t) ≡ before v (values (at + 3) (drop (at + 3) t))
  values_more v e h s = next_byte v e h ∙ ap (λ c. cond c (before v (values (at + 3) (drop (at + 3) t))) (Err (at + 2))) (eq-eqb _ 32 s)

  pub values-broken : (v : ℕ) → pair_of (drop at t) ≡ Some v → at + 2 < length t → (get_or t (at + 2) 0 ≡ 32 → ⊥) → values at (drop at t) ≡ Err (at + 2)
  values-broken v e h s = next_byte v e h ∙ ap (λ c. cond c (before v (values (at + 3) (drop (at + 3) t))) (Err (at + 2))) (ne_eqb _ 32 s)

pub tallied-before : (n v : ℕ) (r : Result (List ℕ) ℕ) → tallied n (before v r) ≡ tallied (n + 1) r
tallied-before n v (Ok bs) = ap (λ m. Ok m) (let h : n + length (v ∷ bs) ≡ n + 1 + length bs = omega arith in h)
tallied-before n v (Err at) = refl

-- the values that are left after one
good_turn : (v : ℕ) (t : List ℕ) (at : ℕ) → pair_of (drop at t) ≡ Some v → 0 < length (good (values at (drop at t))) →
    good (values at (drop at t)) ≡ v ∷ good (values (at + 3) (drop (at + 3) t))
unfolding values
good_turn v t at e h = go (cases_lt (at + 2) (length t))
  where
    kept : (r : Result (List ℕ) ℕ) → values (at + 3) (drop (at + 3) t) ≡ r → values at (drop at t) ≡ before v r → good (before v r) ≡ v ∷ good r
    kept (Ok bs) f g = refl
    kept (Err n) f g = absurd (let k = ap (λ x. length (good x)) g in omega arith)

    spaced : (get_or t (at + 2) 0 ≡ 32) ⊎ (get_or t (at + 2) 0 ≡ 32 → ⊥) → at + 2 < length t → good (values at (drop at t)) ≡ v ∷ good (values (at + 3) (drop (at + 3) t))
    spaced (inl s) l = let m = values_more t at v e l s in ap good m ∙ kept (values (at + 3) (drop (at + 3) t)) refl m
    spaced (inr s) l = absurd (let k = ap (λ x. length (good x)) (values-broken t at v e l s) in omega arith)

    go : (at + 2 < length t) ⊎ (length t ≤ at + 2) → good (values at (drop at t)) ≡ v ∷ good (values (at + 3) (drop (at + 3) t))
    go (inl l) = spaced (cases_eq (get_or t (at + 2) 0) 32) l
    go (inr l) =
        ap good (values_last t at v e l)
        ∙ ap (λ x. v ∷ good (values (at + 3) x)) (sym (drop_all (at + 3) t (omega arith)))

-- there is one while values are left
pub value_left : (t : List ℕ) (at i : ℕ) → i < length (good (values 0 t)) → drop i (good (values 0 t)) ≡ good (values at (drop at t)) → at ≤ length t
unfolding values
value_left t at i h d = go (cases_lt at (length t))
  where
    go : (at < length t) ⊎ (length t ≤ at) → at ≤ length t
    go (inl l) = omega arith
    go (inr l) =
        absurd (let n = ap length (d ∙ ap (λ x. good (values at x)) (drop_all at t l)) in
        let m = length-drop i (good (values 0 t)) in omega arith)

pub value_here : (t : List ℕ) (at i : ℕ) → i < length (good (values 0 t)) → drop i (good (values 0 t)) ≡ good (values at (drop at t)) → pair_of (drop at t) ≡ None → ⊥
value_here t at i h d e =
    let n = ap length (d ∙ ap good (values_none t at e)) in
    let m = length-drop i (good (values 0 t)) in omega arith

-- a value put behind those before it
pub value_turn : (t was : List ℕ) (v at i : ℕ) (l : List ℕ) →
    pair_of (drop at t) ≡ Some v → i < length (good (values 0 t)) → i < length was →
    drop i (good (values 0 t)) ≡ good (values at (drop at t)) → l ≡ take i (good (values 0 t)) ++ drop i was →
    (drop (i + 1) (good (values 0 t)) ≡ good (values (at + 3) (drop (at + 3) t))) × (set l i v ≡ take (i + 1) (good (values 0 t)) ++ drop (i + 1) was)
value_turn t was v at i l e h k d f =
    let B = good (values 0 t) in
    let m = length-drop i B in
    let n : 0 < length (good (values at (drop at t))) = let q = ap length d in omega arith in
    let g = good_turn v t at e n in
    let b = drop_more B i 0 h in
    let x : get_or B i 0 ∷ drop (i + 1) B ≡ v ∷ good (values (at + 3) (drop (at + 3) t)) = sym b ∙ d ∙ g in
    let y : get_or B i 0 ≡ v = cc in
    let z : drop (i + 1) B ≡ good (values (at + 3) (drop (at + 3) t)) = cc in (
      z,
      ap (λ q. set q i v) f
          ∙ ap (λ q. set (take i B ++ q) i v) (drop_more was i 0 k)
          ∙ set_at (take i B) (get_or was i 0) (drop (i + 1) was) v i (length-take-le i B (omega arith))
          ∙ ap (λ q. take i B ++ q ∷ drop (i + 1) was) (sym y)
          ∙ sym (append_assoc (take i B) (get_or B i 0 ∷ []) (drop (i + 1) was))
          ∙ ap (λ q. q ++ drop (i + 1) was) (sym (take_more B i 0 h)),
    )
