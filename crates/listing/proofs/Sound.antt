-- What the reader finds in a line is what the grammar says.
use Rattle.std.proofs.Common.{◌≡◌, ℕ, zero, suc, ◌+◌, ◌<◌, ◌≤◌, Bool, true, false, cond, eqb, List, [], ◌∷◌, ◌++◌, length, get_or, drop, Some, None, Ok, Err, Option, Result, sym, refl, ap, ◌∙◌, subst, append_assoc, arith, length-append}
use Rattle.std.proofs.Math.Nat.{suc-ne-zero}
use Rattle.std.proofs.lemmas.Bool.{eqb-true, eqb-false}
use Rattle.std.proofs.lemmas.Bool.Decides.{nat_tests}
use Rattle.std.proofs.lemmas.List.{drop-drop, length-drop, get_or-drop}
use Rattle.listing.specs.declared.extent.Extent.{Extent}
use Rattle.listing.specs.declared.extent.Extent.TheVariants.{Note, Frame, Counted}
use Rattle.listing.specs.Hex.{Pair, Pairs, one, more}
use Rattle.listing.specs.Grammar.{Unbroken, none, byte, Place, start, in_note, paired, spaced, marked, wanted, told, Step, opens, notes, first, spaces, next, marks, parts, counts, Spells, here, step, Stuck}
use Rattle.listing.specs.Scan.{pair_of, on_pair, goes_on, at_end, at_count, at_mark, closing, pairs, inside}
use Rattle.listing.proofs.Digits.{pair_read, pair_size, pair_left, pair-spelled}
use Rattle.listing.proofs.Drops.{first_left}
use Rattle.listing.proofs.Turns.{pairs_turn}

-- from the place q the text goes as far as e, `at` bytes of the line standing before it, and no further
pub record Broke (q : Place) (at : ℕ) (s : List ℕ) (e : ℕ) : Type 0 where
  pub front : List ℕ
  pub rest : List ℕ
  pub place : Place
  pub spelled : Spells q front place
  pub stuck : Stuck place rest
  pub text : s ≡ front ++ rest
  pub size : e ≡ at + length front

pub broke_here : (q : Place) (at : ℕ) (s : List ℕ) → Stuck q s → Broke q at s at
broke_here q at s h = record { front = []; rest = s; place = q; spelled = here; stuck = h; text = refl; size = omega arith }

pub broke_step : {q p : Place} {w : List ℕ} (at n : ℕ) (s r : List ℕ) (e : ℕ) → Step q w p → n ≡ at + length w → s ≡ w ++ r → Broke p n r e → Broke q at s e
broke_step {q} {p} {w} at n s r e m h x b =
    record {
      front = w ++ b.front;
      rest = b.rest;
      place = b.place;
      spelled = step m b.spelled;
      stuck = b.stuck;
      text = x ∙ ap (λ y. w ++ y) b.text ∙ sym (append_assoc w b.front b.rest);
      size = omega (arith, b.size, length-append w b.front);
    }

-- a text that begins with a byte that is not 0
pub begins : (s : List ℕ) (b : ℕ) → 0 < b → get_or s 0 0 ≡ b → s ≡ b ∷ drop 1 s
begins [] b l e = absurd (omega arith)
begins (a ∷ s) b l e = ap (λ x. x ∷ s) e

-- after the count
pub data AtEnd (at : ℕ) (s : List ℕ) : Result Extent ℕ → Type 0 where
  ends : (t : List ℕ) → s ≡ 10 ∷ t → AtEnd at s (Ok (Counted at))
  fails : (e : ℕ) → Broke told at s e → AtEnd at s (Err e)

end_sound : (at : ℕ) (s : List ℕ) → AtEnd at s (at_end at s)
end_sound at s = go (eqb (get_or s 0 0) 10) refl
  where
    go : (b : Bool) → eqb (get_or s 0 0) 10 ≡ b → AtEnd at s (cond b (Ok (Counted at)) (Err at))
    go true e = ends (drop 1 s) (begins s 10 (omega arith) (eqb-true _ _ e))
    go false e =
        fails at
        (broke_here told at s (
          (λ w t q m x. elim m [ ]),
          (λ t m x. eqb-false _ _ e (ap (λ y. get_or y 0 0) x)),
        ))

-- where the count has to stand
pub data AtCount (at : ℕ) (s : List ℕ) : Result Extent ℕ → Type 0 where
  counted : {v : List ℕ} {n : ℕ} (t : List ℕ) → Pair v n → (n ≡ 0 → ⊥) → s ≡ v ++ 10 ∷ t → AtCount at s (Ok (Counted (at + 2)))
  fails : (e : ℕ) → Broke wanted at s e → AtCount at s (Err e)

no_count : (at : ℕ) (s : List ℕ) → ((v : ℕ) → pair_of s ≡ Some v → (v ≡ 0 → ⊥) → ⊥) → Stuck wanted s
no_count at s h = (wrong, λ t m x. elim m [ ])
  where
    fits : {w : List ℕ} {v : ℕ} (t : List ℕ) → Pair w v → (v ≡ 0 → ⊥) → s ≡ w ++ t → ⊥
    fits {w} {v} t p z x = h v (ap pair_of x ∙ pair_read p t) z

    wrong : (w t : List ℕ) (q : Place) → Step wanted w q → s ≡ w ++ t → ⊥
    wrong w t q (counts p z) x = fits t p z x

count_past : {v : List ℕ} {n : ℕ} (at : ℕ) (s r : List ℕ) {o : Result Extent ℕ} → Pair v n → (n ≡ 0 → ⊥) → s ≡ v ++ r → AtEnd (at + 2) r o → AtCount at s o
count_past {v} at s r p z x (ends t y) = counted t p z (x ∙ ap (λ u. v ++ u) y)
count_past at s r p z x (fails e b) =
    let l = pair_size p in fails e (broke_step at (at + 2) s r e (counts p z) (omega arith) x b)

count-sound : (at : ℕ) (s : List ℕ) → AtCount at s (at_count at s)
count-sound at s = go (pair_of s) refl
  where
    zeroed : (v : ℕ) (b : Bool) → pair_of s ≡ Some v → eqb v 0 ≡ b → AtCount at s (cond b (Err at) (at_end (at + 2) (drop 2 s)))
    zeroed v true e z =
        fails at (broke_here wanted at s (no_count at s (λ n f k. k (let a : n ≡ v = cc in a ∙ eqb-true v 0 z))))
    zeroed v false e z =
        let l = pair-spelled s v e in
        let d : drop 2 s ≡ l.left = ap (drop 2) l.text ∙ pair_left l.spelled l.left in
        count_past at s (drop 2 s) l.spelled (eqb-false v 0 z) (l.text ∙ ap (λ y. l.word ++ y) (sym d)) (end_sound (at + 2) (drop 2 s))

    go : (o : Option ℕ) → pair_of s ≡ o → AtCount at s (on_pair o (Err at) (λ v. cond (eqb v 0) (Err at) (at_end (at + 2) (drop 2 s))))
    go None e = fails at (broke_here wanted at s (no_count at s (λ v f k. suc-ne-zero 0 cc)))
    go (Some v) e = zeroed v (eqb v 0) e refl

-- after `>`
pub data AtMark (at : ℕ) (s : List ℕ) : Result Extent ℕ → Type 0 where
  counted : {v : List ℕ} {n : ℕ} (t : List ℕ) → Pair v n → (n ≡ 0 → ⊥) → s ≡ 32 ∷ v ++ 10 ∷ t → AtMark at s (Ok (Counted (at + 1 + 2)))
  fails : (e : ℕ) → Broke marked at s e → AtMark at s (Err e)

mark_past : (at : ℕ) (s r : List ℕ) {o : Result Extent ℕ} → s ≡ 32 ∷ r → AtCount (at + 1) r o → AtMark at s o
mark_past at s r x (counted t p z y) = counted t p z (x ∙ ap (λ u. 32 ∷ u) y)
mark_past at s r x (fails e b) = fails e (broke_step at (at + 1) s r e parts (omega arith) x b)

mark_sound : (at : ℕ) (s : List ℕ) → AtMark at s (at_mark at s)
mark_sound at s = go (eqb (get_or s 0 0) 32) refl
  where
    wrong : eqb (get_or s 0 0) 32 ≡ false → (w t : List ℕ) (q : Place) → Step marked w q → s ≡ w ++ t → ⊥
    wrong e w t q parts x = eqb-false _ _ e (ap (λ y. get_or y 0 0) x)

    go : (b : Bool) → eqb (get_or s 0 0) 32 ≡ b → AtMark at s (cond b (at_count (at + 1) (drop 1 s)) (Err at))
    go true e = mark_past at s (drop 1 s) (begins s 32 (omega arith) (eqb-true _ _ e)) (count-sound (at + 1) (drop 1 s))
    go false e = fails at (broke_here marked at s (wrong e, λ t m x. elim m [ ]))

-- after the last pair
pub data Closing (at : ℕ) (s : List ℕ) : Result Extent ℕ → Type 0 where
  framed : (t : List ℕ) → s ≡ 10 ∷ t → Closing at s (Ok (Frame at))
  counted : {v : List ℕ} {n : ℕ} (t : List ℕ) → Pair v n → (n ≡ 0 → ⊥) → s ≡ 32 ∷ 62 ∷ 32 ∷ v ++ 10 ∷ t → Closing at s (Ok (Counted (at + 2 + 1 + 2)))
  fails : (e : ℕ) → Broke paired at s e → Closing at s (Err e)

closing-past : (at : ℕ) (s r : List ℕ) {o : Result Extent ℕ} → s ≡ 32 ∷ 62 ∷ r → AtMark (at + 2) r o → Closing at s o
closing-past at s r x (counted t p z y) = counted t p z (x ∙ ap (λ u. 32 ∷ 62 ∷ u) y)
closing-past at s r x (fails e b) =
    fails e
    (broke_step at (at + 1) s (62 ∷ r) e spaces (omega arith) x
    (broke_step (at + 1) (at + 2) (62 ∷ r) r e marks (omega arith) refl b))

closing-sound : (at : ℕ) (s : List ℕ) → goes_on s ≡ false → Closing at s (closing at s)
unfolding closing
closing-sound at s g = go (eqb (get_or s 0 0) 10) refl
  where
    wrong : eqb (get_or s 0 0) 32 ≡ false → (w t : List ℕ) (q : Place) → Step paired w q → s ≡ w ++ t → ⊥
    wrong e w t q spaces x = eqb-false _ _ e (ap (λ y. get_or y 0 0) x)

    marking : eqb (get_or s 0 0) 32 ≡ true → s ≡ 32 ∷ 62 ∷ drop 2 s
    marking e =
        let a = begins s 32 (omega arith) (eqb-true _ _ e) in
        let m : get_or s 1 0 ≡ 62 = grind (arith, nat_tests) in
        let n : get_or (drop 1 s) 0 0 ≡ 62 = ap (λ y. get_or y 1 0) (sym a) ∙ m in
        let b = begins (drop 1 s) 62 (omega arith) n in
        a ∙ ap (λ y. 32 ∷ y) (b ∙ ap (λ y. 62 ∷ y) (drop-drop 1 1 s))

    further : (b : Bool) → eqb (get_or s 0 0) 10 ≡ false → eqb (get_or s 0 0) 32 ≡ b → Closing at s (cond b (at_mark (at + 2) (drop 2 s)) (Err at))
    further true f e = closing-past at s (drop 2 s) (marking e) (mark_sound (at + 2) (drop 2 s))
    further false f e = fails at (broke_here paired at s (wrong e, λ t m x. eqb-false _ _ f (ap (λ y. get_or y 0 0) x)))

    go : (b : Bool) → eqb (get_or s 0 0) 10 ≡ b → Closing at s (cond b (Ok (Frame at)) (cond (eqb (get_or s 0 0) 32) (at_mark (at + 2) (drop 2 s)) (Err at)))
    go true e = framed (drop 1 s) (begins s 10 (omega arith) (eqb-true _ _ e))
    go false e = further (eqb (get_or s 0 0) 32) e refl

-- a place where a pair has to stand, at the start or after a space, and what else could stand there does not
pub data Opening : Place → List ℕ → Type 0 where
  at_start : {s : List ℕ} → (get_or s 0 0 ≡ 59 → ⊥) → Opening start s
  at_space : {s : List ℕ} → (get_or s 0 0 ≡ 62 → ⊥) → Opening spaced s

opening-step : {q : Place} {s w : List ℕ} {v : ℕ} → Opening q s → Pair w v → Step q w paired
opening-step (at_start h) p = first p
opening-step (at_space h) p = next p

start_stuck : (s : List ℕ) → (get_or s 0 0 ≡ 59 → ⊥) → ((v : ℕ) → pair_of s ≡ Some v → ⊥) → Stuck start s
start_stuck s h n = (wrong, λ t m x. elim m [ ])
  where
    wrong : (w t : List ℕ) (q : Place) → Step start w q → s ≡ w ++ t → ⊥
    wrong w t q opens x = h (ap (λ y. get_or y 0 0) x)
    wrong w t q (first p) x = n _ (ap pair_of x ∙ pair_read p t)

space_stuck : (s : List ℕ) → (get_or s 0 0 ≡ 62 → ⊥) → ((v : ℕ) → pair_of s ≡ Some v → ⊥) → Stuck spaced s
space_stuck s h n = (wrong, λ t m x. elim m [ ])
  where
    wrong : (w t : List ℕ) (q : Place) → Step spaced w q → s ≡ w ++ t → ⊥
    wrong w t q marks x = h (ap (λ y. get_or y 0 0) x)
    wrong w t q (next p) x = n _ (ap pair_of x ∙ pair_read p t)

opening-stuck : {q : Place} {s : List ℕ} → Opening q s → ((v : ℕ) → pair_of s ≡ Some v → ⊥) → Stuck q s
opening-stuck {q} {s} (at_start h) n = start_stuck s h n
opening-stuck {q} {s} (at_space h) n = space_stuck s h n

-- where a pair has to stand
pub data AtPairs (q : Place) (at : ℕ) (s : List ℕ) : Result Extent ℕ → Type 0 where
  framed : {w bs : List ℕ} (t : List ℕ) (e : ℕ) → Pairs w bs → s ≡ w ++ 10 ∷ t → e ≡ at + length w → AtPairs q at s (Ok (Frame e))
  counted : {w bs v : List ℕ} {n : ℕ} (t : List ℕ) (e : ℕ) → Pairs w bs → Pair v n → (n ≡ 0 → ⊥) → s ≡ w ++ 32 ∷ 62 ∷ 32 ∷ v ++ 10 ∷ t → e ≡ at + length w + 5 → AtPairs q at s (Ok (Counted e))
  fails : (e : ℕ) → Broke q at s e → AtPairs q at s (Err e)

-- the last pair
pairs_last : {q : Place} {w : List ℕ} {v : ℕ} (at : ℕ) (s r : List ℕ) {o : Result Extent ℕ} → Step q w paired → Pair w v → s ≡ w ++ r → Closing (at + 2) r o → AtPairs q at s o
pairs_last {q} {w} at s r m p x (framed t y) = let l = pair_size p in framed t (at + 2) (one p) (x ∙ ap (λ u. w ++ u) y) (omega arith)
pairs_last {q} {w} at s r m p x (counted {v} t k z y) =
    let l = pair_size p in
    counted t (at + 2 + 2 + 1 + 2) (one p) k z (x ∙ ap (λ u. w ++ u) y ∙ sym (append_assoc w (32 ∷ 62 ∷ 32 ∷ v) (10 ∷ t))) (omega arith)
pairs_last {q} {w} at s r m p x (fails e b) = let l = pair_size p in fails e (broke_step at (at + 2) s r e m (omega arith) x b)

-- a pair that others follow
pairs_more : {q : Place} {w : List ℕ} {v : ℕ} (at : ℕ) (s r : List ℕ) {o : Result Extent ℕ} → Step q w paired → Pair w v → s ≡ w ++ 32 ∷ r → AtPairs spaced (at + 3) r o → AtPairs q at s o
pairs_more {q} {w} at s r m p x (framed {w = u} t e ps y f) =
    let l = pair_size p in
    let k = length-append w (32 ∷ u) in
    framed t e (more p ps) (x ∙ ap (λ y. w ++ 32 ∷ y) y ∙ sym (append_assoc w (32 ∷ u) (10 ∷ t))) (omega arith)
pairs_more {q} {w} at s r m p x (counted {w = u} {v} t e ps c z y f) =
    let l = pair_size p in
    let k = length-append w (32 ∷ u) in
    counted t e (more p ps) c z
    (x ∙ ap (λ y. w ++ 32 ∷ y) y
    ∙ ap (λ y. w ++ 32 ∷ y) (append_assoc u (32 ∷ 62 ∷ 32 ∷ v) (10 ∷ t))
    ∙ sym (append_assoc w (32 ∷ u) ((32 ∷ 62 ∷ 32 ∷ v) ++ 10 ∷ t))
    ∙ sym (append_assoc (w ++ 32 ∷ u) (32 ∷ 62 ∷ 32 ∷ v) (10 ∷ t))
    )
    (omega arith)
pairs_more {q} {w} at s r m p x (fails e b) =
    let l = pair_size p in
    fails e
    (broke_step at (at + 2) s (32 ∷ r) e m (omega arith) x
    (broke_step (at + 2) (at + 3) (32 ∷ r) r e spaces (omega arith) refl b))

pairs-step : (at : ℕ) (s : List ℕ) (q : Place) → Opening q s → ((v : ℕ) → pair_of s ≡ Some v → goes_on (drop 2 s) ≡ true → AtPairs spaced (at + 3) (drop 3 s) (pairs (at + 3) (drop 3 s))) → AtPairs q at s (pairs at s)
pairs-step at s q o rest = subst (AtPairs q at s) (sym (pairs_turn at s)) (turn (pair_of s) refl)
  where
    going : (v : ℕ) (b : Bool) → pair_of s ≡ Some v → goes_on (drop 2 s) ≡ b → AtPairs q at s (cond b (pairs (at + 3) (drop 3 s)) (closing (at + 2) (drop 2 s)))
    going v true e g =
        let l = pair-spelled s v e in
        let d : drop 2 s ≡ l.left = ap (drop 2) l.text ∙ pair_left l.spelled l.left in
        let h : get_or (drop 2 s) 0 0 ≡ 32 = grind (arith, nat_tests) in
        let a = begins (drop 2 s) 32 (omega arith) h ∙ ap (λ y. 32 ∷ y) (drop-drop 1 2 s) in
        pairs_more at s (drop 3 s) (opening-step o l.spelled) l.spelled (l.text ∙ ap (λ y. l.word ++ y) (sym d ∙ a)) (rest v e g)
    going v false e g =
        let l = pair-spelled s v e in
        let d : drop 2 s ≡ l.left = ap (drop 2) l.text ∙ pair_left l.spelled l.left in
        pairs_last at s (drop 2 s) (opening-step o l.spelled) l.spelled (l.text ∙ ap (λ y. l.word ++ y) (sym d)) (closing-sound (at + 2) (drop 2 s) g)

    turn : (x : Option ℕ) → pair_of s ≡ x → AtPairs q at s (on_pair x (Err at) (λ _. cond (goes_on (drop 2 s)) (pairs (at + 3) (drop 3 s)) (closing (at + 2) (drop 2 s))))
    turn None e = fails at (broke_here q at s (opening-stuck o (λ v f. suc-ne-zero 0 cc)))
    turn (Some v) e = going v (goes_on (drop 2 s)) e refl

pub pairs-sound : (n at : ℕ) (s : List ℕ) (q : Place) → length s ≤ n → Opening q s → AtPairs q at s (pairs at s)
pairs-sound zero at s q f o = pairs-step at s q o (λ v e g. absurd (short v e))
  where
    short : (v : ℕ) → pair_of s ≡ Some v → ⊥
    short v e =
        let l = pair-spelled s v e in
        let k = pair_size l.spelled in
        omega (arith, ap length l.text, length-append l.word l.left)
pairs-sound (suc n) at s q f o = pairs-step at s q o (λ v e g. pairs-sound n (at + 3) (drop 3 s) spaced (fewer v e) (at_space (λ x. unmarked g x)))
  where
    fewer : (v : ℕ) → pair_of s ≡ Some v → length (drop 3 s) ≤ n
    fewer v e =
        let l = pair-spelled s v e in
        let k = pair_size l.spelled in
        omega (arith, length-drop 3 s, ap length l.text, length-append l.word l.left)

    unmarked : goes_on (drop 2 s) ≡ true → get_or (drop 3 s) 0 0 ≡ 62 → ⊥
    unmarked g x =
        let a : get_or (drop 2 s) 1 0 ≡ 62 = get_or-drop 2 s 1 0 ∙ sym (first_left s 3) ∙ x in
        let z : ◌≡◌ {A = ℕ} 0 1 = grind (arith, nat_tests) in omega arith

-- in a note
pub data Inside (at : ℕ) (s : List ℕ) : Result Extent ℕ → Type 0 where
  noted : {w : List ℕ} (t : List ℕ) (e : ℕ) → Unbroken w → s ≡ w ++ 10 ∷ t → e ≡ at + length w → Inside at s (Ok (Note e))
  fails : (e : ℕ) → Broke in_note at s e → Inside at s (Err e)

inside_past : (at b : ℕ) (s : List ℕ) {o : Result Extent ℕ} → (b ≡ 10 → ⊥) → Inside (at + 1) s o → Inside at (b ∷ s) o
inside_past at b s h (noted t e u x f) = noted t e (byte h u) (ap (λ y. b ∷ y) x) (omega arith)
inside_past at b s h (fails e k) = fails e (broke_step at (at + 1) (b ∷ s) s e (notes h) (omega arith) refl k)

pub inside-sound : (at : ℕ) (s : List ℕ) → Inside at s (inside at s)
unfolding inside
inside-sound at [] = fails at (broke_here in_note at [] (wrong, λ t m x. (suc-ne-zero 0 cc)))
  where
    wrong : (w t : List ℕ) (q : Place) → Step in_note w q → [] ≡ w ++ t → ⊥
    wrong w t q (notes h) x = suc-ne-zero 0 cc
inside-sound at (b ∷ s) = go (eqb b 10) refl (inside-sound (at + 1) s)
  where
    go : (c : Bool) → eqb b 10 ≡ c → Inside (at + 1) s (inside (at + 1) s) → Inside at (b ∷ s) (cond c (Ok (Note at)) (inside (at + 1) s))
    go true e r = noted s at none (ap (λ y. y ∷ s) (eqb-true b 10 e)) (omega arith)
    go false e r = inside_past at b s (eqb-false b 10 e) r
