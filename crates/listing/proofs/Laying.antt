-- Parts of a text laid one after another over the start of a buffer.
use Rattle.std.proofs.Common.{◌≡◌, ℕ, ◌+◌, ◌*◌, ◌<◌, ◌≤◌, cond, List, [], ◌∷◌, ◌++◌, length, get_or, take, drop, sym, refl, ap, ◌∙◌, append_assoc, add-zero, zero-add, arith, length-append}
use Rattle.std.proofs.lemmas.List.{take_at, take-append-drop, take_more, length-take-le}
use Rattle.std.proofs.lemmas.Slice.{drop-append-drop}
use Rattle.std.proofs.lemmas.Bool.{eq-eqb, ne_eqb, le-leb}
use Rattle.memory.specs.Page.{put}
use Rattle.listing.specs.Parts.{exchange}
use Rattle.listing.specs.Values.{over}
use Rattle.listing.specs.Writing.{pair_text, spaced_text, pairs_text, back_text, line_text}

-- the buffer l with w over its start
abbrev pub topped : List ℕ → List ℕ → List ℕ
topped w l = w ++ drop (length w) l

pub put_start : (w l : List ℕ) → put 0 w l ≡ topped w l
put_start w l = ap (λ n. w ++ drop n l) (zero-add (length w))

pub put_next : (n : ℕ) (a b l : List ℕ) → n ≡ length a → length a + length b ≤ length l → put n b (topped a l) ≡ topped (a ++ b) l
put_next n a b l e f =
    let k = length-append a b in
    let m : n + length b ≡ length (a ++ b) = omega arith in
    ap (λ x. x ++ (b ++ drop (n + length b) (topped a l))) (take_at a (drop (length a) l) n (sym e))
    ∙ ap (λ x. a ++ (b ++ x)) (drop-append-drop (length a) l a (n + length b) (omega arith) refl ∙ ap (λ i. drop i l) m)
    ∙ sym (append_assoc a b (drop (length (a ++ b)) l))

put_top : (at : ℕ) (a l : List ℕ) → at + length a ≤ length l → put at a l ≡ topped (take at l ++ a) l
put_top at a l h =
    let k = length-append (take at l) a in
    let m = length-take-le at l (omega arith) in
    let n : at + length a ≡ length (take at l ++ a) = omega arith in
    sym (append_assoc (take at l) a (drop (at + length a) l)) ∙ ap (λ i. (take at l ++ a) ++ drop i l) n

-- two parts laid one after the other are laid at once
pub put_join : (at n : ℕ) (a b l : List ℕ) → n ≡ at + length a → n + length b ≤ length l → put n b (put at a l) ≡ put at (a ++ b) l
put_join at n a b l e h =
    let k = length-append (take at l) a in
    let j = length-append a b in
    let m = length-take-le at l (omega arith) in
    ap (put n b) (put_top at a l (omega arith))
    ∙ put_next n (take at l ++ a) b l (omega arith) (omega arith)
    ∙ ap (λ y. topped y l) (append_assoc (take at l) a b)
    ∙ sym (put_top at (a ++ b) l (omega arith))

pub put_none : (at : ℕ) (l : List ℕ) → put at [] l ≡ l
put_none at l = ap (λ n. take at l ++ drop n l) (add-zero at) ∙ take-append-drop at l

-- bytes after a space each
pub spaced-size : (bs : List ℕ) → length (spaced_text bs) ≡ 3 * length bs
unfolding spaced_text
spaced-size [] = refl
spaced-size (b ∷ bs) = let e = spaced-size bs in omega arith

pub spaced_join : (cs bs : List ℕ) → spaced_text (cs ++ bs) ≡ spaced_text cs ++ spaced_text bs
unfolding spaced_text
spaced_join [] bs = refl
spaced_join (c ∷ cs) bs = ap (λ y. 32 ∷ pair_text c ++ y) (spaced_join cs bs)

pub spaced_more : (bs : List ℕ) (i : ℕ) → i < length bs → spaced_text (take (i + 1) bs) ≡ spaced_text (take i bs) ++ 32 ∷ pair_text (get_or bs i 0)
unfolding spaced_text
spaced_more bs i h = ap spaced_text (take_more bs i 0 h) ∙ spaced_join (take i bs) (get_or bs i 0 ∷ [])

-- the line of a frame, part by part
pub line-parts : (c : ℕ) (bs : List ℕ) (n : ℕ) → line_text (exchange (c ∷ bs) n) ≡ ((pair_text c ++ spaced_text bs) ++ back_text n) ++ 10 ∷ []
unfolding pairs_text
line-parts c bs n = refl

pub back_none : (n : ℕ) → n ≡ 0 → back_text n ≡ []
back_none n z = ap (λ b. cond b [] (32 ∷ 62 ∷ 32 ∷ pair_text n)) (eq-eqb n 0 z)

pub back_some : (n : ℕ) → (n ≡ 0 → ⊥) → back_text n ≡ (32 ∷ 62 ∷ 32 ∷ []) ++ pair_text n
back_some n z = ap (λ b. cond b [] (32 ∷ 62 ∷ 32 ∷ pair_text n)) (ne_eqb n 0 z)

pub line-size : (c : ℕ) (bs : List ℕ) (n : ℕ) → length (line_text (exchange (c ∷ bs) n)) ≡ 3 + length (spaced_text bs) + length (back_text n)
line-size c bs n =
    let e = ap length (line-parts c bs n) in
    let a = length-append ((pair_text c ++ spaced_text bs) ++ back_text n) (10 ∷ []) in
    let b = length-append (pair_text c ++ spaced_text bs) (back_text n) in
    let d = length-append (pair_text c) (spaced_text bs) in omega arith

-- what fits a buffer, and what does not
pub over-fits : (w l : List ℕ) → length w ≤ length l → over w l ≡ topped w l
over-fits w l h = ap (λ b. cond b (topped w l) l) (le-leb (length w) (length l) h)
