-- What the grammar says of a line is what the reader finds, so a text reads in one way.
use Rattle.std.proofs.Common.{◌≡◌, ℕ, ◌+◌, ◌-◌, ◌<◌, Bool, true, false, cond, not, ◌&&◌, eqb, List, [], ◌∷◌, ◌++◌, length, get_or, drop, Some, None, Ok, Err, Option, Result, sym, refl, ap, ◌∙◌, subst, append_assoc, arith, length-append}
use Rattle.std.proofs.lemmas.Bool.{ne_eqb, eqb-true, eqb-false}
use Rattle.std.proofs.lemmas.List.{append-nil}
use Rattle.listing.specs.declared.extent.Extent.{Extent}
use Rattle.listing.specs.declared.extent.Extent.TheVariants.{Note, Frame, Counted}
use Rattle.listing.specs.Hex.{Pair, Pairs, one, more}
use Rattle.listing.specs.Grammar.{Unbroken, none, byte, LineText, noted, framed, counted, Place, start, in_note, paired, spaced, marked, wanted, told, Step, opens, notes, first, spaces, next, marks, parts, counts, note-ends, frame-ends, count-ends, Spells, here, step, Stuck, Stops}
use Rattle.listing.specs.Parts.{Spot, Exchange}
use Rattle.listing.specs.Scan.{pair_of, on_pair, goes_on, at_end, at_count, at_mark, closing, pairs, inside, scan, size_of, spots_by}
use Rattle.listing.proofs.Lined.{spots_note, spots_frame, spots_count}
use Rattle.listing.proofs.Digits.{Leads, pair_read, pair_size, pair_left, pair_first, pair-spelled, pair_past}
use Rattle.listing.proofs.Sound.{begins}
use Rattle.listing.proofs.Turns.{pairs_turn}

-- the reader's way on from a place
abbrev run : Place → ℕ → List ℕ → Result Extent ℕ
run start at s = cond (eqb (get_or s 0 0) 59) (inside at s) (pairs at s)
run in_note at s = inside at s
run paired at s = cond (goes_on s) (pairs (at + 1) (drop 1 s)) (closing at s)
run spaced at s = cond (eqb (get_or s 0 0) 62) (at_mark (at + 1) (drop 1 s)) (pairs at s)
run marked at s = at_mark at s
run wanted at s = at_count at s
run told at s = at_end at s

-- a pair where one has to stand
run_pair : {w : List ℕ} {v : ℕ} (at : ℕ) (s : List ℕ) → Pair w v → pairs at (w ++ s) ≡ run paired (at + 2) s
run_pair {w} {v} at s p =
    let h : at + 3 ≡ at + 2 + 1 = omega arith in
    let e : drop 3 (w ++ s) ≡ drop 1 s = pair_past p s in
    pairs_turn at (w ++ s)
    ∙ ap (λ o. on_pair o (Err at) (λ _. cond (goes_on (drop 2 (w ++ s))) (pairs (at + 3) (drop 3 (w ++ s))) (closing (at + 2) (drop 2 (w ++ s))))) (pair_read p s)
    ∙ ap (λ r. cond (goes_on r) (pairs (at + 3) (drop 3 (w ++ s))) (closing (at + 2) r)) (pair_left p s)
    ∙ ap (λ r. cond (goes_on s) (pairs (at + 3) r) (closing (at + 2) s)) e
    ∙ ap (λ n. cond (goes_on s) (pairs n (drop 1 s)) (closing (at + 2) s)) h

run_step : {p q : Place} {w : List ℕ} (at : ℕ) (s : List ℕ) → Step p w q → run p at (w ++ s) ≡ run q (at + length w) s
unfolding inside closing
run_step at s opens = refl
run_step at s (notes {b} h) = ap (λ c. cond c (Ok (Note at)) (inside (at + 1) s)) (ne_eqb b 10 h)
run_step {w} at s (first p) =
    let f = pair_first p s in
    let n : at + 2 ≡ at + length w = let k = pair_size p in omega arith in
    ap (λ c. cond c (inside at (w ++ s)) (pairs at (w ++ s))) (ne_eqb _ 59 f.1)
    ∙ run_pair at s p ∙ ap (λ m. run paired m s) n
run_step at s spaces = go (eqb (get_or s 0 0) 62) refl
  where
    go : (b : Bool) → eqb (get_or s 0 0) 62 ≡ b →
        cond (not b) (pairs (at + 1) s) (at_mark (at + 2) (drop 1 s)) ≡ cond b (at_mark (at + 1 + 1) (drop 1 s)) (pairs (at + 1) s)
    go true e = ap (λ m. at_mark m (drop 1 s)) (let h : at + 2 ≡ at + 1 + 1 = omega arith in h)
    go false e = refl
run_step {w} at s (next p) =
    let f = pair_first p s in
    let n : at + 2 ≡ at + length w = let k = pair_size p in omega arith in
    ap (λ c. cond c (at_mark (at + 1) (drop 1 (w ++ s))) (pairs at (w ++ s))) (ne_eqb _ 62 f.2)
    ∙ run_pair at s p ∙ ap (λ m. run paired m s) n
run_step at s marks = refl
run_step at s parts = refl
run_step {w} at s (counts {v} p z) =
    let n : at + 2 ≡ at + length w = let k = pair_size p in omega arith in
    ap (λ o. on_pair o (Err at) (λ v. cond (eqb v 0) (Err at) (at_end (at + 2) (drop 2 (w ++ s))))) (pair_read p s)
    ∙ ap (λ c. cond c (Err at) (at_end (at + 2) (drop 2 (w ++ s)))) (ne_eqb v 0 z)
    ∙ ap (at_end (at + 2)) (pair_left p s) ∙ ap (λ m. at_end m s) n

run_path : {p q : Place} {w : List ℕ} (at : ℕ) (s : List ℕ) → Spells p w q → run p at (w ++ s) ≡ run q (at + length w) s
run_path {p} at s here = ap (λ n. run p n s) (let h : at ≡ at + 0 = omega arith in h)
run_path {p} {q} at s (step {w} {s = u} m r) =
    let n : at + length w + length u ≡ at + length (w ++ u) = let k = length-append w u in omega arith in
    ap (run p at) (append_assoc w u s) ∙ run_step at (u ++ s) m ∙ run_path (at + length w) s r ∙ ap (λ n. run q n s) n

-- what cannot stand at the first place of a text
begun : (s : List ℕ) (b : ℕ) → 0 < b → ((t : List ℕ) → s ≡ b ∷ t → ⊥) → eqb (get_or s 0 0) b ≡ false
begun s b l h = ne_eqb _ b (λ e. h (drop 1 s) (begins s b l e))

unpaired : (at : ℕ) (s : List ℕ) → ((v : ℕ) → Leads s v → ⊥) → pairs at s ≡ Err at
unpaired at s h = pairs_turn at s ∙ go (pair_of s) refl
  where
    go : (o : Option ℕ) → pair_of s ≡ o → on_pair (pair_of s) (Err at) (λ _. cond (goes_on (drop 2 s)) (pairs (at + 3) (drop 3 s)) (closing (at + 2) (drop 2 s))) ≡ Err at
    go None e = ap (λ o. on_pair o (Err at) (λ _. cond (goes_on (drop 2 s)) (pairs (at + 3) (drop 3 s)) (closing (at + 2) (drop 2 s)))) e
    go (Some v) e = absurd (h v (pair-spelled s v e))

run_stuck : (p : Place) (at : ℕ) (s : List ℕ) → Stuck p s → run p at s ≡ Err at
unfolding inside closing
run_stuck start at s h =
    ap (λ c. cond c (inside at s) (pairs at s)) (begun s 59 (omega arith) (λ t e. h.0 (59 ∷ []) t in_note opens e))
    ∙ unpaired at s (λ v l. h.0 l.word l.left paired (first l.spelled) l.text)
run_stuck in_note at [] h = refl
run_stuck in_note at (b ∷ s) h = absurd (go (eqb b 10) refl)
  where
    go : (c : Bool) → eqb b 10 ≡ c → ⊥
    go true e = h.1 s note-ends (ap (λ x. x ∷ s) (eqb-true b 10 e))
    go false e = h.0 (b ∷ []) s in_note (notes (eqb-false b 10 e)) refl
run_stuck paired at s h =
    let a = begun s 32 (omega arith) (λ t e. h.0 (32 ∷ []) t spaced spaces e) in
    let b = begun s 10 (omega arith) (λ t e. h.1 t frame-ends e) in
    ap (λ c. cond (c && not (eqb (get_or s 1 0) 62)) (pairs (at + 1) (drop 1 s)) (closing at s)) a
    ∙ ap (λ c. cond c (Ok (Frame at)) (cond (eqb (get_or s 0 0) 32) (at_mark (at + 2) (drop 2 s)) (Err at))) b
    ∙ ap (λ c. cond c (at_mark (at + 2) (drop 2 s)) (Err at)) a
run_stuck spaced at s h =
    ap (λ c. cond c (at_mark (at + 1) (drop 1 s)) (pairs at s)) (begun s 62 (omega arith) (λ t e. h.0 (62 ∷ []) t marked marks e))
    ∙ unpaired at s (λ v l. h.0 l.word l.left paired (next l.spelled) l.text)
run_stuck marked at s h = ap (λ c. cond c (at_count (at + 1) (drop 1 s)) (Err at)) (begun s 32 (omega arith) (λ t e. h.0 (32 ∷ []) t wanted parts e))
run_stuck wanted at s h = go (pair_of s) refl
  where
    zeroed : (v : ℕ) (b : Bool) → pair_of s ≡ Some v → eqb v 0 ≡ b → cond (eqb v 0) (Err at) (at_end (at + 2) (drop 2 s)) ≡ Err at
    zeroed v true e z = ap (λ c. cond c (Err at) (at_end (at + 2) (drop 2 s))) z
    zeroed v false e z = let l = pair-spelled s v e in absurd (h.0 l.word l.left told (counts l.spelled (eqb-false v 0 z)) l.text)

    go : (o : Option ℕ) → pair_of s ≡ o → on_pair (pair_of s) (Err at) (λ v. cond (eqb v 0) (Err at) (at_end (at + 2) (drop 2 s))) ≡ Err at
    go None e = ap (λ o. on_pair o (Err at) (λ v. cond (eqb v 0) (Err at) (at_end (at + 2) (drop 2 s)))) e
    go (Some v) e = ap (λ o. on_pair o (Err at) (λ v. cond (eqb v 0) (Err at) (at_end (at + 2) (drop 2 s)))) e ∙ zeroed v (eqb v 0) e refl
run_stuck told at s h = ap (λ c. cond c (Ok (Counted at)) (Err at)) (begun s 10 (omega arith) (λ t e. h.1 t count-ends e))

-- a line that stops at a column makes the reader stop there
pub stops_read : (s : List ℕ) (c : ℕ) → Stops s c → (scan s ≡ Err (c - 1))
stops_read s c h =
    let n : 0 + length h.front ≡ c - 1 = let k = h.column in omega arith in
    ap scan h.text ∙ run_path 0 h.rest h.spelled ∙ run_stuck h.at (0 + length h.front) h.rest h.stuck ∙ ap (λ m. Err m) n

-- the pairs of a frame as a way through the line
opened : {w bs : List ℕ} (q : Place) → ((u : List ℕ) (v : ℕ) → Pair u v → Step q u paired) → Pairs w bs → Spells q w paired
opened {w} q f (one p) = subst (λ x. Spells q x paired) (append-nil w) (step (f _ _ p) here)
opened q f (more p ps) = step (f _ _ p) (step spaces (opened spaced (λ u v p. next p) ps))

noting : {w : List ℕ} → Unbroken w → Spells in_note w in_note
noting none = here
noting (byte h u) = step (notes h) (noting u)

joined_paths : {p q r : Place} {w s : List ℕ} → Spells p w q → Spells q s r → Spells p (w ++ s) r
joined_paths here m = m
joined_paths {p} {q} {r} {s} (step {w} {s = u} a b) m = subst (λ x. Spells p x r) (sym (append_assoc w u s)) (step a (joined_paths b m))

-- a line that the grammar has is what the reader finds
pub record Seen (l : ℕ) (s w : List ℕ) (is : List Spot) : Type 0 where
  pub extent : Extent
  pub scanned : scan s ≡ Ok extent
  pub spots : spots_by l s extent ≡ is
  pub size : size_of extent ≡ length w

pub line_read : {l : ℕ} {w : List ℕ} {is : List Spot} {xs : List Exchange} (t : List ℕ) → LineText l w is xs → Seen l (w ++ 10 ∷ t) w is
unfolding closing inside
line_read {l} t (noted {w} u) =
    record {
      extent = Note (length (59 ∷ w));
      scanned = run_path 0 (10 ∷ t) (step opens (noting u)) ∙ ap (λ n. Ok (Note n)) (let h : 0 + length (59 ∷ w) ≡ length (59 ∷ w) = omega arith in h);
      spots = spots_note l (length (59 ∷ w)) (59 ∷ w) (10 ∷ t) refl;
      size = refl;
    }
line_read {l} t (framed {w} ps) =
    record {
      extent = Frame (length w);
      scanned = run_path 0 (10 ∷ t) (opened start (λ u v p. first p) ps) ∙ ap (λ n. Ok (Frame n)) (let h : 0 + length w ≡ length w = omega arith in h);
      spots = spots_frame l (length w) w (10 ∷ t) refl;
      size = refl;
    }
line_read {l} t (counted {w} {v} ps p z) =
    let n = length (w ++ 32 ∷ 62 ∷ 32 ∷ v) in
    let k = pair_size p in
    let a = length-append w (32 ∷ 62 ∷ 32 ∷ v) in
    let c : Spells wanted v told = subst (λ x. Spells wanted x told) (append-nil v) (step (counts p z) here) in
    record {
      extent = Counted n;
      scanned =
          run_path 0 (10 ∷ t) (joined_paths (opened start (λ u v p. first p) ps) (step spaces (step marks (step parts c))))
          ∙ ap (λ m. Ok (Counted m)) (let h : 0 + n ≡ n = omega arith in h);
      spots = spots_count l n w v (10 ∷ t) k (omega arith);
      size = refl;
    }
