-- What is kept of a line is the line of what it asks for.
use Rattle.std.proofs.Common.{◌≡◌, ℕ, ◌+◌, ◌*◌, ◌/◌, ◌%◌, ◌<◌, ◌≤◌, ◌⊎◌, List, [], ◌∷◌, ◌++◌, length, get_or, Some, None, Option, sym, refl, ap, ◌∙◌, subst, inl, inr, append_assoc, arith, length-append}
use Rattle.std.proofs.Math.Nat.{suc-ne-zero}
use Rattle.std.proofs.lemmas.List.{append-nil}
use Rattle.std.specs.List.{AllByRecursion as All}
use Rattle.std.proofs.ByRecursion.{All-from_get_or}
use Rattle.std.proofs.lemmas.Bool.{cases_eq}
use Rattle.listing.specs.declared.item.Placed.{Placed}
use Rattle.listing.specs.Hex.{glyph, Pair, pair, Pairs, one, more}
use Rattle.listing.specs.Parts.{Part, Spot, part_of, count_of, Exchange, exchange}
use Rattle.listing.specs.Grammar.{LineText, noted, framed, counted, Ending, ended, failed, Reads, over, broken, line}
use Rattle.listing.specs.Writing.{pair_text, spaced_text, pairs_text, back_text, line_text, listing, Noteless, text_of, frame_text, held, kept_count, kept_from, kept_of, ReadsAlone}
use Rattle.listing.proofs.Laying.{back_some}

pub kept_other : (p : Part) (o : Option _) (is : List Spot) → o ≡ None → held o ≡ frame_text p → kept_from (frame_text p) is ≡ []
kept_other p o is e f = ap (λ x. kept_from x is) (sym f ∙ ap held e)

pair-text : {w : List ℕ} {v : ℕ} → Pair w v → pair_text v ≡ w
pair-text (pair h l p q) =
    let a : (h * 16 + l) / 16 ≡ h = omega arith in
    let b : (h * 16 + l) % 16 ≡ l = omega arith in
    ap (λ x. glyph x ∷ glyph ((h * 16 + l) % 16) ∷ []) a ∙ ap (λ x. glyph h ∷ glyph x ∷ []) b

spaced-pairs : {s bs : List ℕ} → Pairs s bs → spaced_text bs ≡ 32 ∷ pairs_text bs
unfolding spaced_text pairs_text
spaced-pairs (one p) = refl
spaced-pairs (more p ps) = refl

pub pairs-text : {w bs : List ℕ} → Pairs w bs → pairs_text bs ≡ w
unfolding spaced_text pairs_text
pairs-text {w} (one {v} p) = append-nil (pair_text v) ∙ pair-text p
pairs-text (more {s} {v} p ps) = ap (λ y. pair_text v ++ y) (spaced-pairs ps ∙ ap (λ y. 32 ∷ y) (pairs-text ps)) ∙ ap (λ y. y ++ 32 ∷ s) (pair-text p)

-- a frame's line, from its pairs
plain_line : {w bs : List ℕ} → Pairs w bs → line_text (exchange bs 0) ≡ w ++ 10 ∷ []
plain_line {w} {bs} ps = ap (λ y. y ++ 10 ∷ []) (append-nil (pairs_text bs) ∙ pairs-text ps)

counted-line : {w bs v : List ℕ} {n : ℕ} → Pairs w bs → Pair v n → (n ≡ 0 → ⊥) → line_text (exchange bs n) ≡ (w ++ 32 ∷ 62 ∷ 32 ∷ v) ++ 10 ∷ []
counted-line {w} {bs} {v} {n} ps p z =
    ap (λ y. (y ++ back_text n) ++ 10 ∷ []) (pairs-text ps)
    ∙ ap (λ y. (w ++ y) ++ 10 ∷ []) (back_some n z ∙ ap (λ y. 32 ∷ 62 ∷ 32 ∷ y) (pair-text p))

listing-one : (x : Exchange) → listing (x ∷ []) ≡ line_text x
unfolding listing
listing-one x = append-nil (line_text x)

listing_none : listing [] ≡ []
unfolding listing
listing_none = refl

pub listing_join : (xs ys : List Exchange) → listing (xs ++ ys) ≡ listing xs ++ listing ys
unfolding listing
listing_join [] ys = refl
listing_join (x ∷ xs) ys = ap (λ y. line_text x ++ y) (listing_join xs ys) ∙ sym (append_assoc (line_text x) (listing xs) (listing ys))

pub line_kept : {l : ℕ} {w : List ℕ} {is : List Spot} {xs : List Exchange} → LineText l w is xs → listing xs ≡ kept_of is
line_kept (noted u) = listing_none
line_kept (framed {w} {bs} ps) = listing-one (exchange bs 0) ∙ plain_line ps
line_kept (counted {w} {bs} {v} {n} ps p z) =
    listing-one (exchange bs n) ∙ counted-line ps p z ∙ append_assoc w (32 ∷ 62 ∷ 32 ∷ v) (10 ∷ [])

pub kept-size : {l : ℕ} {w : List ℕ} {is : List Spot} {xs : List Exchange} → LineText l w is xs → length (kept_of is) ≤ length w + 1
kept-size (noted u) = omega arith
kept-size (framed {w} ps) = let k = length-append w (10 ∷ []) in omega arith
kept-size (counted {w} {v} ps p z) =
    let k = length-append w (32 ∷ 62 ∷ 32 ∷ v ++ 10 ∷ []) in
    let m = length-append v (10 ∷ []) in
    let n = length-append w (32 ∷ 62 ∷ 32 ∷ v) in omega arith

-- a line that is no note is its own text
line_same : {l : ℕ} {w : List ℕ} {is : List Spot} {xs : List Exchange} → LineText l w is xs → Noteless is → listing xs ≡ w ++ 10 ∷ []
unfolding Noteless
line_same (noted u) h = absurd h.0
line_same (framed {bs} ps) h = listing-one (exchange bs 0) ∙ plain_line ps
line_same (counted {bs} {n} ps p z) h = listing-one (exchange bs n) ∙ counted-line ps p z

noteless_parts : (is js : List Spot) → Noteless (is ++ js) → Noteless is × Noteless js
unfolding Noteless
noteless_parts [] js h = (tt, h)
noteless_parts (i ∷ is) js h = let r = noteless_parts is js h.1 in ((h.0, r.0), r.1)

no_end : (l c : ℕ) → failed l c ≡ ended → ⊥
no_end l c e = suc-ne-zero 0 cc

-- a listing without notes is its own text
pub same_text : {l : ℕ} {t : List ℕ} {is : List Spot} {xs : List Exchange} {e : Ending} → Reads l t is xs e → e ≡ ended → Noteless is → listing xs ≡ t
same_text over f h = listing_none
same_text (broken {l} {c} s) f h = absurd (no_end l c f)
same_text (line {w} {t} {is} {js} {xs} {ys} a r) f h =
    let p = noteless_parts is js h in
    listing_join xs ys ∙ ap (λ y. y ++ listing ys) (line_same a p.0) ∙ ap (λ y. (w ++ 10 ∷ []) ++ y) (same_text r f p.1) ∙ append_assoc w (10 ∷ []) t

-- what is written of exchanges that were read reads as them again
abbrev Again : ℕ → List Exchange → Type 0
Again m xs = (js : List Spot) × Reads m (listing xs) js xs ended

again-line : {w : List ℕ} {is : List Spot} (x : Exchange) (ys : List Exchange) (m : ℕ) → LineText m w is (x ∷ []) → line_text x ≡ w ++ 10 ∷ [] → Again (m + 1) ys → Again m (x ∷ ys)
again-line {w} {is} x ys m a e r =
    let P : List ℕ → Type 0 = λ t. Reads m t (is ++ r.0) (x ∷ ys) ended in
    let q : w ++ 10 ∷ listing ys ≡ listing (x ∷ ys) = sym (append_assoc w (10 ∷ []) (listing ys)) ∙ ap (λ y. y ++ listing ys) (sym e) ∙ sym (listing_cons x ys) in
    (is ++ r.0, subst P q (line a r.1))
  where
    listing_cons : (x : Exchange) (ys : List Exchange) → listing (x ∷ ys) ≡ line_text x ++ listing ys
    listing_cons x ys = listing_join (x ∷ []) ys ∙ ap (λ y. y ++ listing ys) (listing-one x)

pub reads-again : {l : ℕ} {t : List ℕ} {is : List Spot} {xs : List Exchange} {e : Ending} (m : ℕ) → Reads l t is xs e → e ≡ ended → Again m xs
reads-again m over f = let P : List ℕ → Type 0 = λ t. Reads m t [] [] ended in ([], subst P (sym listing_none) over)
reads-again m (broken {l} {c} s) f = absurd (no_end l c f)
reads-again m (line {ys} (noted u) r) f = reads-again m r f
reads-again m (line {ys} (framed {bs} ps) r) f = again-line (exchange bs 0) ys m (framed ps) (plain_line ps) (reads-again (m + 1) r f)
reads-again m (line {ys} (counted {bs} {n} ps p z) r) f = again-line (exchange bs n) ys m (counted ps p z) (counted-line ps p z) (reads-again (m + 1) r f)

-- the lines of frames of bytes read as these frames
byte_pair : (b : ℕ) → b < 256 → Pair (pair_text b) b
byte_pair b h =
    let e : b / 16 * 16 + b % 16 ≡ b = omega arith in
    let P : ℕ → Type 0 = λ n. Pair (pair_text b) n in subst P e (pair (b / 16) (b % 16) (omega arith) (omega arith))

-- each is a byte
abbrev pub Bytes : List ℕ → Type 0
Bytes bs = All (λ b. b < 256) bs

byte-pairs : (c : ℕ) (bs : List ℕ) → c < 256 → Bytes bs → Pairs (pairs_text (c ∷ bs)) (c ∷ bs)
unfolding pairs_text spaced_text
byte-pairs c [] h k = one (byte_pair c h)
byte-pairs c (b ∷ bs) h k = more (byte_pair c h) (byte-pairs b bs k.0 k.1)

-- an exchange of bytes, one at least
pub data Sendable : Exchange → Type 0 where
  sendable : (c n : ℕ) (bs : List ℕ) → c < 256 → Bytes bs → n < 256 → Sendable (exchange (c ∷ bs) n)

-- its line, before others
line_before : (m : ℕ) (x : Exchange) (ys : List Exchange) → Sendable x → Again (m + 1) ys → Again m (x ∷ ys)
line_before m _ ys (sendable c n bs h k l) r = go (cases_eq n 0)
  where
    ps : Pairs (pairs_text (c ∷ bs)) (c ∷ bs)
    ps = byte-pairs c bs h k

    go : (n ≡ 0) ⊎ (n ≡ 0 → ⊥) → Again m (exchange (c ∷ bs) n ∷ ys)
    go (inl z) =
        let P : ℕ → Type 0 = λ i. Again m (exchange (c ∷ bs) i ∷ ys) in
        subst P (sym z) (again-line (exchange (c ∷ bs) 0) ys m (framed ps) (plain_line ps) r)
    go (inr z) = let p = byte_pair n l in again-line (exchange (c ∷ bs) n) ys m (counted ps p z) (counted-line ps p z) r

pub all_read : (m : ℕ) (xs : List Exchange) → All Sendable xs → Again m xs
all_read m [] h = let P : List ℕ → Type 0 = λ t. Reads m t [] [] ended in ([], subst P (sym listing_none) over)
all_read m (x ∷ xs) h = line_before m x xs h.0 (all_read (m + 1) xs h.1)

pub frame-reads : (x : Exchange) → Sendable x → ReadsAlone x
frame-reads x h =
    let r = all_read 1 (x ∷ []) (h, tt) in
    let P : List ℕ → Type 0 = λ t. Reads 1 t r.0 (x ∷ []) ended in (r.0, subst P (listing-one x) r.1)

pub bytes-read : (c n : ℕ) (bs : List ℕ) → c < 256 → n < 256 → ((i : ℕ) → get_or bs i 0 < 256) → ReadsAlone (exchange (c ∷ bs) n)
bytes-read c n bs h k l = frame-reads (exchange (c ∷ bs) n) (sendable c n bs h (All-from_get_or (λ b. b < 256) bs 0 (λ i _. l i)) k)

pub frame-kept : (p : Part) (o : Option _) (s : _) (is : List Spot) → o ≡ Some s → held o ≡ frame_text p → kept_from (frame_text p) is ≡ s.now ++ kept_count is
frame-kept p o s is e f = ap (λ x. kept_from x is) (sym f ∙ ap held e)

pub count_kept : (o : Option Placed) (p : Placed) (w : List ℕ) → o ≡ Some p → w ≡ text_of (part_of p.item) → kept_count (count_of o) ≡ (32 ∷ 62 ∷ 32 ∷ []) ++ (w ++ 10 ∷ [])
count_kept o p w e f = ap (λ x. kept_count (count_of x)) e ∙ ap (λ y. 32 ∷ 62 ∷ 32 ∷ y ++ 10 ∷ []) (sym f)
