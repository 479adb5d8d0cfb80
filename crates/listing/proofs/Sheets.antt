-- Parts of a text written one after another on a sheet.
use Rattle.std.proofs.Common.{◌≡◌, ℕ, ◌+◌, ◌<◌, List, [], ◌∷◌, ◌++◌, length, get_or, take, drop, sym, refl, ap, ◌∙◌, subst, arith, length-append}
use Rattle.std.proofs.lemmas.List.{take-append-drop}
use Rattle.memory.specs.Page.{put}
use Rattle.memory.proofs.Blocks.{length-put}
use Rattle.listing.specs.declared.sheet.Sheet.{Sheet}
use Rattle.listing.specs.Parts.{exchange}
use Rattle.listing.specs.Sheets.{Room, Wrote}
use Rattle.listing.specs.Writing.{pair_text, spaced_text, back_text, line_text}
use Rattle.listing.proofs.Laying.{put_join, put_none, spaced_join, spaced_more, line-parts}

-- nothing, and a text that is the same
pub wrote_none : (p : Sheet) {w : List ℕ} → w ≡ [] → Wrote p p w
wrote_none p e =
    let n = ap length e in
    record { same = refl; place = omega arith; buffer = sym (ap (λ y. put p.at y p.into.now) e ∙ put_none p.at p.into.now) }

pub wrote_is : {p q : Sheet} {v w : List ℕ} → Wrote p q v → v ≡ w → Wrote p q w
wrote_is {p} {q} x e = let P : List ℕ → Type 0 = Wrote p q in subst P e x

-- two parts of a text that has room
pub room_first : (p : Sheet) {w : List ℕ} (a b : List ℕ) → w ≡ a ++ b → Room p w → Room p a
room_first p a b e h = let m = ap length e in let n = length-append a b in omega arith

pub room_next : {p q : Sheet} {w a : List ℕ} (b : List ℕ) → w ≡ a ++ b → Room p w → Wrote p q a → Room q b
room_next {p} {q} {w} {a} b e h x =
    let m = ap length e in
    let n = length-append a b in
    let s = ap length x.buffer ∙ length-put p.at a p.into.now (omega arith) in
    let k = x.place in omega arith

pub wrote_join : {p q r : Sheet} {w a b : List ℕ} → w ≡ a ++ b → Room p w → Wrote p q a → Wrote q r b → Wrote p r w
wrote_join {p} {q} {r} {w} {a} {b} e h x y =
    let m = ap length e in
    let n = length-append a b in
    let k = x.place in
    let l = y.place in
    record {
      same = y.same ∙ x.same;
      place = omega arith;
      buffer =
          y.buffer ∙ ap (put q.at b) x.buffer
          ∙ put_join p.at q.at a b p.into.now k (omega arith)
          ∙ ap (λ z. put p.at z p.into.now) (sym e);
    }

-- one more byte after a space
module _ {p q : Sheet} (bs : List ℕ) (i : ℕ) (h : Room p (spaced_text bs)) (l : i < length bs) (x : Wrote p q (spaced_text (take i bs))) where
  abbrev S : List ℕ
  S = spaced_text (take i bs)

  abbrev P : List ℕ
  P = pair_text (get_or bs i 0)

  one_more : spaced_text (take (i + 1) bs) ≡ S ++ 32 ∷ P
  one_more = spaced_more bs i l

  so_far : Room p (S ++ 32 ∷ P)
  so_far =
      let e = ap spaced_text (sym (take-append-drop (i + 1) bs)) ∙ spaced_join (take (i + 1) bs) (drop (i + 1) bs) ∙ ap (λ y. y ++ spaced_text (drop (i + 1) bs)) one_more in
      room_first p (S ++ 32 ∷ P) (spaced_text (drop (i + 1) bs)) e h

  pub spaced_room : Room q (32 ∷ P)
  spaced_room = room_next (32 ∷ P) refl so_far x

  pub spaced_turn : {r : Sheet} → Wrote q r (32 ∷ P) → Wrote p r (spaced_text (take (i + 1) bs))
  spaced_turn y = wrote_is (wrote_join refl so_far x y) (sym one_more)

-- the line of a frame, part by part
module _ (p : Sheet) (c n : ℕ) (bs : List ℕ) (h : Room p (line_text (exchange (c ∷ bs) n))) where
  front : Room p ((pair_text c ++ spaced_text bs) ++ back_text n)
  front = room_first p ((pair_text c ++ spaced_text bs) ++ back_text n) (10 ∷ []) (line-parts c bs n) h

  bytes : Room p (pair_text c ++ spaced_text bs)
  bytes = room_first p (pair_text c ++ spaced_text bs) (back_text n) refl front

  pub code_room : Room p (pair_text c)
  code_room = room_first p (pair_text c) (spaced_text bs) refl bytes

  pub rest_room : {q : Sheet} → Wrote p q (pair_text c) → Room q (spaced_text bs)
  rest_room = room_next (spaced_text bs) refl bytes

  pub back_room : {q r : Sheet} → Wrote p q (pair_text c) → Wrote q r (spaced_text bs) → Room r (back_text n)
  back_room x y = room_next (back_text n) refl front (wrote_join refl bytes x y)

  pub end_room : {q r s : Sheet} → Wrote p q (pair_text c) → Wrote q r (spaced_text bs) → Wrote r s (back_text n) → Room s (10 ∷ [])
  end_room x y z = room_next (10 ∷ []) (line-parts c bs n) h (wrote_join refl front (wrote_join refl bytes x y) z)

  pub line_wrote : {q r s t : Sheet} → Wrote p q (pair_text c) → Wrote q r (spaced_text bs) → Wrote r s (back_text n) → Wrote s t (10 ∷ []) → Wrote p t (line_text (exchange (c ∷ bs) n))
  line_wrote x y z u = wrote_join (line-parts c bs n) h (wrote_join refl front (wrote_join refl bytes x y) z) u

-- a text on a new sheet
pub sheet_text : {p q : Sheet} {w was : List ℕ} → p.at ≡ 0 → p.into.now ≡ was → Wrote p q w → (q.at ≡ length w) × (q.into.now ≡ put 0 w was)
sheet_text {p} {q} {w} {was} z e x =
    let n = x.place in
    (omega arith, x.buffer ∙ ap (λ i. put i w p.into.now) z ∙ ap (put 0 w) e)
