-- A line as the reader finds it and as the grammar has it.
use Rattle.std.proofs.Common.{◌≡◌, ℕ, ◌+◌, ◌-◌, ◌<◌, Bool, true, false, cond, eqb, List, [], ◌∷◌, ◌++◌, length, get_or, take, drop, Ok, Err, Result, sym, refl, ap, ◌∙◌, subst, append_assoc, arith, length-append}
use Rattle.std.proofs.Math.Nat.{suc-ne-zero}
use Rattle.std.proofs.lemmas.Bool.{eqb-true, eqb-false}
use Rattle.std.proofs.lemmas.List.{take_at, drop_at, take_rest}
use Rattle.listing.specs.declared.extent.Extent.{Extent}
use Rattle.listing.specs.declared.extent.Extent.TheVariants.{Note, Frame, Counted}
use Rattle.listing.specs.declared.fault.ListingFault.{ListingFault}
use Rattle.listing.specs.declared.fault.ListingFault.TheVariants.{Malformed}
use Rattle.listing.specs.declared.item.Line.{Line}
use Rattle.listing.specs.Parts.{note, frame, count, Spot, spot, spots_of, Exchange, exchange}
use Rattle.listing.specs.Grammar.{LineText, noted, framed, counted, start, opens, Stops}
use Rattle.listing.specs.Fault.{row, malformed_at}
use Rattle.listing.specs.Scan.{pairs, inside, scan, refused, Sized, size_of, spots_by}
use Rattle.listing.specs.Promise.{Taken}
use Rattle.listing.proofs.Digits.{pair_size}
use Rattle.listing.proofs.Sound as sound
use Rattle.listing.proofs.Sound.{Broke, broke_step, begins, Opening, AtPairs, pairs-sound, Inside, inside-sound}

-- the items of a line, cut out of the text that it begins
pub spots_note : (l e : ℕ) (w t : List ℕ) → e ≡ length w → spots_by l (w ++ t) (Note e) ≡ spot (note w) l 1 ∷ []
spots_note l e w t h = ap (λ x. spot (note x) l 1 ∷ []) (take_at w t e (sym h))

pub spots_frame : (l e : ℕ) (w t : List ℕ) → e ≡ length w → spots_by l (w ++ t) (Frame e) ≡ spot (frame w) l 1 ∷ []
spots_frame l e w t h = ap (λ x. spot (frame x) l 1 ∷ []) (take_at w t e (sym h))

pub spots_count : (l e : ℕ) (w v t : List ℕ) → length v ≡ 2 → e ≡ length w + 5 →
    spots_by l ((w ++ 32 ∷ 62 ∷ 32 ∷ v) ++ t) (Counted e) ≡ spot (frame w) l 1 ∷ spot (count v) l (length (w ++ 32 ∷ 62 ∷ 32 ∷ []) + 1) ∷ []
spots_count l e w v t k h =
    let f : length w ≡ e - 5 = omega arith in
    let a = append_assoc w (32 ∷ 62 ∷ 32 ∷ v) t in
    let m = length-append w (32 ∷ 62 ∷ 32 ∷ []) in
    let p : take (e - 5) ((w ++ 32 ∷ 62 ∷ 32 ∷ v) ++ t) ≡ w = ap (take (e - 5)) a ∙ take_at w ((32 ∷ 62 ∷ 32 ∷ v) ++ t) (e - 5) f in
    let g : length (w ++ 32 ∷ 62 ∷ 32 ∷ []) ≡ e - 2 = omega arith in
    let b : (w ++ 32 ∷ 62 ∷ 32 ∷ v) ++ t ≡ (w ++ 32 ∷ 62 ∷ 32 ∷ []) ++ (v ++ t) = a ∙ sym (append_assoc w (32 ∷ 62 ∷ 32 ∷ []) (v ++ t)) in
    let q : take 2 (drop (e - 2) ((w ++ 32 ∷ 62 ∷ 32 ∷ v) ++ t)) ≡ v =
    ap (λ x. take 2 (drop (e - 2) x)) b ∙ ap (take 2) (drop_at (w ++ 32 ∷ 62 ∷ 32 ∷ []) (v ++ t) (e - 2) g) ∙ take_at v t 2 k in
    let c : e - 1 ≡ length (w ++ 32 ∷ 62 ∷ 32 ∷ []) + 1 = omega arith in
    ap (λ x. spot (frame x) l 1 ∷ spot (count (take 2 (drop (e - 2) ((w ++ 32 ∷ 62 ∷ 32 ∷ v) ++ t)))) l (e - 1) ∷ []) p
    ∙ ap (λ x. spot (frame w) l 1 ∷ spot (count x) l (e - 1) ∷ []) q
    ∙ ap (λ x. spot (frame w) l 1 ∷ spot (count v) l x ∷ []) c

-- the line of the extent x at the start of s
pub record Found (l : ℕ) (s : List ℕ) (x : Extent) : Type 0 where
  pub text : List ℕ
  pub left : List ℕ
  pub exchanges : List Exchange
  pub reads : LineText l text (spots_by l s x) exchanges
  pub split : s ≡ text ++ 10 ∷ left
  pub size : size_of x ≡ length text
  pub sized : Sized x (length s)

abbrev pub LineIs : ℕ → List ℕ → Result Extent ℕ → Type 0
LineIs l s (Ok x) = Found l s x
LineIs l s (Err e) = Stops s (e + 1)

stops : (s : List ℕ) (e : ℕ) → (s ≡ [] → ⊥) → Broke start 0 s e → Stops s (e + 1)
stops s e h b =
    record {
      front = b.front;
      rest = b.rest;
      at = b.place;
      spelled = b.spelled;
      stuck = b.stuck;
      text = b.text;
      column = let z = b.size in omega arith;
      some = h;
    }

of_pairs : (l : ℕ) (s : List ℕ) {o : Result Extent ℕ} → (s ≡ [] → ⊥) → AtPairs start 0 s o → LineIs l s o
of_pairs l s h (sound.framed {w} {bs} t e ps x f) =
    let n : e ≡ length w = omega arith in
    let i = ap (λ y. spots_by l y (Frame e)) x ∙ spots_frame l e w (10 ∷ t) n in
    record {
      text = w;
      left = t;
      exchanges = exchange bs 0 ∷ [];
      reads = let P : List Spot → Type 0 = λ y. LineText l w y (exchange bs 0 ∷ []) in subst P (sym i) (framed ps);
      split = x;
      size = n;
      sized = let q = ap length x in let a = length-append w (10 ∷ t) in omega arith;
    }
of_pairs l s h (sound.counted {w} {bs} {v} {n} t e ps p z x f) =
    let k = pair_size p in
    let m : e ≡ length w + 5 = omega arith in
    let i = ap (λ y. spots_by l y (Counted e)) x ∙ spots_count l e w v (10 ∷ t) k m in
    record {
      text = w ++ 32 ∷ 62 ∷ 32 ∷ v;
      left = t;
      exchanges = exchange bs n ∷ [];
      reads = let P : List Spot → Type 0 = λ y. LineText l (w ++ 32 ∷ 62 ∷ 32 ∷ v) y (exchange bs n ∷ []) in subst P (sym i) (counted ps p z);
      split = x;
      size = let a = length-append w (32 ∷ 62 ∷ 32 ∷ v) in omega arith;
      sized =
          let q = ap length x in
          let a = length-append (w ++ 32 ∷ 62 ∷ 32 ∷ v) (10 ∷ t) in
          let b = length-append w (32 ∷ 62 ∷ 32 ∷ v) in (omega arith, omega arith);
    }
of_pairs l s h (sound.fails e b) = stops s e h b

of_note : (l : ℕ) (s r : List ℕ) {o : Result Extent ℕ} → (s ≡ [] → ⊥) → s ≡ 59 ∷ r → Inside 1 r o → LineIs l s o
of_note l s r h y (sound.noted {w} t e u x f) =
    let n : e ≡ length (59 ∷ w) = omega arith in
    let z : s ≡ (59 ∷ w) ++ 10 ∷ t = y ∙ ap (λ q. 59 ∷ q) x in
    let i = ap (λ q. spots_by l q (Note e)) z ∙ spots_note l e (59 ∷ w) (10 ∷ t) n in
    record {
      text = 59 ∷ w;
      left = t;
      exchanges = [];
      reads = let P : List Spot → Type 0 = λ q. LineText l (59 ∷ w) q [] in subst P (sym i) (noted u);
      split = z;
      size = n;
      sized = let q = ap length z in let a = length-append (59 ∷ w) (10 ∷ t) in omega arith;
    }
of_note l s r h y (sound.fails e b) = stops s e h (broke_step 0 1 s r e opens (omega arith) y b)

pub line-sound : (l : ℕ) (s : List ℕ) → (s ≡ [] → ⊥) → LineIs l s (scan s)
unfolding inside
line-sound l s h = go (eqb (get_or s 0 0) 59) refl
  where
    inner : (r : List ℕ) → s ≡ 59 ∷ r → LineIs l s (inside 0 s)
    inner r y =
        let P : List ℕ → Type 0 = λ q. LineIs l s (inside 0 q) in
        subst P (sym y) (of_note l s r h y (inside-sound 1 r))

    go : (b : Bool) → eqb (get_or s 0 0) 59 ≡ b → LineIs l s (cond b (inside 0 s) (pairs 0 s))
    go true e = inner (drop 1 s) (begins s 59 (omega arith) (eqb-true _ _ e))
    go false e = of_pairs l s h (pairs-sound (length s) 0 s start (omega arith) (sound.at_start (eqb-false _ _ e)))

-- what the reader's answer says of a text that is not empty
found : (l : ℕ) (s : List ℕ) (x : Extent) (o : Result Extent ℕ) → Ok x ≡ refused l o → LineIs l s o → Found l s x
found l s x (Ok y) e h = let P : Extent → Type 0 = λ z. Found l s z in subst P (let q : y ≡ x = cc in q) h
found l s x (Err a) e h = absurd (suc-ne-zero 0 cc)

line_sound : (l : ℕ) (s : List ℕ) → 0 < length s → LineIs l s (scan s)
line_sound l s some = line-sound l s (λ e. let n = ap length e in omega arith)

pub line_found : {l : ℕ} {s : List ℕ} {x : Extent} → 0 < length s → Ok x ≡ refused l (scan s) → Found l s x
line_found {l} {s} {x} some e = found l s x (scan s) e (line_sound l s some)

halted : (l : ℕ) (s : List ℕ) (f : ListingFault) (o : Result Extent ℕ) → Err f ≡ refused l o → LineIs l s o → ((c : ℕ) × Stops s c × (row f ≡ malformed_at l c))
halted l s f (Ok y) e h = absurd (suc-ne-zero 0 cc)
halted l s f (Err a) e h = (a + 1, h, (let q : f ≡ Malformed l (a + 1) = cc in ap row q))

pub line_refused : {l : ℕ} {s : List ℕ} {f : ListingFault} → 0 < length s → Err f ≡ refused l (scan s) → ((c : ℕ) × Stops s c × (row f ≡ malformed_at l c))
line_refused {l} {s} {f} some e = halted l s f (scan s) e (line_sound l s some)

-- a line that is found ends before the text does
pub found_within : {l : ℕ} {s : List ℕ} {x : Extent} → Found l s x → size_of x < length s
found_within f = let e = ap length f.split in let a = length-append f.text (10 ∷ f.left) in let n = f.size in omega arith

pub taken : (l n : ℕ) (s : List ℕ) (x : Extent) (r : Line) → Found l s x → spots_of r ≡ spots_by l s x → n ≡ size_of x →
    Taken l (l + 1) s (take (length s - (n + 1)) (drop (n + 1) s)) r
taken l n s x r f e m =
    let w = f.text in
    let a : s ≡ (w ++ 10 ∷ []) ++ f.left = f.split ∙ sym (append_assoc w (10 ∷ []) f.left) in
    let k : length (w ++ 10 ∷ []) ≡ n + 1 = let q = length-append w (10 ∷ []) in let z = f.size in omega arith in
    let d : drop (n + 1) s ≡ f.left = ap (drop (n + 1)) a ∙ drop_at (w ++ 10 ∷ []) f.left (n + 1) k in
    record {
      text = w;
      exchanges = f.exchanges;
      reads = let P : List Spot → Type 0 = λ y. LineText l w y f.exchanges in subst P (sym e) f.reads;
      split = f.split ∙ ap (λ y. w ++ 10 ∷ y) (sym d ∙ sym (take_rest s (n + 1)));
      next = refl;
    }
