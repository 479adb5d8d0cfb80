-- A text read line by line.
use Rattle.std.proofs.Common.{◌≡◌, ℕ, ◌+◌, ◌≤◌, List, [], ◌∷◌, ◌++◌, length, drop, Some, None, Ok, Err, Option, Result, sym, refl, ap, ◌∙◌, subst, append_assoc, arith, length-append}
use Rattle.std.proofs.Math.Nat.{suc-ne-zero}
use Rattle.std.proofs.lemmas.List.{append-nil, length-drop}
use Rattle.memory.specs.Page.{put}
use Rattle.listing.specs.declared.fault.ListingFault.{ListingFault}
use Rattle.listing.specs.declared.item.Line.{Line}
use Rattle.listing.specs.Fault.{row, malformed_at}
use Rattle.listing.specs.Parts.{Spot, spots_of, Exchange}
use Rattle.listing.specs.Grammar.{Stops, Ending, ended, failed, Reads, over, broken, line}
use Rattle.listing.specs.Promise.{Taken, Next, Measured, Refuses, Copied}
use Rattle.listing.specs.Writing.{listing, kept_of}
use Rattle.listing.proofs.Keeping.{listing_join, line_kept, kept-size}
use Rattle.listing.proofs.Laying.{topped, put_next}
use Rattle.listing.proofs.Single.{same_line, no_stop, unambiguous}

-- the text up to line l, with `rest` left; its kept lines are n bytes
pub record Progress (text : List ℕ) (l : ℕ) (rest : List ℕ) (n : ℕ) : Type 0 where
  pub items : List Spot
  pub exchanges : List Exchange
  -- however the rest reads, the text reads as what was read and then the rest
  pub onward : (js : List Spot) (ys : List Exchange) (e : Ending) → Reads l rest js ys e → Reads 1 text (items ++ js) (exchanges ++ ys) e
  pub size : n ≡ length (listing exchanges)
  pub room : n + length rest ≤ length text

pub progress_start : (text : List ℕ) → Progress text 1 text 0
unfolding listing
progress_start text = record { items = []; exchanges = []; onward = λ js ys e r. r; size = refl; room = omega arith }

-- the line taken, before what is left
taken-line : {l m : ℕ} {s left : List ℕ} {r : Line} {js : List Spot} {ys : List Exchange} {e : Ending} (t : Taken l m s left r) → Reads m left js ys e → Reads l s (spots_of r ++ js) (t.exchanges ++ ys) e
taken-line {l} {m} {s} {left} {r} {js} {ys} {e} t d =
    let P : ℕ → Type 0 = λ n. Reads n left js ys e in
    let Q : List ℕ → Type 0 = λ x. Reads l x (spots_of r ++ js) (t.exchanges ++ ys) e in
    subst Q (sym t.split) (line t.reads (subst P t.next d))

pub progress_more : {text : List ℕ} {l m n : ℕ} {s left : List ℕ} {r : Line} → Progress text l s n → Taken l m s left r → Progress text m left (n + length (kept_of (spots_of r)))
progress_more {text} {l} {m} {n} {s} {left} {r} p t =
    let k = kept-size t.reads in
    let a = ap length t.split in
    let b = length-append t.text (10 ∷ left) in
    let c = ap length (listing_join p.exchanges t.exchanges) in
    let d = length-append (listing p.exchanges) (listing t.exchanges) in
    let f = ap length (line_kept t.reads) in
    let g = p.size in
    let h = p.room in
    record {
      items = p.items ++ spots_of r;
      exchanges = p.exchanges ++ t.exchanges;
      onward = λ js ys e q.
          let P : List Spot → Type 0 = λ x. Reads 1 text x ((p.exchanges ++ t.exchanges) ++ ys) e in
          let Q : List Exchange → Type 0 = λ x. Reads 1 text (p.items ++ (spots_of r ++ js)) x e in
          subst P (sym (append_assoc p.items (spots_of r) js))
          (subst Q (sym (append_assoc p.exchanges t.exchanges ys))
          (p.onward (spots_of r ++ js) (t.exchanges ++ ys) e (taken-line t q)));
      size = omega arith;
      room = omega arith;
    }

pub progress_end : {text : List ℕ} {l n : ℕ} {s : List ℕ} → Progress text l s n → s ≡ [] → Measured text n
progress_end {text} {l} {n} {s} p e =
    let P : List ℕ → Type 0 = λ x. Reads l x [] [] ended in
    record {
      items = p.items ++ [];
      exchanges = p.exchanges ++ [];
      reads = p.onward [] [] ended (subst P (sym e) over);
      size = p.size ∙ ap (λ x. length (listing x)) (sym (append-nil p.exchanges));
    }

pub progress_fails : {text : List ℕ} {l n : ℕ} {s : List ℕ} (f : ListingFault) (c : ℕ) → Progress text l s n → Stops s c → row f ≡ malformed_at l c → Refuses text f
progress_fails {text} {l} f c p h e = (l, c, p.items ++ [], p.exchanges ++ [], p.onward [] [] (failed l c) (broken h), e)

-- what a kept line takes of what is left to write
pub kept-fits : {text : List ℕ} {l m n : ℕ} {s left : List ℕ} {r : Line} → Progress text l s n → Taken l m s left r → n + length (kept_of (spots_of r)) ≤ length text
kept-fits p t = let q = progress_more p t in let h = q.room in omega arith

-- reading on after a line that was taken
pub record Rest (m : ℕ) (left : List ℕ) (xs ys : List Exchange) (e : Ending) : Type 0 where
  pub items : List Spot
  pub exchanges : List Exchange
  pub reads : Reads m left items exchanges e
  pub asked : ys ≡ xs ++ exchanges

pub rest_of : {l m : ℕ} {s left : List ℕ} {r : Line} {js : List Spot} {ys : List Exchange} {e : Ending} (t : Taken l m s left r) → Reads l s js ys e → Rest m left t.exchanges ys e
rest_of {left} t over = absurd (let n = ap length t.split in let k = length-append t.text (10 ∷ left) in omega arith)
rest_of {s} {left} t (broken {c} h) = absurd (no_stop left s c t.reads h t.split)
rest_of {l} {m} {left} t (line {w} {t = u} {js} {ys = zs} {e} a q) =
    let k = same_line left u t.reads a (sym t.split) in
    let P : List ℕ → Type 0 = λ x. Reads (l + 1) x js zs e in
    let Q : ℕ → Type 0 = λ n. Reads n left js zs e in
    record {
      items = js;
      exchanges = zs;
      reads = subst Q (sym t.next) (subst P (sym k.lefts) q);
      asked = ap (λ x. x ++ zs) (sym k.asks);
    }

-- the kept lines of a text, up to line l, written over the start of a buffer that held `was` and now holds `left`
pub record Copying (text was left : List ℕ) (l : ℕ) (rest : List ℕ) (at : ℕ) : Type 0 where
  pub all-items : List Spot
  pub all : List Exchange
  pub whole : Reads 1 text all-items all ended
  pub fits : length (listing all) ≤ length was
  pub items : List Spot
  pub exchanges : List Exchange
  pub reads : Reads l rest items exchanges ended
  pub written : List ℕ
  pub split : listing all ≡ written ++ listing exchanges
  pub place : at ≡ length written
  pub buffer : left ≡ topped written was

-- the part of what is left to write that a taken line keeps
copying_split : {text was left₀ : List ℕ} {l m at : ℕ} {s left : List ℕ} {r : Line} (p : Copying text was left₀ l s at) (t : Taken l m s left r) →
    listing p.all ≡ (p.written ++ kept_of (spots_of r)) ++ listing (rest_of t p.reads).exchanges
copying_split {r} p t =
    let q = rest_of t p.reads in
    p.split
    ∙ ap (λ x. p.written ++ x) (ap listing q.asked ∙ listing_join t.exchanges q.exchanges ∙ ap (λ x. x ++ listing q.exchanges) (line_kept t.reads))
    ∙ sym (append_assoc p.written (kept_of (spots_of r)) (listing q.exchanges))

copying_fits : {text was left₀ : List ℕ} {l m at : ℕ} {s left : List ℕ} {r : Line} → Copying text was left₀ l s at → Taken l m s left r → at + length (kept_of (spots_of r)) ≤ length was
copying_fits {r} p t =
    let q = rest_of t p.reads in
    let a = ap length (copying_split p t) in
    let b = length-append (p.written ++ kept_of (spots_of r)) (listing q.exchanges) in
    let c = length-append p.written (kept_of (spots_of r)) in
    let d = p.place in
    let e = p.fits in omega arith

pub copying_room : {text was left₀ : List ℕ} {l m at : ℕ} {s left : List ℕ} {r : Line} → Copying text was left₀ l s at → Taken l m s left r → at + length (kept_of (spots_of r)) ≤ length left₀
copying_room {was} p t =
    let n = copying_fits p t in
    let d = p.place in
    let b = ap length p.buffer in
    let a = length-append p.written (drop (length p.written) was) in
    let e = length-drop (length p.written) was in omega arith

pub copying_more : {text was left₀ left₁ : List ℕ} {l m at n : ℕ} {s left : List ℕ} {r : Line} → Copying text was left₀ l s at → Taken l m s left r →
    left₁ ≡ put at (kept_of (spots_of r)) left₀ → n ≡ at + length (kept_of (spots_of r)) → Copying text was left₁ m left n
copying_more {was} {at} {r} p t e f =
    let q = rest_of t p.reads in
    let K = kept_of (spots_of r) in
    let g = copying_fits p t in
    let a = length-append p.written K in
    let d = p.place in
    record {
      all-items = p.all-items;
      all = p.all;
      whole = p.whole;
      fits = p.fits;
      items = q.items;
      exchanges = q.exchanges;
      reads = q.reads;
      written = p.written ++ K;
      split = copying_split p t;
      place = omega arith;
      buffer = e ∙ ap (put at K) p.buffer ∙ put_next at p.written K was d (omega arith);
    }

-- at the end of the text all is written
end_asks : {l : ℕ} {s : List ℕ} {is : List Spot} {xs : List Exchange} {e : Ending} → Reads l s is xs e → s ≡ [] → e ≡ ended → listing xs ≡ []
unfolding listing
end_asks over x f = refl
end_asks (broken h) x f = absurd (h.some x)
end_asks (line {w} {t} a r) x f = absurd (let n = ap length x in let k = length-append w (10 ∷ t) in omega arith)

copying_end : {text was left : List ℕ} {l at : ℕ} {s : List ℕ} → Copying text was left l s at → s ≡ [] → Copied text was left
copying_end {text} {was} p e is xs r =
    let u = unambiguous 1 text p.all-items is p.all xs ended ended p.whole r in
    let w : p.written ≡ listing xs = sym (append-nil p.written) ∙ ap (λ x. p.written ++ x) (sym (end_asks p.reads e refl)) ∙ sym p.split ∙ ap listing u.1 in
    p.buffer ∙ ap (λ x. x ++ drop (length x) was) w

-- and the reader does not stop before it
copying_goes : {text was left : List ℕ} {l at c : ℕ} {s : List ℕ} → Copying text was left l s at → Stops s c → ⊥
copying_goes p h = stopped p.reads refl h
  where
    stopped : {l : ℕ} {s : List ℕ} {is : List Spot} {xs : List Exchange} {e : Ending} {c : ℕ} → Reads l s is xs e → e ≡ ended → Stops s c → ⊥
    stopped over f h = h.some refl
    stopped (broken {l} {c} k) f h = suc-ne-zero 0 cc
    stopped (line {w} {t} a r) f h = no_stop t (w ++ 10 ∷ t) _ a h refl

-- so when it gives no line, all is written
pub copying_over : {text was left : List ℕ} {l at : ℕ} {s : List ℕ} (m : ℕ) (rest : List ℕ) (o : Result (Option Line) ListingFault) → Copying text was left l s at → Next l m s rest o →
    ((r : Line) → o ≡ Ok (Some r) → ⊥) → Copied text was left
copying_over m rest (Ok None) p h k = copying_end p h.0
copying_over m rest (Ok (Some r)) p h k = absurd (k r refl)
copying_over m rest (Err f) p h k = absurd (copying_goes p h.1)

-- the reader's answer, taken apart
pub next_some : {l m : ℕ} {was left : List ℕ} {o : Option Line} {r : Line} → o ≡ Some r → Next l m was left (Ok o) → Taken l m was left r
next_some {l} {m} {was} {left} e h = let P : Option Line → Type 0 = λ x. Next l m was left (Ok x) in subst P e h

pub next_none : (l m : ℕ) {was : List ℕ} (left : List ℕ) {o : Option Line} → o ≡ None → Next l m was left (Ok o) → was ≡ []
next_none l m {was} left e h = let P : Option Line → Type 0 = λ x. Next l m was left (Ok x) in (subst P e h).0
