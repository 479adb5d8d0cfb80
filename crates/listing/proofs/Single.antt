-- A text reads in one way.
use Rattle.std.proofs.Common.{◌≡◌, ℕ, ◌+◌, ◌-◌, List, [], ◌∷◌, ◌++◌, length, take, drop, Some, None, Option, sym, refl, ap, ◌∙◌, subst, arith, length-append}
use Rattle.std.proofs.Math.Nat.{suc-ne-zero}
use Rattle.std.proofs.lemmas.List.{append-nil, take_at, drop_at}
use Rattle.listing.specs.Parts.{Part, note, frame, count, Spot, Exchange, exchange}
use Rattle.listing.specs.Grammar.{LineText, noted, framed, counted, Stops, Ending, ended, failed, Reads, over, broken, line, Unambiguous}
use Rattle.listing.specs.Scan.{pair_of, scan, size_of, spots_by}
use Rattle.listing.specs.Values.{values, good}
use Rattle.listing.proofs.Digits.{pair_read}
use Rattle.listing.proofs.Spelling.{values-read}
use Rattle.listing.proofs.Complete.{stops_read, line_read}

-- what the items of a line ask for
abbrev value_or : Option ℕ → ℕ
value_or None = 0
value_or (Some v) = v

abbrev back_of : Part → ℕ
back_of (note s) = 0
back_of (frame s) = 0
back_of (count s) = value_or (pair_of s)

abbrev backs : List Spot → ℕ
backs [] = 0
backs (i ∷ is) = back_of i.part

abbrev asked_by : Part → List Spot → List Exchange
asked_by (note s) is = []
asked_by (frame s) is = exchange (good (values 0 s)) (backs is) ∷ []
asked_by (count s) is = []

abbrev asked : List Spot → List Exchange
asked [] = []
asked (i ∷ is) = asked_by i.part is

line-asks : {l : ℕ} {w : List ℕ} {is : List Spot} {xs : List Exchange} → LineText l w is xs → xs ≡ asked is
line-asks (noted u) = refl
line-asks (framed {w} {bs} ps) = ap (λ r. exchange (good r) 0 ∷ []) (sym (values-read 0 ps))
line-asks (counted {w} {bs} {v} {n} ps p z) =
    ap (λ r. exchange (good r) n ∷ []) (sym (values-read 0 ps))
    ∙ ap (λ o. exchange (good (values 0 w)) (value_or o) ∷ []) (sym (pair_read p []) ∙ ap pair_of (append-nil v))

-- two lines at the start of one text are one line
pub record Same (l : ℕ) (w v s t : List ℕ) (is js : List Spot) (xs ys : List Exchange) : Type 0 where
  pub words : w ≡ v
  pub lefts : s ≡ t
  pub spots : is ≡ js
  pub asks : xs ≡ ys

pub same_line : {l : ℕ} {w v : List ℕ} {is js : List Spot} {xs ys : List Exchange} (s t : List ℕ) →
    LineText l w is xs → LineText l v js ys → w ++ 10 ∷ s ≡ v ++ 10 ∷ t → Same l w v s t is js xs ys
same_line {l} {w} {v} {is} {js} {xs} {ys} s t a b e =
    let p = line_read s a in
    let q = line_read t b in
    let f : p.extent ≡ q.extent = let g = p.scanned in let h = q.scanned in let k = ap scan e in cc in
    let n : length w ≡ length v = sym p.size ∙ ap size_of f ∙ q.size in
    let i : is ≡ js = sym p.spots ∙ ap (λ y. spots_by l y p.extent) e ∙ ap (spots_by l (v ++ 10 ∷ t)) f ∙ q.spots in
    let wv : w ≡ v = sym (take_at w (10 ∷ s) (length v) n) ∙ ap (take (length v)) e ∙ take_at v (10 ∷ t) (length v) refl in
    let st : 10 ∷ s ≡ 10 ∷ t = sym (drop_at w (10 ∷ s) (length v) n) ∙ ap (drop (length v)) e ∙ drop_at v (10 ∷ t) (length v) refl in
    record { words = wv; lefts = ap (drop 1) st; spots = i; asks = line-asks a ∙ ap asked i ∙ sym (line-asks b) }

-- a text that begins with a line does not stop in it
pub no_stop : {l : ℕ} {w : List ℕ} {is : List Spot} {xs : List Exchange} (t s : List ℕ) (c : ℕ) → LineText l w is xs → Stops s c → s ≡ w ++ 10 ∷ t → ⊥
no_stop t s c a h e =
    let p = line_read t a in
    let g = p.scanned in
    let k = ap scan e in
    let m = stops_read s c h in
    suc-ne-zero 0 cc

not_empty : (w t : List ℕ) → [] ≡ w ++ 10 ∷ t → ⊥
not_empty w t e = let n = ap length e in let k = length-append w (10 ∷ t) in omega arith

abbrev Agree : List Spot → List Spot → List Exchange → List Exchange → Ending → Ending → Type 0
Agree is js xs ys d e = (is ≡ js) × (xs ≡ ys) × (d ≡ e)

after-over : {l : ℕ} {t : List ℕ} {js : List Spot} {ys : List Exchange} {e : Ending} → [] ≡ t → Reads l t js ys e → Agree [] js [] ys ended e
after-over x over = (refl, refl, refl)
after-over x (broken h) = absurd (h.some (sym x))
after-over x (line {w} {t} a r) = absurd (not_empty w t x)

after-broken : {l : ℕ} {t : List ℕ} {js : List Spot} {ys : List Exchange} {e : Ending} (s : List ℕ) (c : ℕ) → Stops s c → s ≡ t → Reads l t js ys e → Agree [] js [] ys (failed l c) e
after-broken s c h x over = absurd (h.some x)
after-broken {l} {t} s c h x (broken {c = d} k) =
    let m = stops_read s c h in
    let n = stops_read t d k in
    let y = ap scan x in
    let q : c - 1 ≡ d - 1 = cc in
    let r : c ≡ d = let a = h.column in let b = k.column in omega arith in
    (refl, refl, ap (failed l) r)
after-broken s c h x (line {t} a r) = absurd (no_stop t s c a h x)

abbrev Only : ℕ → List ℕ → List Spot → List Exchange → Ending → Type 0
Only l t is xs d = (ks : List Spot) (zs : List Exchange) (e : Ending) → Reads l t ks zs e → Agree is ks xs zs d e

after_line : {l : ℕ} {u : List ℕ} {ks : List Spot} {zs : List Exchange} {e : Ending} (w t : List ℕ) (is js : List Spot) (xs ys : List Exchange) (d : Ending) →
    LineText l w is xs → Only (l + 1) t js ys d → w ++ 10 ∷ t ≡ u → Reads l u ks zs e → Agree (is ++ js) ks (xs ++ ys) zs d e
after_line w t is js xs ys d a only x over = absurd (not_empty w t (sym x))
after_line w t is js xs ys d a only x (broken {t = s} {c} h) = absurd (no_stop t s c a h (sym x))
after_line {l} w t is js xs ys d a only x (line {w = v} {t = s} {is = is'} {js = js'} {xs = xs'} {ys = ys'} {e} b r) =
    let m = same_line t s a b x in
    let P : List ℕ → Type 0 = λ y. Reads (l + 1) y js' ys' e in
    let q = only js' ys' e (subst P (sym m.lefts) r) in (
      ap (λ y. y ++ js) m.spots ∙ ap (λ y. is' ++ y) q.0,
      ap (λ y. y ++ ys) m.asks ∙ ap (λ y. xs' ++ y) q.1,
      q.2,
    )

only_one : {l : ℕ} {t : List ℕ} {is : List Spot} {xs : List Exchange} {d : Ending} → Reads l t is xs d → Only l t is xs d
only_one over = λ ks zs e r. after-over refl r
only_one (broken {t = s} {c} h) = λ ks zs e r. after-broken s c h refl r
only_one (line {w} {t} {is} {js} {xs} {ys} {e = d} a r) =
    let o = only_one r in λ ks zs e k. after_line w t is js xs ys d a o refl k

pub unambiguous : Unambiguous
unambiguous l t is js xs ys d e p q = only_one p js ys e q
