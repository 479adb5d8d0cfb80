-- What a line asks for, and the bytes of its frame in the room.
use Rattle.std.proofs.Common.{◌≡◌, ℕ, ◌+◌, ◌*◌, ◌≤◌, Bool, true, false, cond, List, [], ◌∷◌, length, take, drop, Ok, Err, nat_le, unwrap_or, refl, sym, ap, ◌∙◌, subst, arith, length-append}
use Rattle.std.specs.Borrow.{Bor}
use Rattle.std.proofs.lemmas.Bool.{le-leb, cond-true}
use Rattle.std.proofs.lemmas.List.{append-nil, take_at}
use Rattle.listing.specs.Grammar.{LineText, noted, framed, counted}
use Rattle.listing.specs.Hex.{Pair, Pairs, one, more}
use Rattle.listing.specs.Parts.{Part, note, frame, count, Spot, part_of, count_of, spots_of, Exchange, exchange}
use Rattle.listing.specs.Promise.{Taken}
use Rattle.listing.specs.Scan.{pair_of}
use Rattle.listing.specs.Values.{values, fitted, read_answer, read_into, Spelled}
use Rattle.listing.specs.declared.fault.ListingFault.{ListingFault}
use Rattle.listing.specs.declared.item.Item.{Item}
use Rattle.listing.specs.declared.item.Item.TheVariants.{Note, Frame, Count}
use Rattle.listing.specs.declared.item.Line.{Line}
use Rattle.listing.proofs.Digits.{pair_read, pair_size}
use Rattle.replay.specs.Playable.{Playable, wanted_by}

pairs_size : {w bs : List ℕ} → Pairs w bs → length w + 1 ≡ 3 * length bs
pairs_size (one p) = let n = pair_size p in omega arith
pairs_size (more {w} {s} p ps) =
    let n = pair_size p in
    let m = pairs_size ps in
    let a = length-append w (32 ∷ s) in omega arith

count_read : {v : List ℕ} {n : ℕ} → Pair v n → n ≡ unwrap_or (pair_of v) 0
count_read {v} p = ap (λ o. unwrap_or o 0) (sym (ap pair_of (sym (append-nil v)) ∙ pair_read p []))

-- the pairs of a line's frame, and what they ask for with the items after them
record Framed (w text : List ℕ) (is : List Spot) (xs : List Exchange) : Type 0 where
  pub bytes : List ℕ
  pub pairs : Pairs w bytes
  pub within : length w ≤ length text
  pub asks : xs ≡ exchange bytes (wanted_by is) ∷ []

abbrev Firstly : Part → List ℕ → List Spot → List Exchange → Type 0
Firstly (note w) text is xs = xs ≡ []
Firstly (frame w) text is xs = Framed w text is xs
Firstly (count w) text is xs = ⊥

abbrev First : List Spot → List ℕ → List Exchange → Type 0
First [] text xs = ⊥
First (i ∷ is) text xs = Firstly i.part text is xs

first : {l : ℕ} {text : List ℕ} {is : List Spot} {xs : List Exchange} → LineText l text is xs → First is text xs
first (noted u) = refl
first (framed {w} {bs} ps) = record { bytes = bs; pairs = ps; within = omega arith; asks = refl }
first (counted {w} {bs} {v} ps p z) = record {
  bytes = bs;
  pairs = ps;
  within = let a = length-append w (32 ∷ 62 ∷ 32 ∷ v) in omega arith;
  asks = ap (λ n. exchange bs n ∷ []) (count_read p);
}

-- a line that holds a frame
framed_line : {l : ℕ} {text : List ℕ} {xs : List Exchange} (line : Line) (p : Bor (List ℕ)) → line.first.item ≡ Frame p → LineText l text (spots_of line) xs → Framed p.now text (count_of line.count) xs
framed_line {l} {text} {xs} line p e r =
    let P : Item → Type 0 = λ i. Firstly (part_of i) text (count_of line.count) xs in subst P e (first r)

no_frame : (i : Item) (text : List ℕ) (is : List Spot) (xs : List Exchange) → ((p : Bor (List ℕ)) → i ≡ Frame p → ⊥) → Firstly (part_of i) text is xs → xs ≡ []
no_frame (Note s) text is xs n f = f
no_frame (Frame s) text is xs n f = absurd (n s refl)
no_frame (Count s) text is xs n f = absurd f

-- and one that holds none asks for nothing
pub frameless_line : {l : ℕ} {text : List ℕ} {xs : List Exchange} (line : Line) → ((p : Bor (List ℕ)) → line.first.item ≡ Frame p → ⊥) → LineText l text (spots_of line) xs → xs ≡ []
frameless_line {l} {text} {xs} line n r = no_frame line.first.item text (count_of line.count) xs n (first r)

-- the pairs are read into the room
pub read_whole : {line : Line} {n : ℕ} (p : Bor (List ℕ)) → Playable line n → line.first.item ≡ Frame p → Spelled p.now → ((m : ℕ) × read_answer (values 0 p.now) n ≡ Ok m)
read_whole {line} {n} p h e s =
    let f = framed_line line p e h.reads in
    let k = pairs_size f.pairs in
    let w = f.within in
    let r = h.room in
    let l : length f.bytes ≤ n = omega arith in
    (length f.bytes, ap (λ x. read_answer x n) (s.0 f.bytes f.pairs) ∙ cond-true _ _ _ (le-leb _ _ l))

fits_then : (b : Bool) (m n : ℕ) (f : ListingFault) → cond b (Ok m) (Err f) ≡ Ok n → (b ≡ true) × (m ≡ n)
fits_then true m n f e = (refl, cc)
fits_then false m n f e = absurd (let z : ◌≡◌ {A = ℕ} 0 1 = cc in omega arith)

-- and are there
room_holds : (w was bs : List ℕ) (n : ℕ) → Pairs w bs → Spelled w → read_answer (values 0 w) (length was) ≡ Ok n → take n (read_into (values 0 w) was) ≡ bs
room_holds w was bs n ps s e =
    let v : values 0 w ≡ Ok bs = s.0 bs ps in
    let k : fitted bs (length was) ≡ Ok n = sym (ap (λ x. read_answer x (length was)) v) ∙ e in
    let f = fits_then (nat_le (length bs) (length was)) (length bs) n _ k in
    ap (λ x. take n (read_into x was)) v
    ∙ ap (take n) (cond-true _ _ _ f.0)
    ∙ take_at bs (drop (length bs) was) n f.1

-- so the line asks for what was read, with as many bytes back as its count says
pub asks_read : {l : ℕ} {text : List ℕ} {xs : List Exchange} (line : Line) (p : Bor (List ℕ)) (was now : List ℕ) (n m : ℕ) → line.first.item ≡ Frame p → Spelled p.now
    → Ok n ≡ read_answer (values 0 p.now) (length was)
    → now ≡ read_into (values 0 p.now) was
    → m ≡ wanted_by (count_of line.count)
    → LineText l text (spots_of line) xs → xs ≡ exchange (take n now) m ∷ []
asks_read line p was now n m e s a b k r =
    let f = framed_line line p e r in
    let h : take n now ≡ f.bytes = ap (take n) b ∙ room_holds p.now was f.bytes n f.pairs s (sym a) in
    f.asks ∙ ap (λ x. exchange x (wanted_by (count_of line.count)) ∷ []) (sym h) ∙ ap (λ x. exchange (take n now) x ∷ []) (sym k)

-- a line that the reader gives, of a text that the room holds
pub given_playable : {l m : ℕ} {was left : List ℕ} {line : Line} {n : ℕ} → Taken l m was left line → length was ≤ 3 * n → Playable line n
given_playable {l} {m} {was} {left} {line} {n} t h =
    let e = ap length t.split in
    let a = length-append t.text (10 ∷ left) in
    record { number = l; text = t.text; exchanges = t.exchanges; reads = t.reads; room = omega arith }
