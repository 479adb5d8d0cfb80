-- A text played line by line.
use Rattle.std.proofs.Common.{◌≡◌, ℕ, List, [], ◌∷◌, ◌++◌, get_or, sym, refl, ap, ◌∙◌, subst, append_assoc}
use Rattle.std.specs.Fmt.{decimal}
use Rattle.std.proofs.lemmas.List.{append-nil}
use Rattle.memory.specs.Row.{Row}
use Rattle.memory.specs.Reports.{cause_number}
use Rattle.memory.specs.declared.report.Cause.TheVariants as cause
use Rattle.port.specs.Bench.{chip_of}
use Rattle.port.specs.Chip.{Chip}
use Rattle.port.specs.declared.bench.BenchChip.{BenchChip}
use Rattle.listing.specs.Grammar.{Stops, Ending, ended, failed, Reads, over, broken, line}
use Rattle.listing.specs.Fault.{row, malformed_at}
use Rattle.listing.specs.Parts.{Spot, spots_of, Exchange}
use Rattle.listing.specs.Promise.{Taken}
use Rattle.listing.specs.declared.fault.ListingFault.{ListingFault}
use Rattle.listing.specs.declared.fault.ListingFault.TheVariants.{Malformed}
use Rattle.listing.specs.declared.item.Line.{Line}
use Rattle.replay.specs.Replayed.{frame_line, after_frame, frame_lines, after_frames, ending_line, Replayed}

-- frames and then others
after_join : (k : ℕ) (c : Chip) (xs ys : List Exchange) → after_frames k c (xs ++ ys) ≡ after_frames k (after_frames k c xs) ys
unfolding after_frames
after_join k c [] ys = refl
after_join k c (x ∷ xs) ys = after_join k (after_frame k c x) xs ys

lines_join : (k : ℕ) (c : Chip) (xs ys : List Exchange) → frame_lines k c (xs ++ ys) ≡ frame_lines k c xs ++ frame_lines k (after_frames k c xs) ys
unfolding after_frames frame_lines
lines_join k c [] ys = refl
lines_join k c (x ∷ xs) ys =
    ap (λ w. frame_line c x ++ w) (lines_join k (after_frame k c x) xs ys)
    ∙ sym (append_assoc (frame_line c x) (frame_lines k (after_frame k c x) xs) (frame_lines k (after_frames k (after_frame k c x) xs) ys))

-- a line that asks for nothing
pub chip_unplayed : (k : ℕ) (c : Chip) (xs : List Exchange) → xs ≡ [] → c ≡ after_frames k c xs
unfolding after_frames
chip_unplayed k c xs e = sym (ap (after_frames k c) e)

pub lines_unplayed : (k : ℕ) (c : Chip) (w : List ℕ) (xs : List Exchange) → xs ≡ [] → w ≡ w ++ frame_lines k c xs
unfolding frame_lines
lines_unplayed k c w xs e = sym (ap (λ x. w ++ frame_lines k c x) e ∙ append-nil w)

-- a line that asks for one exchange
pub chip_framed : (k : ℕ) (c d : Chip) (x : Exchange) (xs : List Exchange) → d ≡ after_frame k c x → xs ≡ x ∷ [] → d ≡ after_frames k c xs
unfolding after_frames
chip_framed k c d x xs h e = h ∙ sym (ap (after_frames k c) e)

pub lines_framed : (k : ℕ) (c : Chip) (u w : List ℕ) (x : Exchange) (xs : List Exchange) → u ≡ w ++ frame_line c x → xs ≡ x ∷ [] → u ≡ w ++ frame_lines k c xs
unfolding frame_lines
lines_framed k c u w x xs h e = h ∙ sym (ap (λ y. w ++ frame_lines k c y) e ∙ ap (λ y. w ++ y) (append-nil (frame_line c x)))

-- the text was played up to line l, and `rest` is left; `printed` stands where `before` stood
pub record Sofar (text : List ℕ) (was now : BenchChip) (before printed : List ℕ) (l : ℕ) (rest : List ℕ) : Type 0 where
  pub items : List Spot
  pub exchanges : List Exchange
  -- however the rest reads, the text reads as what was read and then the rest
  pub onward : (js : List Spot) (ys : List Exchange) (e : Ending) → Reads l rest js ys e → Reads 1 text (items ++ js) (exchanges ++ ys) e
  pub chip : chip_of now ≡ after_frames was.busy_number (chip_of was) exchanges
  pub number : now.busy_number ≡ was.busy_number
  pub lines : printed ≡ before ++ frame_lines was.busy_number (chip_of was) exchanges

pub sofar_start : (text rest : List ℕ) (b : BenchChip) (w : List ℕ) (l : ℕ) → rest ≡ text → l ≡ 1 → Sofar text b b w w l rest
sofar_start text rest b w l e f =
    record {
      items = [];
      exchanges = [];
      onward = λ js ys d r.
          let Q : ℕ → Type 0 = λ n. Reads n text js ys d in
          let R : List ℕ → Type 0 = λ s. Reads l s js ys d in subst Q f (subst R e r);
      chip = chip_unplayed b.busy_number (chip_of b) [] refl;
      number = refl;
      lines = lines_unplayed b.busy_number (chip_of b) w [] refl;
    }

-- the line taken, before what is left
taken_line : {l m : ℕ} {s left : List ℕ} {r : Line} {js : List Spot} {ys : List Exchange} {e : Ending} (t : Taken l m s left r) → Reads m left js ys e → Reads l s (spots_of r ++ js) (t.exchanges ++ ys) e
taken_line {l} {m} {s} {left} {r} {js} {ys} {e} t d =
    let P : ℕ → Type 0 = λ n. Reads n left js ys e in
    let Q : List ℕ → Type 0 = λ x. Reads l x (spots_of r ++ js) (t.exchanges ++ ys) e in
    subst Q (sym t.split) (line t.reads (subst P t.next d))

-- and a line more
pub sofar_more : {text before printed rest left : List ℕ} {was now : BenchChip} {l m : ℕ} {r : Line} (next : BenchChip) (more : List ℕ) → Sofar text was now before printed l rest → (t : Taken l m rest left r)
    → next.busy_number ≡ now.busy_number
    → chip_of next ≡ after_frames now.busy_number (chip_of now) t.exchanges
    → more ≡ printed ++ frame_lines now.busy_number (chip_of now) t.exchanges
    → Sofar text was next before more m left
sofar_more {text} {before} {printed} {was} {now} {r} next more p t n e f =
    let k = was.busy_number in
    let c = chip_of was in
    let xs = t.exchanges in
    record {
      items = p.items ++ spots_of r;
      exchanges = p.exchanges ++ xs;
      onward = λ js ys d q.
          let P : List Spot → Type 0 = λ x. Reads 1 text x ((p.exchanges ++ xs) ++ ys) d in
          let Q : List Exchange → Type 0 = λ x. Reads 1 text (p.items ++ (spots_of r ++ js)) x d in
          subst P (sym (append_assoc p.items (spots_of r) js))
          (subst Q (sym (append_assoc p.exchanges xs ys))
          (p.onward (spots_of r ++ js) (xs ++ ys) d (taken_line t q)));
      chip = e ∙ ap (λ x. after_frames x (chip_of now) xs) p.number ∙ ap (λ x. after_frames k x xs) p.chip ∙ sym (after_join k c p.exchanges xs);
      number = n ∙ p.number;
      lines =
          f
          ∙ ap (λ x. printed ++ frame_lines x (chip_of now) xs) p.number
          ∙ ap (λ x. printed ++ frame_lines k x xs) p.chip
          ∙ ap (λ x. x ++ frame_lines k (after_frames k c p.exchanges) xs) p.lines
          ∙ append_assoc before (frame_lines k c p.exchanges) (frame_lines k (after_frames k c p.exchanges) xs)
          ∙ ap (λ x. before ++ x) (sym (lines_join k c p.exchanges xs));
    }

-- the reading ends, and its line is printed
ended_with : {text before printed rest : List ℕ} {was now : BenchChip} {l : ℕ} (e : Ending) (more : List ℕ) → Sofar text was now before printed l rest → Reads l rest [] [] e → more ≡ printed ++ ending_line e → Replayed text was now before more
ended_with {text} {before} {printed} {rest} {was} {now} {l} e more p r f =
    let P : List Spot → Type 0 = λ x. Reads 1 text x (p.exchanges ++ []) e in
    let Q : List Exchange → Type 0 = λ x. Reads 1 text p.items x e in
    let w = frame_lines was.busy_number (chip_of was) p.exchanges in
    record {
      items = p.items;
      exchanges = p.exchanges;
      ending = e;
      reads = subst Q (append-nil p.exchanges) (subst P (append-nil p.items) (p.onward [] [] e r));
      chip = p.chip;
      number = p.number;
      lines = f ∙ ap (λ x. x ++ ending_line e) p.lines ∙ append_assoc before w (ending_line e);
    }

pub sofar_end : {text before printed rest : List ℕ} {was now : BenchChip} {l : ℕ} → Sofar text was now before printed l rest → rest ≡ [] → Replayed text was now before printed
sofar_end {printed} {rest} {l} p e =
    let P : List ℕ → Type 0 = λ x. Reads l x [] [] ended in ended_with ended printed p (subst P (sym e) over) (sym (append-nil printed))

pub sofar_fails : {text before printed rest : List ℕ} {was now : BenchChip} {l : ℕ} (c : ℕ) (more : List ℕ) → Sofar text was now before printed l rest → Stops rest c → more ≡ printed ++ ending_line (failed l c) → Replayed text was now before more
sofar_fails {l} c more p h f = ended_with (failed l c) more p (broken h) f

-- the line of a place, with the number that its report has
abbrev place_line : ℕ → ℕ → ℕ → List ℕ
place_line n l c = 69 ∷ (decimal n ++ 32 ∷ (decimal l ++ 32 ∷ (decimal c ++ 10 ∷ [])))

pub place_told : (f : ListingFault) (n a b p q l c : ℕ) → f ≡ Malformed a b → p ≡ a → q ≡ b → row f ≡ malformed_at l c → n ≡ cause_number cause.Malformed → place_line n p q ≡ ending_line (failed l c)
place_told f n a b p q l c e i j g h =
    let same : malformed_at a b ≡ malformed_at l c = sym (ap row e) ∙ g in
    let on_line : p ≡ l = i ∙ ap (λ (r : Row). get_or r.values 0 0) same in
    let at_column : q ≡ c = j ∙ ap (λ (r : Row). get_or r.values 1 0) same in
    ap (λ x. place_line x p q) h ∙ ap (λ x. place_line (cause_number cause.Malformed) x q) on_line ∙ ap (place_line (cause_number cause.Malformed) l) at_column
