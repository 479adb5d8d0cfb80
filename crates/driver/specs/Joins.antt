-- What a driver sees is a part that can be, and frames joined. These are lemmas; they stand here since the laws `sound`,
-- `stays` and `joins` of a driver as a part are proved in src/, and src/ cites of its own crate the specs alone.
use Rattle.std.specs.Prelude.{◌≡◌, ℕ, ◌+◌, List, [], ◌∷◌, ◌++◌, length, refl}
use Rattle.std.proofs.Common.{sym, ap, subst, ◌∙◌, arith}
use Rattle.std.proofs.lemmas.List.{append_assoc}
use Rattle.memory.specs.Cycle.{Cycle}
use Rattle.memory.specs.Shape.{size}
use Rattle.port.specs.Chip as of_chip
use Rattle.port.specs.Chip.{Chip}
use Rattle.port.specs.Machine.{Frame, hears, after}
use Rattle.part.specs.declared.outline.Outline.{Outline}
use Rattle.part.specs.Meaning as of_part
use Rattle.part.specs.Meaning.{Event, Sound, asked, carried, polled}
use Rattle.part.specs.Outline.{outlined}
use Rattle.part.specs.PlainLemmas.{length-guards, played-++}
use Rattle.part.proofs.Events.{cycles-++, polls-++}
use Rattle.driver.specs.Carries.{Carries, Harmless, none, step, status_reads, carried_out}
use Rattle.driver.specs.Driving.{Drives, Intact, Quiet, seen}

-- what is remembered is true of the chip's length too
pub chip_long : (o : Outline) (c : Chip) → of_chip.Sound c → Intact o c → length c.image ≡ size (outlined o)
chip_long o c s i = s.imaged.whole ∙ ap size i.shape

pub seen-sound : (o : Outline) (c : Chip) → of_chip.Sound c → Intact o c → Sound (seen o c)
seen-sound o c s i = record {
  some = o.geometry.some;
  few = o.geometry.few;
  paged = o.geometry.paged;
  low = o.geometry.low;
  page = refl;
  each = length-guards o.status.bits o.geometry.sectors;
  imaged = record { whole = chip_long o c s i; bytes = s.imaged.bytes };
}

longer : (a c : Chip) (f : Frame) (fs : List Frame) (ys zs : List Cycle) (k : ℕ) → Carries (after k a f) fs c (ys ++ zs)
    → Carries a (f ∷ fs) c ((carried_out a (hears a f) ++ ys) ++ zs)
longer a c f fs ys zs k p =
    let P : List Cycle → Type 0 = λ x. Carries a (f ∷ fs) c x in subst P (sym (append_assoc (carried_out a (hears a f)) ys zs)) (step k p)

pub carries-++ : {a b c : Chip} {l m : List Frame} {ys zs : List Cycle} → Carries a l b ys → Carries b m c zs → Carries a (l ++ m) c (ys ++ zs)
carries-++ none q = q
carries-++ {a} {b} {c} {l} {m} {ys} {zs} (step {f} {fs} {ys = rest} k p) q = longer a c f (fs ++ m) rest zs k (carries-++ p q)

pub status-++ : (l m : List Frame) → status_reads (l ++ m) ≡ status_reads l + status_reads m
status-++ [] m = omega arith
status-++ (f ∷ l) m = let e = status-++ l m in omega arith

harmless-++ : (c : Chip) (fs gs : List Frame) → Harmless c fs → Harmless c gs → Harmless c (fs ++ gs)
harmless-++ c [] gs p q = q
harmless-++ c (f ∷ fs) gs p q = (p.0, harmless-++ c fs gs p.1 q)

quiet_parts : (l m : List Event) → Quiet (l ++ m) → Quiet l × Quiet m
quiet_parts [] m q = (tt, q)
quiet_parts (asked n ∷ l) m q = quiet_parts l m q
quiet_parts (carried y ∷ l) m q = absurd q
quiet_parts (polled ∷ l) m q = absurd q

both_harmless : (a b c : Chip) (fs gs : List Frame) → (b ≡ a) × Harmless a fs → (c ≡ b) × Harmless b gs → (c ≡ a) × Harmless a (fs ++ gs)
both_harmless a b c fs gs p q =
    let P : Chip → Type 0 = λ x. Harmless x gs in (q.0 ∙ p.0, harmless-++ a fs gs p.1 (subst P p.0 q.1))

-- nothing was done
pub drives_none : (o : Outline) (c : Chip) → Drives o c [] o c []
drives_none o c = record { polls = refl; shape = refl; status = refl; carries = none; harmless = λ _. (refl, tt); tells = of_part.none }

pub drives-++ : (o p q : Outline) (a b c : Chip) (fs gs : List Frame) (l m : List Event) → Drives o a fs p b l → Drives p b gs q c m → Drives o a (fs ++ gs) q c (l ++ m)
drives-++ o p q a b c fs gs l m x y =
    let s = status-++ fs gs in
    let n = polls-++ l m in
    let u = x.polls in
    let v = y.polls in
    let P : List Cycle → Type 0 = λ z. Carries a (fs ++ gs) c z in
    record {
      polls = omega arith;
      shape = y.shape ∙ x.shape;
      status = y.status ∙ x.status;
      carries = subst P (sym (cycles-++ l m)) (carries-++ x.carries y.carries);
      harmless = λ n. let q = quiet_parts l m n in both_harmless a b c fs gs (x.harmless q.0) (y.harmless q.1);
      tells = played-++ x.tells y.tells;
    }
