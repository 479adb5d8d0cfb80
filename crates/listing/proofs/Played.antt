-- The frames of cycles, played on a chip that accepts them.
use Rattle.std.proofs.Common.{◌≡◌, ℕ, zero, suc, ◌-◌, ◌*◌, ◌<◌, ◌≤◌, Bool, true, not, ◌&&◌, ltb, List, [], ◌∷◌, ◌++◌, length, is_some, Some, None, Option, sym, refl, ap, ◌∙◌, subst, ap₂, arith}
use Rattle.std.proofs.Math.Nat.{suc-ne-zero}
use Rattle.std.proofs.lemmas.Bool.{cond-true, eq-eqb, and_parts, and_from, ltb-true, lt-ltb, false≢true}
use Rattle.memory.specs.Shape.{size, sector_at}
use Rattle.memory.specs.Protection.{protects}
use Rattle.memory.specs.Cycle.{Cycle, program, alter, preset, sector_erase, bulk_erase, Goes, accepts, effect}
use Rattle.memory.specs.Image.{reaches}
use Rattle.memory.specs.Models.{models, lookup}
use Rattle.memory.proofs.Free.{free-protects}
use Rattle.memory.proofs.Models.{page-bytes, known_ranged, known_real}
use Rattle.memory.proofs.Pages.{Real}
use Rattle.memory.proofs.Cycles.{length-effect, fits_page_facts}
use Rattle.memory.proofs.Sizes.{product_most}
use Rattle.port.specs.declared.instruction.Operation.TheVariants.{Program, Alter, Preset, SectorErase}
use Rattle.port.specs.Instructions.{table}
use Rattle.port.specs.Build.{built, listed, status_frame}
use Rattle.port.specs.Chip.{Chip, shape}
use Rattle.port.specs.Asks.{Ask, enable, cycle, heard, ordered}
use Rattle.port.specs.Machine.{hears, act, after, done, latched, waited, takes}
use Rattle.port.specs.Laws.{starts, carried_by}
use Rattle.port.proofs.Building.{understood}
use Rattle.port.proofs.Hearing.{enable-heard, status-heard}
use Rattle.port.proofs.Lawful.{cycled}
use Rattle.listing.specs.Parts.{Exchange}
use Rattle.listing.specs.PlanFrames.{enabling, sending, plan_frames}
use Rattle.listing.specs.Playing.{frame_of, once, Plays, ends, sends, polls, HasEffect}

-- a chip whose image has the length that its capacity byte says
record Formed (c : Chip) : Type 0 where
  known : is_some (lookup models c.capacity) ≡ true
  whole : length c.image ≡ size (shape c)
  byte : c.status < 256

abbrev prot : Chip → ℕ → Bool
prot c = protects c.status (shape c).sectors

module _ (c : Chip) (F : Formed c) where
  ranged : (0 < (shape c).sectors) × ((shape c).sectors ≤ 128) × (0 < (shape c).pages) × ((shape c).pages ≤ 2048)
  ranged = known_ranged c.capacity F.known

  real : Real (shape c)
  real = known_real c.capacity F.known

  -- three bytes of address are enough
  reached : (a : ℕ) → ltb a (size (shape c)) ≡ true → (a < 16777216) × (ltb a (length c.image) ≡ true)
  reached a e =
      let h = ltb-true _ _ e in
      let w = F.whole in
      let m = product_most (shape c).sectors (shape c).pages ranged.1 ranged.3 in
      let z : size (shape c) ≡ (shape c).sectors * (shape c).pages * 64 = ap (λ n. (shape c).sectors * (shape c).pages * n) (page-bytes c.capacity) in
      (omega arith, lt-ltb _ _ (omega arith))

  -- what an accepted address says
  open_at : (a : ℕ) → (ltb a (size (shape c)) && not (prot c (sector_at (shape c) a))) ≡ true → (a < 16777216) × (ltb a (length c.image) ≡ true) × (not (prot c (sector_at (shape c) a)) ≡ true)
  open_at a e = let p = and_parts _ _ e in let r = reached a p.0 in (r.0, r.1, p.1)

  -- the frame of an accepted cycle asks for it
  asks : (y : Cycle) → accepts (shape c) (prot c) y c.image ≡ true → ordered (sending y).sent 0 ≡ cycle y
  unfolding table listed built
  asks (program a sent) t = let p = and_parts _ _ t in understood Program a 0 sent (open_at a p.0).0 (λ _. (fits_page_facts (shape c) sent p.1).0)
  asks (alter a sent) t = let p = and_parts _ _ t in understood Alter a 0 sent (open_at a p.0).0 (λ _. (fits_page_facts (shape c) sent p.1).0)
  asks (preset a sent) t = let p = and_parts _ _ (and_parts _ _ t).0 in understood Preset a 0 sent (open_at a p.0).0 (λ _. (fits_page_facts (shape c) sent p.1).0)
  asks (sector_erase a) t = understood SectorErase a 0 [] (open_at a t).0 (λ e. absurd (false≢true e))
  asks bulk_erase t = refl

  -- its address lies on the chip
  arrives : (y : Cycle) → accepts (shape c) (prot c) y c.image ≡ true → reaches (length c.image) y ≡ true
  arrives (program a sent) t = (open_at a (and_parts _ _ t).0).1
  arrives (alter a sent) t = (open_at a (and_parts _ _ t).0).1
  arrives (preset a sent) t = (open_at a (and_parts _ _ (and_parts _ _ t).0).0).1
  arrives (sector_erase a) t = (open_at a t).1
  arrives bulk_erase t = refl

  -- and with the latch set the chip takes it
  taken : c.latch ≡ true → (y : Cycle) → accepts (shape c) (prot c) y c.image ≡ true → takes c y ≡ true
  taken l (program a sent) t = and_from _ _ l (open_at a (and_parts _ _ t).0).2
  taken l (alter a sent) t = and_from _ _ l (open_at a (and_parts _ _ t).0).2
  taken l (preset a sent) t = let p = and_parts _ _ t in and_from _ _ (and_from _ _ l (open_at a (and_parts _ _ p.0).0).2) p.1
  taken l (sector_erase a) t = and_from _ _ l (open_at a t).2
  taken l bulk_erase t = and_from _ _ l (sym (free-protects c.status (shape c).sectors F.byte ranged.0) ∙ t)

  module _ (y : Cycle) (latch : c.latch ≡ true) (idle : c.busy ≡ 0) (t : accepts (shape c) (prot c) y c.image ≡ true) where
    cycle-heard : hears c (frame_of (sending y)) ≡ cycle y
    cycle-heard = ap (heard c.busy (length c.image)) (no_back y ∙ asks y t) ∙ cond-true _ _ _ (eq-eqb _ _ idle) ∙ cond-true _ _ _ (arrives y t)
      where
        no_back : (y : Cycle) → ordered (sending y).sent (sending y).back ≡ ordered (sending y).sent 0
        no_back (program a sent) = refl
        no_back (alter a sent) = refl
        no_back (preset a sent) = refl
        no_back (sector_erase a) = refl
        no_back bulk_erase = refl

    carries : carried_by c (frame_of (sending y)) ≡ Some y
    carries = ap (starts c) cycle-heard ∙ cond-true _ _ _ (taken latch y t)

    cycle-done : (k : ℕ) → after k c (frame_of (sending y)) ≡ done k c (effect (shape c) y c.image)
    cycle-done k = cycled k c (frame_of (sending y)) y carries

-- between two frames of a cycle it is pending
abbrev rest : Option Cycle → List Cycle → List Exchange
rest None ys = plan_frames ys
rest (Some y) ys = sending y ∷ plan_frames ys

abbrev owed : Option Cycle → List Cycle → List Cycle
owed None ys = ys
owed (Some y) ys = y ∷ ys

abbrev Latched : Option Cycle → Chip → Type 0
Latched None c = Unit {0}
Latched (Some y) c = c.latch ≡ true

-- a chip on which the cycles that are left lead to the image
record Leading (o : Option Cycle) (ys : List Cycle) (to : List ℕ) (c : Chip) : Type 0 where
  formed : Formed c
  set : Latched o c
  goes : Goes (shape c) (prot c) c.image (owed o ys) to

-- a status read leaves it so
still-set : (o : Option Cycle) (c : Chip) → Latched o c → Latched o (waited c)
still-set None c l = tt
still-set (Some y) c l = l

leads-waited : (o : Option Cycle) (ys : List Cycle) (to : List ℕ) (c : Chip) → Leading o ys to c → Leading o ys to (waited c)
leads-waited o ys to c L =
    record { formed = record { known = L.formed.known; whole = L.formed.whole; byte = L.formed.byte }; set = still-set o c L.set; goes = L.goes }

-- write enable makes a cycle pending
leads-enabled : (y : Cycle) (ys : List Cycle) (to : List ℕ) (c : Chip) → Leading None (y ∷ ys) to c → Leading (Some y) ys to (latched true c)
leads-enabled y ys to c L =
    record { formed = record { known = L.formed.known; whole = L.formed.whole; byte = L.formed.byte }; set = refl; goes = L.goes }

-- and its frame does it
leads-done : (k : ℕ) (y : Cycle) (ys : List Cycle) (to : List ℕ) (c : Chip) → Leading (Some y) ys to c → Leading None ys to (done k c (effect (shape c) y c.image))
leads-done k y ys to c L =
    let a = and_parts (accepts (shape c) (prot c) y c.image) _ L.goes.0 in
    record {
      formed = record { known = L.formed.known; whole = length-effect (shape c) (real c L.formed) (prot c) y c.image L.formed.whole a.0; byte = L.formed.byte };
      set = tt;
      goes = (a.1, L.goes.1);
    }

no_frames : (x : Exchange) (xs : List Exchange) → [] ≡ x ∷ xs → ⊥
no_frames x xs e = suc-ne-zero 0 cc

-- however they are played
played : {c d : Chip} {xs : List Exchange} {ks : List ℕ} {zs : List Cycle} → Plays c xs ks d zs → (o : Option Cycle) (ys : List Cycle) (to : List ℕ)
    → xs ≡ rest o ys → Leading o ys to c → (zs ≡ owed o ys) × (d.image ≡ to)
played (ends b) None [] to e L = (refl, L.goes.1)
played (ends b) None (y ∷ ys) to e L = absurd (no_frames _ _ e)
played (ends b) (Some y) ys to e L = absurd (no_frames _ _ e)
played (sends b p) None [] to e L = absurd (no_frames _ _ (sym e))
played {c} (sends {x} {xs} {k} b p) None (y ∷ ys) to e L =
    let f : x ≡ enabling = cc in
    let g : xs ≡ sending y ∷ plan_frames ys = cc in
    let h : hears c (frame_of x) ≡ enable = ap (λ z. hears c (frame_of z)) f ∙ enable-heard c b in
    let r = played p (Some y) ys to g (subst (Leading (Some y) ys to) (sym (ap (act k c) h)) (leads-enabled y ys to c L)) in
    (ap₂ (λ u v. once u ++ v) (ap (starts c) h) r.0, r.1)
played {c} (sends {x} {xs} {k} b p) (Some y) ys to e L =
    let f : x ≡ sending y = cc in
    let g : xs ≡ plan_frames ys = cc in
    let t = (and_parts (accepts (shape c) (prot c) y c.image) _ L.goes.0).0 in
    let h = ap (λ z. after k c (frame_of z)) f ∙ cycle-done c L.formed y L.set b t k in
    let r = played p None ys to g (subst (Leading None ys to) (sym h) (leads-done k y ys to c L)) in
    (ap₂ (λ u v. once u ++ v) (ap (λ z. carried_by c (frame_of z)) f ∙ carries c L.formed y L.set b t) r.0, r.1)
played {c} (polls k p) o ys to e L =
    let h = status-heard c in
    let r = played p o ys to e (subst (Leading o ys to) (sym (ap (act k c) h)) (leads-waited o ys to c L)) in
    (ap₂ (λ u v. once u ++ v) (ap (starts c) h) r.0, r.1)

-- frames can always be played
abbrev SomePlay : Chip → List Exchange → List ℕ → Type 0
SomePlay c xs ks = (d : Chip) × (zs : List Cycle) × Plays c xs ks d zs

settles : (n : ℕ) (c : Chip) (xs : List Exchange) (ks : List ℕ) → c.busy ≡ n → ((b : Chip) → b.busy ≡ 0 → SomePlay b xs ks) → SomePlay c xs ks
settles zero c xs ks e f = f c e
settles (suc n) c xs ks e f =
    let h : (after 0 c status_frame).busy ≡ n = ap (λ (o : Ask). (act 0 c o).busy) (status-heard c) ∙ (let z : c.busy - 1 ≡ n = omega arith in z) in
    let r = settles n (after 0 c status_frame) xs ks h f in (r.0, once (carried_by c status_frame) ++ r.1, polls 0 r.2)

some_play : (xs : List Exchange) (ks : List ℕ) → length ks ≡ length xs → (c : Chip) → c.busy ≡ 0 → SomePlay c xs ks
some_play [] [] e c b = (c, [], ends b)
some_play [] (k ∷ ks) e c b = absurd (omega arith)
some_play (x ∷ xs) [] e c b = absurd (omega arith)
some_play (x ∷ xs) (k ∷ ks) e c b =
    let r = settles (after k c (frame_of x)).busy (after k c (frame_of x)) xs ks refl (some_play xs ks (omega arith)) in
    (r.0, once (carried_by c (frame_of x)) ++ r.1, sends b r.2)

pub has_effect : (ys : List Cycle) → HasEffect ys
has_effect ys c S b to g =
    let L : Leading None ys to c = record { formed = record { known = S.known; whole = S.imaged.whole; byte = S.byte }; set = tt; goes = g } in
    record {
      exactly = λ ks d zs p. played p None ys to refl L;
      playable = λ ks e.
          let r = some_play (plan_frames ys) ks e c b in
          let Q : List Cycle → Type 0 = λ zs. Plays c (plan_frames ys) ks r.0 zs in
          (r.0, subst Q (played r.2 None ys to refl L).0 r.2);
    }
