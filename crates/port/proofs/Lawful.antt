-- The machine's laws, one by one.
use Rattle.std.proofs.Common.{◌≡◌, ℕ, zero, suc, ◌+◌, ◌/◌, ◌%◌, ◌<◌, Bool, true, false, cond, eqb, ltb, ◌⊎◌, List, length, get_or, replicate, Some, None, Option, sym, refl, ap, ◌∙◌, subst, inl, inr, ⊎_elim, arith}
use lib.Bits.{bit_and}
use Rattle.std.proofs.lemmas.Bool.{and_parts, both_ways, cond-true, cond-false, eqb-true, ne_eqb, ltb-true, not-true}
use Rattle.std.proofs.lemmas.Option.{cond_some, none-some}
use Rattle.std.proofs.lemmas.List.{get_or-replicate}
use Rattle.memory.specs.Shape.{sector_at, size}
use Rattle.memory.specs.Protection.{protects}
use Rattle.memory.specs.Cycle.{Cycle, program, alter, preset, sector_erase, bulk_erase, effect, replacing}
use Rattle.memory.specs.Image.{rolled, reaches}
use Rattle.memory.proofs.Loops.{rolled_more}
use Rattle.memory.proofs.Models.{known_real, page-bytes}
use Rattle.memory.proofs.Pages.{Real}
use Rattle.memory.proofs.Protected.{none_protected}
use Rattle.memory.proofs.Off.{written_off, erased_off}
use Rattle.port.specs.Chip.{Chip, Sound, shape}
use Rattle.port.specs.Asks.{Ask, enable, disable, status, identify, read, cycle, unknown, heard, inside, polled, ordered}
use Rattle.port.specs.Machine.{Frame, hears, takes, opens, reply, answer, act, after, done}
use Rattle.port.specs.Laws.{starts, carried_by, Within, Needs, Leaves, MachineLaws}
use Rattle.port.proofs.Codes.{codes, polls, no_other, no_code, on_chip}
use Rattle.port.proofs.Placed.{lays, erases}
use Rattle.port.proofs.Taken.{latched_for, needed, taken}
use Rattle.port.proofs.Answered.{length-reply, shows, either, identifies, identifies_three}

pub ignored : (k w : ℕ) (c : Chip) (f : Frame) → hears c f ≡ unknown → (after k c f ≡ c) × (answer w c f ≡ replicate f.wanted 255)
ignored k w c f e = (ap (act k c) e, ap (λ o. reply w c o f.wanted) e)

pub turned_down : (k w : ℕ) (c : Chip) (f : Frame) (y : Cycle) → hears c f ≡ cycle y → takes c y ≡ false → (after k c f ≡ c) × (answer w c f ≡ replicate f.wanted 255)
turned_down k w c f y e t = (ap (act k c) e ∙ cond-false _ _ _ t, ap (λ o. reply w c o f.wanted) e)

only_status : (o : Ask) → (polled o ≡ status) ⊎ (polled o ≡ unknown)
only_status enable = inr refl
only_status disable = inr refl
only_status status = inl refl
only_status identify = inr refl
only_status (read a) = inr refl
only_status (cycle y) = inr refl
only_status unknown = inr refl

pub busy : (c : Chip) (f : Frame) → 0 < c.busy → (hears c f ≡ status) ⊎ (hears c f ≡ unknown)
busy c f h =
    let o = ordered f.sent f.wanted in
    let e : hears c f ≡ polled o = cond-false _ _ _ (ne_eqb c.busy 0 (λ z. omega arith)) in
    ⊎_elim (λ u. inl (e ∙ u)) (λ u. inr (e ∙ u)) (only_status o)

-- by cases on what is heard
idle-act : (k : ℕ) (c : Chip) (o : Ask) → starts c o ≡ None → (act k c o).image ≡ c.image
idle-act k c enable e = refl
idle-act k c disable e = refl
idle-act k c status e = refl
idle-act k c identify e = refl
idle-act k c (read a) e = refl
idle-act k c (cycle y) e = go (takes c y) e
  where
    go : (b : Bool) → cond b (Some y) None ≡ None → (cond b (done k c (effect (shape c) y c.image)) c).image ≡ c.image
    go true e = absurd (none-some y (sym e))
    go false e = refl
idle-act k c unknown e = refl

pub idle_image : (k : ℕ) (c : Chip) (f : Frame) → carried_by c f ≡ None → (after k c f).image ≡ c.image
idle_image k c f e = idle-act k c (hears c f) e

-- an order that starts a cycle asks for it, and it is taken
started : (c : Chip) (o : Ask) (y : Cycle) → starts c o ≡ Some y → (o ≡ cycle y) × (takes c y ≡ true)
started c enable y e = absurd (none-some y e)
started c disable y e = absurd (none-some y e)
started c status y e = absurd (none-some y e)
started c identify y e = absurd (none-some y e)
started c (read a) y e = absurd (none-some y e)
started c (cycle x) y e = let s = cond_some _ x y e in (ap cycle s.1, subst (λ v. takes c v ≡ true) s.1 s.0)
started c unknown y e = absurd (none-some y e)

-- the chip after it
pub cycled : (k : ℕ) (c : Chip) (f : Frame) (y : Cycle) → carried_by c f ≡ Some y → after k c f ≡ done k c (effect (shape c) y c.image)
cycled k c f y e = let s = started c (hears c f) y e in ap (act k c) s.0 ∙ cond-true _ _ _ s.1

pub cycle_image : (k : ℕ) (c : Chip) (f : Frame) (y : Cycle) → carried_by c f ≡ Some y → (after k c f).image ≡ effect (shape c) y c.image
cycle_image k c f y e = ap (λ d. d.image) (cycled k c f y e)

-- a cycle that is heard has its address on the chip
reached : (size : ℕ) (o : Ask) (y : Cycle) → inside size o ≡ cycle y → reaches size y ≡ true
reached size enable y e = let z : ◌≡◌ {A = ℕ} 0 1 = cc in absurd (omega arith)
reached size disable y e = let z : ◌≡◌ {A = ℕ} 0 1 = cc in absurd (omega arith)
reached size status y e = let z : ◌≡◌ {A = ℕ} 0 1 = cc in absurd (omega arith)
reached size identify y e = let z : ◌≡◌ {A = ℕ} 0 1 = cc in absurd (omega arith)
reached size (read a) y e = go (ltb a size) e
  where
    go : (b : Bool) → cond b (read a) unknown ≡ cycle y → reaches size y ≡ true
    go true e = let z : ◌≡◌ {A = ℕ} 0 1 = cc in absurd (omega arith)
    go false e = let z : ◌≡◌ {A = ℕ} 0 1 = cc in absurd (omega arith)
reached size (cycle x) y e = go (reaches size x) refl e
  where
    go : (b : Bool) → reaches size x ≡ b → cond b (cycle x) unknown ≡ cycle y → reaches size y ≡ true
    go true t e = let s : x ≡ y = cc in subst (λ v. reaches size v ≡ true) s t
    go false t e = let z : ◌≡◌ {A = ℕ} 0 1 = cc in absurd (omega arith)
reached size unknown y e = let z : ◌≡◌ {A = ℕ} 0 1 = cc in absurd (omega arith)

not_polled : (o : Ask) (y : Cycle) → polled o ≡ cycle y → ⊥
not_polled o y e = ⊎_elim (λ u. let z : ◌≡◌ {A = ℕ} 0 1 = cc in omega arith) (λ u. let z : ◌≡◌ {A = ℕ} 0 1 = cc in omega arith) (only_status o)

pub heard-reaches : (busy size : ℕ) (o : Ask) (y : Cycle) → heard busy size o ≡ cycle y → reaches size y ≡ true
heard-reaches busy size o y e = go (eqb busy 0) e
  where
    go : (b : Bool) → cond b (inside size o) (polled o) ≡ cycle y → reaches size y ≡ true
    go true e = reached size o y e
    go false e = absurd (not_polled o y e)

module _ (c : Chip) (S : Sound c) where
  R : Real (shape c)
  R = known_real c.capacity S.known

  elsewhere_by : (y : Cycle) → reaches (length c.image) y ≡ true → (i : ℕ) → (Within c y i → ⊥) → get_or (effect (shape c) y c.image) i 0 ≡ get_or c.image i 0
  elsewhere_by (program a d) r i n = written_off (shape c) R.bytes R.pages c.image S.imaged.whole bit_and a d i (ltb-true _ _ r) n
  elsewhere_by (alter a d) r i n = written_off (shape c) R.bytes R.pages c.image S.imaged.whole replacing a d i (ltb-true _ _ r) n
  elsewhere_by (preset a d) r i n = written_off (shape c) R.bytes R.pages c.image S.imaged.whole bit_and a d i (ltb-true _ _ r) n
  elsewhere_by (sector_erase a) r i n = erased_off (shape c) R.bytes R.pages c.image S.imaged.whole a i (ltb-true _ _ r) n
  elsewhere_by bulk_erase r i n = absurd (n tt)

  pub elsewhere : (k : ℕ) (f : Frame) (y : Cycle) → carried_by c f ≡ Some y → (i : ℕ) → (Within c y i → ⊥) → get_or (after k c f).image i 0 ≡ get_or c.image i 0
  elsewhere k f y e i n =
      let r = heard-reaches c.busy (length c.image) (ordered f.sent f.wanted) y (started c (hears c f) y e).0 in
      ap (λ l. get_or l i 0) (cycle_image k c f y e) ∙ elsewhere_by y r i n

  leaves_by : (y : Cycle) → reaches (length c.image) y ≡ true → Leaves c y (effect (shape c) y c.image)
  leaves_by (program a d) r = lays (shape c) R c.image S.imaged.whole bit_and a d (ltb-true _ _ r)
  leaves_by (alter a d) r = lays (shape c) R c.image S.imaged.whole replacing a d (ltb-true _ _ r)
  leaves_by (preset a d) r = lays (shape c) R c.image S.imaged.whole bit_and a d (ltb-true _ _ r)
  leaves_by (sector_erase a) r = λ i e. erases (shape c) R c.image S.imaged.whole a i (ltb-true _ _ r) e
  leaves_by bulk_erase r = λ i h. get_or-replicate (length c.image) i 255 0 h

  pub leaves : (k : ℕ) (f : Frame) (y : Cycle) → carried_by c f ≡ Some y → Leaves c y (after k c f).image
  leaves k f y e =
      subst (Leaves c y) (sym (cycle_image k c f y e))
      (leaves_by y (heard-reaches c.busy (length c.image) (ordered f.sent f.wanted) y (started c (hears c f) y e).0))

  -- an open address is in no protected sector
  apart : (a i : ℕ) → opens c a ≡ true → protects c.status (shape c).sectors (sector_at (shape c) i) ≡ true → sector_at (shape c) i ≡ sector_at (shape c) a → ⊥
  apart a i o p e =
      both_ways _ (not-true _ (and_parts c.latch _ o).1) (ap (protects c.status (shape c).sectors) (sym e) ∙ p)

  clear_of : (y : Cycle) → takes c y ≡ true → (i : ℕ) → protects c.status (shape c).sectors (sector_at (shape c) i) ≡ true → Within c y i → ⊥
  clear_of (program a d) t i p w = apart a i t p (ap (λ q. q / (shape c).pages) w)
  clear_of (alter a d) t i p w = apart a i t p (ap (λ q. q / (shape c).pages) w)
  clear_of (preset a d) t i p w = apart a i (and_parts (opens c a) _ t).0 p (ap (λ q. q / (shape c).pages) w)
  clear_of (sector_erase a) t i p w = apart a i t p w
  clear_of bulk_erase t i p w =
      both_ways _ (none_protected c.status (shape c).sectors (sector_at (shape c) i) (eqb-true _ _ (and_parts c.latch _ t).1)) p

  pub protected : (k : ℕ) (f : Frame) (i : ℕ) → protects c.status (shape c).sectors (sector_at (shape c) i) ≡ true → get_or (after k c f).image i 0 ≡ get_or c.image i 0
  protected k f i p = go (carried_by c f) refl
    where
      go : (o : Option Cycle) → carried_by c f ≡ o → get_or (after k c f).image i 0 ≡ get_or c.image i 0
      go None e = ap (λ l. get_or l i 0) (idle_image k c f e)
      go (Some y) e = elsewhere k f y e i (clear_of y (started c (hears c f) y e).1 i p)

-- the latch, and what never changes
latch-act : (k : ℕ) (c : Chip) (o : Ask) → (o ≡ enable → ⊥) → (o ≡ disable → ⊥) → starts c o ≡ None → (act k c o).latch ≡ c.latch
latch-act k c enable a b e = absurd (a refl)
latch-act k c disable a b e = absurd (b refl)
latch-act k c status a b e = refl
latch-act k c identify a b e = refl
latch-act k c (read x) a b e = refl
latch-act k c (cycle y) a b e = go (takes c y) e
  where
    go : (t : Bool) → cond t (Some y) None ≡ None → (cond t (done k c (effect (shape c) y c.image)) c).latch ≡ c.latch
    go true e = absurd (none-some y (sym e))
    go false e = refl
latch-act k c unknown a b e = refl

-- and the busy count
busy-act : (k : ℕ) (c : Chip) (o : Ask) → (o ≡ status → ⊥) → starts c o ≡ None → (act k c o).busy ≡ c.busy
busy-act k c enable a e = refl
busy-act k c disable a e = refl
busy-act k c status a e = absurd (a refl)
busy-act k c identify a e = refl
busy-act k c (read x) a e = refl
busy-act k c (cycle y) a e = go (takes c y) e
  where
    go : (t : Bool) → cond t (Some y) None ≡ None → (cond t (done k c (effect (shape c) y c.image)) c).busy ≡ c.busy
    go true e = absurd (none-some y (sym e))
    go false e = refl
busy-act k c unknown a e = refl

fixed-act : (k : ℕ) (c : Chip) (o : Ask) → ((act k c o).capacity ≡ c.capacity) × ((act k c o).status ≡ c.status)
fixed-act k c enable = (refl, refl)
fixed-act k c disable = (refl, refl)
fixed-act k c status = (refl, refl)
fixed-act k c identify = (refl, refl)
fixed-act k c (read x) = (refl, refl)
fixed-act k c (cycle y) = go (takes c y)
  where
    go : (t : Bool) → ((cond t (done k c (effect (shape c) y c.image)) c).capacity ≡ c.capacity) × ((cond t (done k c (effect (shape c) y c.image)) c).status ≡ c.status)
    go true = (refl, refl)
    go false = (refl, refl)
fixed-act k c unknown = (refl, refl)

pub carries : (c : Chip) → Sound c → (f : Frame) (y : Cycle) → hears c f ≡ cycle y → c.latch ≡ true → Needs c y → carried_by c f ≡ Some y
carries c S f y e l n = ap (starts c) e ∙ cond-true _ _ _ (taken c S y l n)

rolls : (image : List ℕ) (a n i : ℕ) → i < n → get_or (rolled image a n) i 0 ≡ get_or image ((a + i) % length image) 0
rolls image a zero i h = absurd (omega arith)
rolls image a (suc n) zero h =
    ap (λ l. get_or l 0 0) (rolled_more image a (suc n) n refl) ∙ ap (λ x. get_or image (x % length image) 0) e
  where
    e : a ≡ a + 0
    e = omega arith
rolls image a (suc n) (suc i) h =
    ap (λ l. get_or l (suc i) 0) (rolled_more image a (suc n) n refl) ∙ (rolls image (a + 1) n i (omega arith) ∙ ap (λ x. get_or image (x % length image) 0) e)
  where
    e : a + 1 + i ≡ a + suc i
    e = omega arith

pub lawful : MachineLaws
lawful =
    record {
      ignored = ignored;
      turned_down = turned_down;
      busy = busy;
      codes = codes;
      polls = polls;
      no_other = no_other;
      no_code = no_code;
      on_chip = on_chip;
      idle_image = idle_image;
      cycle_image = cycle_image;
      leaves = λ k c S. leaves c S k;
      page = λ c. page-bytes c.capacity;
      elsewhere = λ k c S. elsewhere c S k;
      protected = λ k c S. protected c S k;
      latch = λ k c f. latch-act k c (hears c f);
      latch_set = λ k c f e. ap (λ o. (act k c o).latch) e;
      latch_cleared = λ k c f e. ap (λ o. (act k c o).latch) e;
      latch_spent = λ k c f y e. ap (λ d. d.latch) (cycled k c f y e);
      carries = carries;
      needs_latch = λ c f y e. latched_for c y (started c (hears c f) y e).1;
      needs = λ c S f y e. needed c S y (started c (hears c f) y e).1;
      counts = λ k c f e. ap (λ o. (act k c o).busy) e;
      sets = λ k c f y e. ap (λ d. d.busy) (cycled k c f y e);
      waits = λ k c f. busy-act k c (hears c f);
      fixed = λ k c f. fixed-act k c (hears c f);
      filled = λ w c f. length-reply w c (hears c f) f.wanted;
      reads = λ w c f a i e h. ap (λ o. get_or (reply w c o f.wanted) i 0) e ∙ rolls c.image a f.wanted i h;
      rolls = rolls;
      shows = shows;
      either = either;
      identifies = identifies;
      identifies_three = identifies_three;
    }
