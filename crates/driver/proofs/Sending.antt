-- The two frames of a cycle.
use Rattle.std.specs.Prelude.{◌≡◌, ℕ, ◌*◌, ◌/◌, ◌≤◌, Bool, true, false, cond, not, List, [], ◌∷◌, ◌++◌, length, ◌==◌, bit_and, nat_eq, nat_lt, refl}
use Rattle.std.proofs.Common.{sym, ap, ap₂, subst, ◌∙◌, arith, lit≤}
use Rattle.std.proofs.lemmas.Bool.{cond-true, eq-eqb, and_parts, and_from, ltb-true, leb-true, lt-ltb}
use Rattle.memory.specs.declared.kind.Kind.{Kind}
use Rattle.memory.specs.declared.kind.Kind.TheVariants as of_kind
use Rattle.memory.specs.Shape.{Shape, size, sector_at}
use Rattle.memory.specs.Page.{page, blank}
use Rattle.memory.specs.Protection.{protects}
use Rattle.memory.specs.Cycle.{Cycle, cycle_of, effect, permits}
use Rattle.memory.proofs.Cycles.{fits_page_facts}
use Rattle.memory.specs.Image.{reaches}
use Rattle.port.specs.declared.instruction.Operation.TheVariants.{WriteEnable, Program, Alter, Preset, SectorErase}
use Rattle.port.specs.Instructions.{table}
use Rattle.port.specs.Build.{built, listed}
use Rattle.port.specs.Chip.{Chip, shape}
use Rattle.port.specs.Asks.{enable, cycle, unknown, heard, ordered}
use Rattle.port.specs.Machine.{hears, act, after, done, latched, takes}
use Rattle.port.proofs.Building.{understood}
use Rattle.port.proofs.Hearing.{enable-heard, enable-ordered}
use Rattle.part.specs.declared.outline.Outline.{Outline}
use Rattle.part.specs.Outline.{outlined, guarding}
use Rattle.part.specs.Verdict.{inside, takes_length, presets}
use Rattle.part.proofs.Guards.{guard_at, free-guards}
use Rattle.driver.specs.Frames.{Sendable, largest_shape, enable_frame, cycle_frame, looks}
use Rattle.port.specs.Operations.{operation_of}
use Rattle.driver.specs.Carries.{Carries, Harmless, none, step, status_reads, asks_status, carried_out}
use Rattle.driver.specs.Driving.{Intact}
use Rattle.driver.proofs.Reading.{reads_carry, reads-harmless, reads_no_status}

-- what an outline lets pass has an address of three bytes and a page at most
inside_most : (o : Outline) (a : ℕ) → nat_lt a (size (outlined o)) ≡ true → nat_lt a 16777216 ≡ true
inside_most o a e = lt-ltb _ _ (omega (arith, ltb-true _ _ e, o.geometry.small))

pub sendable : (o : Outline) (kind : Kind) (a n : ℕ) → inside (outlined o) kind a ≡ true → takes_length (outlined o) kind n ≡ true → Sendable kind a n
sendable o of_kind.Program a n i f = (inside_most o a i, f)
sendable o of_kind.Alter a n i f = (inside_most o a i, f)
sendable o of_kind.Preset a n i f = (inside_most o a i, f)
sendable o of_kind.SectorErase a n i f = (inside_most o a i, refl)
sendable o of_kind.BulkErase a n i f = (refl, refl)

pub length-cycle : (kind : Kind) (a : ℕ) (sent : List ℕ) → takes_length largest_shape kind (length sent) ≡ true → length (built (operation_of kind) a sent) ≤ 68
unfolding table listed built
length-cycle of_kind.Program a sent f = let m = (fits_page_facts largest_shape sent f).1 in omega arith
length-cycle of_kind.Alter a sent f = let m = (fits_page_facts largest_shape sent f).1 in omega arith
length-cycle of_kind.Preset a sent f = let m = (fits_page_facts largest_shape sent f).1 in omega arith
length-cycle of_kind.SectorErase a sent f = lit≤ tt
length-cycle of_kind.BulkErase a sent f = lit≤ tt

-- write enable
enabled : (x : Bool) (k : ℕ) (c : Chip) → act k c (cond x enable unknown) ≡ act 0 c (cond x enable unknown)
enabled true k c = refl
enabled false k c = refl

pub after-enable : (k : ℕ) (c : Chip) → after k c enable_frame ≡ after 0 c enable_frame
after-enable k c =
    ap (λ o. act k c (heard c.busy (length c.image) o)) enable-ordered ∙ enabled (c.busy == 0) k c
    ∙ sym (ap (λ o. act 0 c (heard c.busy (length c.image) o)) enable-ordered)

-- the frame of the cycle
cycle-ordered : (kind : Kind) (a : ℕ) (sent : List ℕ) → Sendable kind a (length sent) → ordered (built (operation_of kind) a sent) 0 ≡ cycle (cycle_of kind a sent)
unfolding table listed built
cycle-ordered of_kind.Program a sent s = understood Program a 0 sent (ltb-true _ _ s.0) (λ _. (fits_page_facts largest_shape sent s.1).0)
cycle-ordered of_kind.Alter a sent s = understood Alter a 0 sent (ltb-true _ _ s.0) (λ _. (fits_page_facts largest_shape sent s.1).0)
cycle-ordered of_kind.Preset a sent s = understood Preset a 0 sent (ltb-true _ _ s.0) (λ _. (fits_page_facts largest_shape sent s.1).0)
cycle-ordered of_kind.SectorErase a sent s = understood SectorErase a 0 sent (ltb-true _ _ s.0) (λ e. absurd (Rattle.std.proofs.lemmas.Bool.false≢true e))
cycle-ordered of_kind.BulkErase a sent s = refl

cycle-heard : (c : Chip) (kind : Kind) (a : ℕ) (sent : List ℕ) → Sendable kind a (length sent) → c.busy ≡ 0 → reaches (length c.image) (cycle_of kind a sent) ≡ true
    → hears c (cycle_frame kind a sent) ≡ cycle (cycle_of kind a sent)
cycle-heard c kind a sent s b r =
    ap (heard c.busy (length c.image)) (cycle-ordered kind a sent s) ∙ cond-true _ _ _ (eq-eqb _ _ b) ∙ cond-true _ _ _ r

pub frames_no_status : (kind : Kind) (a : ℕ) (sent : List ℕ) → Sendable kind a (length sent) → status_reads (enable_frame ∷ cycle_frame kind a sent ∷ []) ≡ 0
frames_no_status kind a sent s =
    let e : asks_status (ordered (built WriteEnable 0 []) 0) ≡ 0 = ap asks_status enable-ordered in
    let f : asks_status (ordered (built (operation_of kind) a sent) 0) ≡ 0 = ap asks_status (cycle-ordered kind a sent s) in omega arith

module _ (c d : Chip) (kind : Kind) (a : ℕ) (sent : List ℕ) (s : Sendable kind a (length sent)) (b : c.busy ≡ 0)
    (r : reaches (length c.image) (cycle_of kind a sent) ≡ true) (t : takes (latched true c) (cycle_of kind a sent) ≡ true)
    (e : d ≡ after d.busy (after 0 c enable_frame) (cycle_frame kind a sent)) where
  latch : after 0 c enable_frame ≡ latched true c
  latch = ap (act 0 c) (enable-heard c b)

  -- the cycle is carried out
  pub sent-done : d ≡ done d.busy (latched true c) (effect (shape c) (cycle_of kind a sent) c.image)
  sent-done =
      e ∙ ap (λ x. after d.busy x (cycle_frame kind a sent)) latch
      ∙ ap (act d.busy (latched true c)) (cycle-heard (latched true c) kind a sent s b r) ∙ cond-true _ _ _ t

  -- and no other
  pub sent-carries : Carries c (enable_frame ∷ cycle_frame kind a sent ∷ []) d (cycle_of kind a sent ∷ [])
  sent-carries =
      let first : carried_out c (hears c enable_frame) ≡ [] = ap (carried_out c) (enable-heard c b) in
      let second : carried_out (after 0 c enable_frame) (hears (after 0 c enable_frame) (cycle_frame kind a sent)) ≡ cycle_of kind a sent ∷ [] =
      ap (λ x. carried_out x (hears x (cycle_frame kind a sent))) latch
      ∙ ap (carried_out (latched true c)) (cycle-heard (latched true c) kind a sent s b r) ∙ cond-true _ _ _ t in
      let P : Chip → Type 0 = λ x. Carries c (enable_frame ∷ cycle_frame kind a sent ∷ []) x
      (carried_out c (hears c enable_frame) ++ (carried_out (after 0 c enable_frame) (hears (after 0 c enable_frame) (cycle_frame kind a sent)) ++ [])) in
      let Q : List Cycle → Type 0 = λ x. Carries c (enable_frame ∷ cycle_frame kind a sent ∷ []) d x in
      subst Q (ap₂ (λ x y. x ++ (y ++ [])) first second) (subst P (sym e) (step 0 (step d.busy none)))

-- the chip takes what the outline permits
opened : (o : Outline) (c : Chip) (a : ℕ) → Intact o c → not (guarding o (sector_at (outlined o) a)) ≡ true
    → not (protects c.status (shape c).sectors (sector_at (shape c) a)) ≡ true
opened o c a i p =
    ap₂ (λ st (m : Shape). not (protects st m.sectors (sector_at m a))) i.status i.shape
    ∙ ap not (sym (guard_at o.status.bits o.geometry.sectors (sector_at (outlined o) a))) ∙ p

pub takes_in : (o : Outline) (c : Chip) (kind : Kind) (a : ℕ) (sent : List ℕ) → Intact o c → permits (outlined o) (guarding o) kind a ≡ true
    → presets kind (blank (page 64 (a / 64) c.image)) ≡ true → takes (latched true c) (cycle_of kind a sent) ≡ true
takes_in o c of_kind.Program a sent i p t = opened o c a i p
takes_in o c of_kind.Alter a sent i p t = opened o c a i p
takes_in o c of_kind.Preset a sent i p t = and_from _ _ (opened o c a i p) (ap (λ (m : Shape). blank (page m.bytes (a / m.bytes) c.image)) i.shape ∙ t)
takes_in o c of_kind.SectorErase a sent i p t = opened o c a i p
takes_in o c of_kind.BulkErase a sent i p t =
    ap (λ st. nat_eq (bit_and st 0x5C) 0) i.status ∙ sym (free-guards o.status.bits o.geometry.sectors o.status.byte o.geometry.some) ∙ p

-- looking at the page alters nothing
pub looks_carry : (room : ℕ) (kind : Kind) (a : ℕ) (c : Chip) → inside largest_shape kind a ≡ true → Carries c (looks room kind a) c []
looks_carry room of_kind.Program a c i = none
looks_carry room of_kind.Alter a c i = none
looks_carry room of_kind.Preset a c i = let l = ltb-true _ _ i in reads_carry room (a / 64 * 64) 64 c (omega arith)
looks_carry room of_kind.SectorErase a c i = none
looks_carry room of_kind.BulkErase a c i = none

pub looks-harmless : (room : ℕ) (kind : Kind) (a : ℕ) (c : Chip) → inside largest_shape kind a ≡ true → Harmless c (looks room kind a)
looks-harmless room of_kind.Program a c i = tt
looks-harmless room of_kind.Alter a c i = tt
looks-harmless room of_kind.Preset a c i = let l = ltb-true _ _ i in reads-harmless room (a / 64 * 64) 64 c (omega arith)
looks-harmless room of_kind.SectorErase a c i = tt
looks-harmless room of_kind.BulkErase a c i = tt

pub looks_no_status : (room : ℕ) (kind : Kind) (a : ℕ) → inside largest_shape kind a ≡ true → status_reads (looks room kind a) ≡ 0
looks_no_status room of_kind.Program a i = refl
looks_no_status room of_kind.Alter a i = refl
looks_no_status room of_kind.Preset a i = let l = ltb-true _ _ i in reads_no_status room (a / 64 * 64) 64 (omega arith)
looks_no_status room of_kind.SectorErase a i = refl
looks_no_status room of_kind.BulkErase a i = refl
