-- What each call's frames do.
use Rattle.std.specs.Prelude.{◌≡◌, ℕ, ◌+◌, ◌-◌, ◌*◌, ◌/◌, ◌≤◌, Bool, true, false, cond, not, ◌&&◌, List, [], ◌∷◌, ◌++◌, length, None, ◌==◌, refl}
use Rattle.std.proofs.Common.{sym, ap, ap₂, subst, ◌∙◌, arith}
use Rattle.std.proofs.lemmas.Bool.{true≢false, cond-true, ltb-true, not-true}
use Rattle.std.proofs.lemmas.Bool.Decides.{nat_tests}
use Rattle.memory.specs.declared.kind.Kind.{Kind}
use Rattle.memory.specs.declared.kind.Kind.TheVariants as of_kind
use Rattle.memory.specs.Shape.{Shape, size}
use Rattle.memory.specs.Page.{page, blank}
use Rattle.memory.specs.Cycle.{Cycle, cycle_of, effect, permits}
use Rattle.memory.specs.Image.{reaches}
use Rattle.memory.proofs.Sizes.{page-fits}
use Rattle.port.specs.Build.{status_frame}
use Rattle.port.specs.Chip as of_chip
use Rattle.port.specs.Chip.{Chip, shape}
use Rattle.port.specs.Machine.{Frame, after, hears, waited, done, latched, takes}
use Rattle.part.specs.declared.outline.Outline.{Outline}
use Rattle.part.specs.Meaning.{Event, Tells, carried, polled, cycles, polls, waited as waited_part}
use Rattle.part.specs.Outline.{outlined, guards, guarding}
use Rattle.part.specs.Verdict.{inside, takes_length, presets, verdict}
use Rattle.port.proofs.Hearing.{status-heard}
use Rattle.part.proofs.Refusals.{reaches_in}
use Rattle.part.proofs.Playing.{alike}
use Rattle.part.proofs.Telling.{tells_done, tells_poll}
use Rattle.driver.specs.Frames.{Sendable, enable_frame, cycle_frame, looks}
use Rattle.driver.specs.Carries.{Carries, Harmless, none, step, status_reads, carried_out}
use Rattle.driver.specs.Driving.{Drives, Intact, seen}
use Rattle.driver.specs.Joins.{chip_long, carries-++, status-++}
use Rattle.driver.proofs.Hearing.{one-status, after-status}
use Rattle.driver.proofs.Leading.{carries-leads}
use Rattle.driver.proofs.Sending.{sendable, frames_no_status, sent-done, sent-carries, takes_in, looks_carry, looks_no_status}

-- the outline with polls due, or with none
abbrev pub with_busy : Bool → Outline → Outline
with_busy b o = record { geometry = o.geometry; status = o.status; busy = b }

-- what is remembered is true of the same chip
pub same-intact : (o : Outline) (c d : Chip) → d ≡ c → Intact o c → Intact o d
same-intact o c d e i = let I : Chip → Type 0 = λ x. Intact o x in subst I (sym e) i

-- with no polls due, as it is remembered, none is
pub rests : (o : Outline) (c : Chip) → not o.busy ≡ true → (seen o c).due ≡ 0
rests o c e = ap (λ (b : Bool). cond b (c.busy + 1) 0) (not-true _ e)

-- frames that do nothing, for events that do nothing
pub drives_quiet : (o : Outline) (c d : Chip) (fs : List Frame) (es : List Event) → d ≡ c → Carries c fs c [] → Harmless c fs → status_reads fs ≡ 0 → polls es ≡ 0 → cycles es ≡ []
    → Tells (seen o c) es (seen o c) → Drives o c fs o d es
drives_quiet o c d fs es e q h s p y t =
    let P : Chip → Type 0 = λ x. Carries c fs x (cycles es) in
    let Q : List Cycle → Type 0 = λ x. Carries c fs c x in
    let R : Chip → Type 0 = λ x. Tells (seen o c) es (seen o x) in
    record {
      polls = s ∙ sym p;
      shape = refl;
      status = refl;
      carries = subst P (sym e) (subst Q (sym y) q);
      harmless = λ _. (e, h);
      tells = subst R (sym e) t;
    }

-- as many polls as the chip still shows busy, and one more, until one shows it idle
one_less : (b n : Bool) (k j : ℕ) → n ≡ (b && not (k == 0)) → j ≡ k - 1 → cond n (j + 1) 0 ≡ cond b (k + 1) 0 - 1
one_less b n k j e f = grind (arith, nat_tests)

pub seen_poll : (o p : Outline) (c d : Chip) → outlined p ≡ outlined o → p.status.bits ≡ o.status.bits → p.busy ≡ (o.busy && not (c.busy == 0)) → d ≡ waited c
    → seen p d ≡ waited_part (seen o c)
seen_poll o p c d s t b e =
    alike (outlined p) (outlined o) d.image c.image _ _ _ _ s (ap (λ (x : Chip). x.image) e) (ap₂ guards t (ap (λ (x : Shape). x.sectors) s))
    (one_less o.busy p.busy c.busy d.busy b (ap (λ (x : Chip). x.busy) e))

-- a poll
pub drives_poll : (o p : Outline) (c d : Chip) → outlined p ≡ outlined o → p.status.bits ≡ o.status.bits → p.busy ≡ (o.busy && not (c.busy == 0)) → d ≡ waited c
    → Drives o c (status_frame ∷ []) p d (polled ∷ [])
drives_poll o p c d s t b e =
    let P : Chip → Type 0 = λ x. Carries c (status_frame ∷ []) x (carried_out c (hears c status_frame) ++ []) in
    let Q : List Cycle → Type 0 = λ x. Carries c (status_frame ∷ []) d (x ++ []) in
    record {
      polls = let n = one-status in omega arith;
      shape = s;
      status = t;
      carries = subst Q (ap (carried_out c) (status-heard c)) (subst P (after-status 0 c ∙ sym e) (step 0 none));
      harmless = λ q. absurd q;
      tells = tells_poll _ _ (seen_poll o p c d s t b e);
    }

-- a page looked at by a preset lies inside
pub looked : (o : Outline) (kind : Kind) (a n : ℕ) (r x : Bool) → n ≡ size (outlined o) → inside (outlined o) kind a ≡ true → r ≡ presets kind r
    → (a / 64 * 64 + 64 ≤ n → r ≡ presets kind x) → r ≡ presets kind x
looked o of_kind.Program a n r x e i s f = s
looked o of_kind.Alter a n r x e i s f = s
looked o of_kind.Preset a n r x e i s f = f (page-fits (o.geometry.sectors * o.geometry.pages) a n e (let l = ltb-true _ _ i in omega arith))
looked o of_kind.SectorErase a n r x e i s f = s
looked o of_kind.BulkErase a n r x e i s f = s

-- a cycle
module _ (o p : Outline) (c d : Chip) (room : ℕ) (kind : Kind) (a : ℕ) (sent : List ℕ) (sound : of_chip.Sound c) (i : Intact o c)
    (same_shape : outlined p ≡ outlined o) (same-status : p.status.bits ≡ o.status.bits) (busy : p.busy ≡ true) (was-idle : o.busy ≡ false)
    (is-inside : inside (outlined o) kind a ≡ true) (is_filled : takes_length (outlined o) kind (length sent) ≡ true)
    (is_open : permits (outlined o) (guarding o) kind a ≡ true)
    (clean : presets kind (blank (page 64 (a / 64) c.image)) ≡ true)
    (e : d ≡ after d.busy (after 0 c enable_frame) (cycle_frame kind a sent)) where
  s : Sendable kind a (length sent)
  s = sendable o kind a (length sent) is-inside is_filled

  arrives : reaches (length c.image) (cycle_of kind a sent) ≡ true
  arrives = reaches_in (outlined o) (length c.image) kind a sent (chip_long o c sound i) is-inside

  taken : takes (latched true c) (cycle_of kind a sent) ≡ true
  taken = takes_in o c kind a sent i is_open clean

  pub cycle-done : d ≡ done d.busy (latched true c) (effect (shape c) (cycle_of kind a sent) c.image)
  cycle-done = sent-done c d kind a sent s (i.idle was-idle) arrives taken e

  pub cycle-intact : Intact p d
  cycle-intact =
      same-intact p (done d.busy (latched true c) (effect (shape c) (cycle_of kind a sent) c.image)) d cycle-done
      (record { shape = i.shape ∙ sym same_shape; status = i.status ∙ sym same-status; idle = λ f. absurd (true≢false (sym busy ∙ f)) })

  carries : Carries c (looks room kind a ++ (enable_frame ∷ cycle_frame kind a sent ∷ [])) d (cycle_of kind a sent ∷ [])
  carries = carries-++ (looks_carry room kind a c s.0) (sent-carries c d kind a sent s (i.idle was-idle) arrives taken e)

  pub cycle-image : (seen p d).image ≡ effect (outlined o) (cycle_of kind a sent) (seen o c).image
  cycle-image = sym (carries-leads carries) ∙ ap (λ (x : Shape). effect x (cycle_of kind a sent) c.image) i.shape

  unrefused : verdict (seen o c) kind a sent ≡ None
  unrefused =
      let idle : (cond o.busy (c.busy + 1) 0 == 0) ≡ true = ap (λ (b : Bool). cond b (c.busy + 1) 0 == 0) was-idle in
      cond-true _ _ _ is-inside ∙ cond-true _ _ _ is_filled ∙ cond-true _ _ _ idle ∙ cond-true _ _ _ is_open ∙ cond-true _ _ _ clean

  pub drives_cycle : Drives o c (looks room kind a ++ (enable_frame ∷ cycle_frame kind a sent ∷ [])) p d (carried (cycle_of kind a sent) ∷ [])
  drives_cycle =
      let l = looks_no_status room kind a s.0 in
      let m = frames_no_status kind a sent s in
      let n = status-++ (looks room kind a) (enable_frame ∷ cycle_frame kind a sent ∷ []) in
      let D : Bool → Type 0 = λ b. 1 ≤ cond b (d.busy + 1) 0 in
      record {
        polls = omega arith;
        shape = same_shape;
        status = same-status;
        carries = carries;
        harmless = λ q. absurd q;
        tells = tells_done _ _ kind a sent unrefused same_shape (ap₂ guards same-status (ap (λ (x : Shape). x.sectors) same_shape)) cycle-image (subst D (sym busy) (omega arith));
      }
