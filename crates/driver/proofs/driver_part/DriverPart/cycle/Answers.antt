use Rattle.std.proofs.Common.{◌≡◌, ℕ, ◌+◌, ◌-◌, ◌*◌, ◌/◌, ◌≤◌, true, not, List, [], ◌∷◌, ◌++◌, length, None, sym, refl, ap, ◌∙◌}
use Rattle.std.proofs.lemmas.Bool.{not-true}
use Rattle.std.proofs.lemmas.Result.{err_from_is_err_and}
use Rattle.memory.specs.declared.kind.Kind.{Kind}
use Rattle.memory.specs.Page.{page, blank}
use Rattle.memory.specs.Cycle.{cycle_of, effect, permits}
use Rattle.port.specs.Chip as of_chip
use Rattle.port.specs.Chip.{Chip}
use Rattle.port.specs.Machine.{after}
use Rattle.part.specs.declared.outline.Outline.{Outline}
use Rattle.part.specs.Meaning.{carried, none}
use Rattle.part.specs.Outline.{outlined, guarding}
use Rattle.part.specs.Verdict.{refusal, inside, takes_length, presets}
use Rattle.part.proofs.Refusals.{Passes, all_passed, refused, unrefused}
use Rattle.driver.specs.Frames.{looks, enable_frame, cycle_frame}
use Rattle.driver.specs.Driving.{Drives, Intact, seen}
use Rattle.driver.specs.Joins.{chip_long, drives_none}
use Rattle.driver.proofs.Sending.{sendable, looks_carry, looks-harmless, looks_no_status}
use Rattle.driver.proofs.Driven.{drives_quiet, drives_cycle, cycle-image, cycle-intact, looked, with_busy}
use Rattle.driver.proofs.driver_part.DriverPart.cycle.Goals as goal

-- the checks before the page, as the outline and as the meaning has them
passes : (o : Outline) (kind : Kind) (a n : ℕ) → None ≡ refusal (outlined o) (guarding o) (not o.busy) true kind a n
    → Passes (inside (outlined o) kind a) (takes_length (outlined o) kind n) (not o.busy) (permits (outlined o) (guarding o) kind a)
passes o kind a n v = all_passed (outlined o) (guarding o) (not o.busy) kind a n true (sym v)

-- what the cycle leaves, once its page was found to be clean
record Sent (o p : Outline) (c d : Chip) (room : ℕ) (kind : Kind) (a : ℕ) (sent : List ℕ) : Type 0 where
  intact : Intact p d
  drives : Drives o c (looks room kind a ++ (enable_frame ∷ cycle_frame kind a sent ∷ [])) p d (carried (cycle_of kind a sent) ∷ [])
  image : (seen p d).image ≡ effect (outlined o) (cycle_of kind a sent) (seen o c).image

sends : (o p : Outline) (c m d : Chip) (room : ℕ) (kind : Kind) (a : ℕ) (sent : List ℕ) → of_chip.Sound c → Intact o c
    → outlined p ≡ outlined o → p.status.bits ≡ o.status.bits → p.busy ≡ true
    → None ≡ refusal (outlined o) (guarding o) (not o.busy) true kind a (length sent)
    → true ≡ presets kind true → (c.busy ≡ 0 → a / 64 * 64 + 64 ≤ length c.image → true ≡ presets kind (blank (page 64 (a / 64) c.image)))
    → m ≡ c → d ≡ after d.busy (after 0 m enable_frame) (cycle_frame kind a sent) → Sent o p c d room kind a sent
sends o p c m d room kind a sent sound i shape status busy v others clean same e =
    let q = passes o kind a (length sent) v in
    let was-idle = not-true _ q.idle in
    let f = e ∙ ap (λ x. after d.busy (after 0 x enable_frame) (cycle_frame kind a sent)) same in
    let t = sym (looked o kind a (length c.image) true (blank (page 64 (a / 64) c.image)) (chip_long o c sound i) q.inside others (clean (i.idle was-idle))) in
    record {
      intact = cycle-intact o p c d room kind a sent sound i shape status busy was-idle q.inside q.takes_length q.permits t f;
      drives = drives_cycle o p c d room kind a sent sound i shape status busy was-idle q.inside q.takes_length q.permits t f;
      image = cycle-image o p c d room kind a sent sound i shape status busy was-idle q.inside q.takes_length q.permits t f;
    }

pub returns-in_err-check_cycle-clause-trace : goal.returns-in_err-check_cycle-clause-trace
returns-in_err-check_cycle-clause-trace g c =
    let p = err_from_is_err_and c.from_residual.result c.from_residual.ensures.1 in
    let s = c.args.self.now in rw p.1 ([], g.met.P.Port.stays s.port, drives_none s.outline (g.P.Port.chip s.port))

pub returns-in_err-check_cycle-clause-frames : goal.returns-in_err-check_cycle-clause-frames
returns-in_err-check_cycle-clause-frames g c =
    let s = c.args.self.now in rw (refused _ _ c.in_err-check_cycle.ensures.value) (g.met.P.Port.stays s.port)

pub returns-then-not-is_clean_for-clause-trace : goal.returns-then-not-is_clean_for-clause-trace
returns-then-not-is_clean_for-clause-trace g c =
    let o : Outline = c.args.self.now.outline in
    let port = c.args.self.now.port in
    let chip : Chip = g.P.Port.chip port in
    let kind : Kind = c.args.kind in
    let a : ℕ = c.args.address in
    let room : ℕ = g.P.Port.longest port - 4 in
    let p = passes o kind a (length c.args.data.now) (unrefused _ c.in_ok-check_cycle.ensures.value) in
    let s = (sendable o kind a (length c.args.data.now) p.inside p.takes_length).0 in (
      looks room kind a,
      c.is_clean_for.ensures.trace,
      drives_quiet o chip _ (looks room kind a) [] c.is_clean_for.ensures.chip (looks_carry room kind a chip s) (looks-harmless room kind a chip s) (looks_no_status room kind a s) refl refl none,
    )

pub invariant_of-self-2 : goal.invariant_of-self-2
invariant_of-self-2 g c =
    let s = c.args.self.now in
    let q = c.if-not-is_clean_for.ensures in
    let n = sends s.outline _ (g.P.Port.chip s.port) _ _ 0 c.args.kind c.args.address c.args.data.now (g.met.P.Port.sound s.port).0 s.intact refl refl refl
    (unrefused _ c.in_ok-check_cycle.ensures.value) q.others q.clean c.is_clean_for.ensures.chip c.send.ensures.chip in record { intact = n.intact }

pub returns-clause-image : goal.returns-clause-image
returns-clause-image g c = λ _.
    let s = c.args.self.now in
    let q = c.if-not-is_clean_for.ensures in
    let n = sends s.outline (with_busy true s.outline) (g.P.Port.chip s.port) _ _ 0 c.args.kind c.args.address c.args.data.now (g.met.P.Port.sound s.port).0 s.intact refl refl refl
    (unrefused _ c.in_ok-check_cycle.ensures.value) q.others q.clean c.is_clean_for.ensures.chip c.send.ensures.chip in n.image

pub returns-clause-trace : goal.returns-clause-trace
returns-clause-trace g c =
    let s = c.args.self.now in
    let q = c.if-not-is_clean_for.ensures in
    let room : ℕ = g.P.Port.longest s.port - 4 in
    let n = sends s.outline (with_busy true s.outline) (g.P.Port.chip s.port) _ _ room c.args.kind c.args.address c.args.data.now (g.met.P.Port.sound s.port).0 s.intact refl refl refl
    (unrefused _ c.in_ok-check_cycle.ensures.value) q.others q.clean c.is_clean_for.ensures.chip c.send.ensures.chip in (
      looks room c.args.kind c.args.address ++ (enable_frame ∷ cycle_frame c.args.kind c.args.address c.args.data.now ∷ []),
      g.met.P.Port.joins _ _ _ _ _ c.is_clean_for.ensures.trace c.send.ensures.trace,
      n.drives,
    )
