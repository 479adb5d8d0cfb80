-- The frames of steps, and their text.
use Rattle.std.proofs.Common.{◌≡◌, ℕ, zero, suc, ◌+◌, ◌*◌, ◌<◌, ◌≤◌, Bool, true, false, cond, List, [], ◌∷◌, ◌++◌, length, get_or, take, drop, Some, None, Option, sym, refl, ap, ◌∙◌, subst, ap₂, arith, lit≤, length-append, length-take}
use Rattle.std.proofs.Math.Nat.{suc-ne-zero}
use Rattle.std.proofs.lemmas.List.{append-nil, map-append, drop_more, take_more, take-append-drop}
use Rattle.std.proofs.lemmas.Bool.{and_parts, leb-true, ltb-true}
use Rattle.memory.specs.declared.kind.Kind.{Kind}
use Rattle.memory.specs.declared.kind.Kind.TheVariants.{Program, Alter, Preset, SectorErase, BulkErase}
use Rattle.memory.specs.Page.{block}
use Rattle.memory.specs.Cycle.{Cycle, cycle_of}
use Rattle.port.specs.declared.instruction.Operation.{Operation}
use Rattle.port.specs.declared.instruction.Operation.TheVariants as of_operation
use Rattle.port.specs.declared.instruction.Instruction.{Instruction}
use Rattle.port.specs.Instructions.{table}
use Rattle.port.specs.Build.{built, listed, carried_by}
use Rattle.port.specs.Operations.{operation_of}
use Rattle.port.proofs.Building.{length-built, length-enable}
use Rattle.least.specs.declared.step.Step.{Step}
use Rattle.least.specs.Steps.{step_cycle, cycles_of, sent_by}
use Rattle.listing.specs.declared.plan_fault.PlanListingFault.{PlanListingFault}
use Rattle.listing.specs.Parts.{exchange}
use Rattle.listing.specs.PlanFault.{lies, filled, unlisted, or_else, first_unlisted}
use Rattle.listing.specs.PlanFrames.{enabling, sending, plan_frames, plan_text}
use Rattle.listing.specs.declared.sheet.Sheet.{Sheet}
use Rattle.listing.specs.Sheets.{Room, Wrote}
use Rattle.listing.specs.Writing.{line_text, listing}
use Rattle.listing.proofs.Keeping.{listing_join}
use Rattle.listing.proofs.Laying.{line-size, spaced-size}
use Rattle.listing.proofs.Sheets.{room_first, room_next, wrote_join}

-- the frame of a step's cycle, as the builder is asked for it
pub step-frame : (kind : Kind) (a : ℕ) (s : List ℕ) → sending (cycle_of kind a s) ≡ exchange (built (operation_of kind) a (sent_by (cycle_of kind a s))) 0
unfolding table listed built
step-frame Program a s = refl
step-frame Alter a s = refl
step-frame Preset a s = refl
step-frame SectorErase a s = refl
step-frame BulkErase a s = refl

carried-sent : (kind : Kind) (a : ℕ) (s : List ℕ) → carried_by (listed (operation_of kind)).has_data (sent_by (cycle_of kind a s)) ≡ sent_by (cycle_of kind a s)
unfolding table listed
carried-sent Program a s = refl
carried-sent Alter a s = refl
carried-sent Preset a s = refl
carried-sent SectorErase a s = refl
carried-sent BulkErase a s = refl

head_most : (kind : Kind) → 1 + (listed (operation_of kind)).address_bytes + (listed (operation_of kind)).dummy_bytes ≤ 4
unfolding table listed
head_most Program = lit≤ tt
head_most Alter = lit≤ tt
head_most Preset = lit≤ tt
head_most SectorErase = lit≤ tt
head_most BulkErase = lit≤ tt

-- its length, by the row of the table
pub frame-size : (kind : Kind) (i : Instruction) (a : ℕ) (s : List ℕ) → i ≡ listed (operation_of kind)
    → (length (built (operation_of kind) a (sent_by (cycle_of kind a s))) ≡ 1 + i.address_bytes + i.dummy_bytes + length (sent_by (cycle_of kind a s))) × (1 + i.address_bytes + i.dummy_bytes ≤ 4)
frame-size kind i a s e =
    let l = length-built (operation_of kind) i a (sent_by (cycle_of kind a s)) e in
    let c : length (carried_by i.has_data (sent_by (cycle_of kind a s))) ≡ length (sent_by (cycle_of kind a s)) =
    ap (λ (x : Instruction). length (carried_by x.has_data (sent_by (cycle_of kind a s)))) e ∙ ap length (carried-sent kind a s) in
    (omega arith, subst (λ (x : Instruction). 1 + x.address_bytes + x.dummy_bytes ≤ 4) (sym e) (head_most kind))

pub some_bytes : (o : Operation) (a : ℕ) (s : List ℕ) → 0 < length (built o a s)
some_bytes o a s = let l = length-built o (listed o) a s refl in omega arith

-- a step that is listed
passed : (a b : Bool) (x y : PlanListingFault) → cond a (cond b None (Some y)) (Some x) ≡ None → (a ≡ true) × (b ≡ true)
passed true true x y e = (refl, refl)
passed true false x y e = absurd (suc-ne-zero 0 cc)
passed false b x y e = absurd (suc-ne-zero 0 cc)

module _ (sent : List ℕ) (s : Step) (ok : unlisted sent s ≡ None) where
  pub is_filled : filled s.kind (lies s.place s.length (length sent)) ≡ true
  is_filled = (passed _ _ _ _ ok).1

  page : lies s.place s.length (length sent) ≡ true → (0 < s.length) × (s.length ≤ 64) × (s.place + s.length ≤ length sent)
  page e =
      let p = and_parts _ _ e in
      let q = and_parts _ _ p.0 in (ltb-true _ _ q.0, leb-true _ _ q.1, leb-true _ _ p.1)

  most : (kind : Kind) → filled kind (lies s.place s.length (length sent)) ≡ true → length (sent_by (cycle_of kind s.address (block s.place s.length sent))) ≤ 64
  most Program e = let p = page e in let l = length-take s.length (drop s.place sent) in omega arith
  most Alter e = let p = page e in let l = length-take s.length (drop s.place sent) in omega arith
  most Preset e = let p = page e in let l = length-take s.length (drop s.place sent) in omega arith
  most SectorErase e = lit≤ tt
  most BulkErase e = lit≤ tt

  pub sent_most : length (sent_by (step_cycle sent s)) ≤ 64
  sent_most = most s.kind is_filled

-- steps of which none is refused
or_none : (o p : Option PlanListingFault) → or_else o p ≡ None → (o ≡ None) × (p ≡ None)
or_none None p e = (refl, e)
or_none (Some f) p e = absurd (suc-ne-zero 0 cc)

pub unlisted_at : (sent : List ℕ) (steps : List Step) (i : ℕ) (d : Step) → first_unlisted sent steps ≡ None → i < length steps → unlisted sent (get_or steps i d) ≡ None
unlisted_at sent [] i d e h = absurd (omega arith)
unlisted_at sent (s ∷ steps) zero d e h = (or_none _ _ e).0
unlisted_at sent (s ∷ steps) (suc i) d e h = unlisted_at sent steps i d (or_none (unlisted sent s) _ e).1 (omega arith)

pub first_on : (sent : List ℕ) (steps : List Step) (i : ℕ) (d : Step) → i < length steps → unlisted sent (get_or steps i d) ≡ None
    → first_unlisted sent (drop i steps) ≡ first_unlisted sent (drop (i + 1) steps)
first_on sent steps i d h e = ap (first_unlisted sent) (drop_more steps i d h) ∙ ap (λ o. or_else o (first_unlisted sent (drop (i + 1) steps))) e

-- a line of bytes and nothing wanted back
pub line-bytes : (w : List ℕ) → 0 < length w → length (line_text (exchange w 0)) ≡ 3 * length w
line-bytes [] h = absurd (omega arith)
line-bytes (b ∷ bs) h = let l = line-size b bs 0 in let n = spaced-size bs in omega arith

-- the two lines of a step
pub step-text : (sent : List ℕ) (s : Step) → plan_text sent (s ∷ []) ≡ line_text enabling ++ line_text (sending (step_cycle sent s))
unfolding listing
step-text sent s = ap (λ y. line_text enabling ++ y) (append-nil (line_text (sending (step_cycle sent s))))

frames_join : (xs ys : List Cycle) → plan_frames (xs ++ ys) ≡ plan_frames xs ++ plan_frames ys
frames_join [] ys = refl
frames_join (x ∷ xs) ys = ap (λ l. enabling ∷ sending x ∷ l) (frames_join xs ys)

pub text_join : (sent : List ℕ) (a b : List Step) → plan_text sent (a ++ b) ≡ plan_text sent a ++ plan_text sent b
text_join sent a b =
    ap (λ l. listing (plan_frames l)) (map-append (step_cycle sent) a b)
    ∙ ap listing (frames_join (cycles_of sent a) (cycles_of sent b))
    ∙ listing_join (plan_frames (cycles_of sent a)) (plan_frames (cycles_of sent b))

pub text_none : (sent : List ℕ) → plan_text sent [] ≡ []
unfolding listing
text_none sent = refl

-- one more step
text_more : (sent : List ℕ) (steps : List Step) (i : ℕ) (d : Step) → i < length steps
    → plan_text sent (take (i + 1) steps) ≡ plan_text sent (take i steps) ++ plan_text sent (get_or steps i d ∷ [])
text_more sent steps i d h = ap (plan_text sent) (take_more steps i d h) ∙ text_join sent (take i steps) (get_or steps i d ∷ [])

pub size_more : (sent : List ℕ) (steps : List Step) (i : ℕ) (d : Step) (n : ℕ) → i < length steps → n ≡ length (plan_text sent (get_or steps i d ∷ []))
    → length (plan_text sent (take (i + 1) steps)) ≡ length (plan_text sent (take i steps)) + n
size_more sent steps i d n h e =
    ap length (text_more sent steps i d h) ∙ length-append (plan_text sent (take i steps)) (plan_text sent (get_or steps i d ∷ [])) ∙ ap (λ k. length (plan_text sent (take i steps)) + k) (sym e)

-- written behind those before it
module _ (sent : List ℕ) (steps : List Step) (i : ℕ) (d : Step) {p q : Sheet} (h : i < length steps) (r : Room p (plan_text sent steps))
    (w : Wrote p q (plan_text sent (take i steps))) where
  up_to : Room p (plan_text sent (take (i + 1) steps))
  up_to =
      let e = ap (plan_text sent) (sym (take-append-drop (i + 1) steps)) ∙ text_join sent (take (i + 1) steps) (drop (i + 1) steps) in
      room_first p (plan_text sent (take (i + 1) steps)) (plan_text sent (drop (i + 1) steps)) e r

  pub step_room : Room q (plan_text sent (get_or steps i d ∷ []))
  step_room = room_next (plan_text sent (get_or steps i d ∷ [])) (text_more sent steps i d h) up_to w

  pub step_turn : {s : Sheet} → Wrote q s (plan_text sent (get_or steps i d ∷ [])) → Wrote p s (plan_text sent (take (i + 1) steps))
  step_turn v = wrote_join (text_more sent steps i d h) up_to w v

-- the lengths of a step's lines
pub step-size : (sent : List ℕ) (s : Step)
    → length (plan_text sent (s ∷ [])) ≡ 3 + 3 * length (built (operation_of s.kind) s.address (sent_by (step_cycle sent s)))
step-size sent s =
    let f = built (operation_of s.kind) s.address (sent_by (step_cycle sent s)) in
    let t = ap length (step-text sent s) ∙ length-append (line_text enabling) (line_text (sending (step_cycle sent s))) in
    let a = line-bytes (built of_operation.WriteEnable 0 []) (some_bytes of_operation.WriteEnable 0 []) in
    let e = length-enable in
    let b = ap (λ x. length (line_text x)) (step-frame s.kind s.address (block s.place s.length sent)) ∙ line-bytes f (some_bytes (operation_of s.kind) s.address (sent_by (step_cycle sent s))) in omega arith

-- the frame that is built for a step's cycle
module _ (sent : List ℕ) (s : Step) (o : Operation) (bytes : List ℕ) (e : o ≡ operation_of s.kind) (b : bytes ≡ sent_by (step_cycle sent s)) where
  pub built_for : exchange (built o s.address bytes) 0 ≡ sending (step_cycle sent s)
  built_for =
      ap₂ (λ x y. exchange (built x s.address y) 0) e b ∙ sym (step-frame s.kind s.address (block s.place s.length sent))

  pub built-size : unlisted sent s ≡ None → (length (built o s.address bytes) ≤ 68) × (length (plan_text sent (s ∷ [])) ≡ 3 + length (line_text (exchange (built o s.address bytes) 0)))
  built-size ok =
      let f = frame-size s.kind (listed (operation_of s.kind)) s.address (block s.place s.length sent) refl in
      let m = sent_most sent s ok in
      let g = ap₂ (λ x y. length (built x s.address y)) e b in
      let l = line-bytes (built o s.address bytes) (some_bytes o s.address bytes) in
      let t = step-size sent s in (omega arith, omega arith)

-- the length of a step's lines, by the row of the table and the data
pub step-lines : (sent : List ℕ) (s : Step) (i : Instruction) (o : Operation) (bytes : List ℕ) → unlisted sent s ≡ None → i ≡ listed o → o ≡ operation_of s.kind → bytes ≡ sent_by (step_cycle sent s)
    → (length (plan_text sent (s ∷ [])) ≡ 3 + 3 * (1 + i.address_bytes + i.dummy_bytes + length bytes)) × (1 + i.address_bytes + i.dummy_bytes ≤ 4) × (length bytes ≤ 64)
step-lines sent s i o bytes ok r e b =
    let f = frame-size s.kind i s.address (block s.place s.length sent) (r ∙ ap listed e) in
    let n = ap length b in
    let m = sent_most sent s ok in
    let t = step-size sent s in (omega arith, f.1, omega arith)
