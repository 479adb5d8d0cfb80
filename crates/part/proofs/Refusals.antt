-- Refusals by an outline and by the meaning that it outlines, and what a cycle that is not refused has passed.
use Rattle.std.proofs.Common.{◌≡◌, ℕ, ◌+◌, ◌≤◌, Bool, true, false, not, leb, List, length, get_or, is_some, Some, None, Ok, Err, Option, sym, refl, ap, ◌∙◌, ap₂}
use Rattle.std.proofs.lemmas.Bool.{eqb-true, leb-true, cond-true}
use Rattle.std.proofs.lemmas.Option.{none-some}
use Rattle.memory.specs.declared.kind.Kind.{Kind}
use Rattle.memory.specs.declared.kind.Kind.TheVariants.{Program, Alter, Preset, SectorErase, BulkErase}
use Rattle.memory.specs.Shape.{Shape, size}
use Rattle.memory.specs.Cycle.{cycle_of, permits, accepts, effect}
use Rattle.memory.specs.Image.{carried, reaches}
use Rattle.part.specs.declared.fault.PartFault.{PartFault}
use Rattle.part.specs.declared.fault.PartFault.TheVariants.{Outside, PageData, Busy, Protected, NotBlank}
use Rattle.part.specs.declared.outline.Outline.{Outline}
use Rattle.part.specs.Meaning.{Meaning, protected_at}
use Rattle.part.specs.Outline.{Outlines, outlined, guarding}
use Rattle.part.specs.Verdict.{check, refusal, read_refusal, inside, takes_length, told_address, presets, idle, clean_at, verdict, read_verdict, told}
use Rattle.part.proofs.Accepting.{accepting, presets_clean}

-- what is told, and why
pub unrefused : (o : Option PartFault) → Ok tt ≡ told o → None ≡ o
unrefused None e = refl
unrefused (Some f) e = cc

pub refused : (o : Option PartFault) (f : PartFault) → Err f ≡ told o → o ≡ Some f
refused None f e = cc
refused (Some g) f e = cc

-- four checks and a last one
abbrev five : (i f d p b : Bool) (x y z v w : PartFault) → Option PartFault
five i f d p b x y z v w = check i x (check f y (check d z (check p v (check b w None))))

-- each check was passed
pub record Passes (i f d p : Bool) : Type 0 where
  pub inside : i ≡ true
  pub takes_length : f ≡ true
  pub idle : d ≡ true
  pub permits : p ≡ true

passed : (i f d p b : Bool) (x y z v w : PartFault) → five i f d p b x y z v w ≡ None → Passes i f d p
passed true true true true b x y z v w e = record { inside = refl; takes_length = refl; idle = refl; permits = refl }
passed true true true false b x y z v w e = absurd (none-some v (sym e))
passed true true false p b x y z v w e = absurd (none-some z (sym e))
passed true false d p b x y z v w e = absurd (none-some y (sym e))
passed false f d p b x y z v w e = absurd (none-some x (sym e))

late : (i f d p b : Bool) (x y z v w : PartFault) → five i f d p true x y z v w ≡ None → five i f d p b x y z v w ≡ check b w None
late true true true true b x y z v w e = refl
late true true true false b x y z v w e = absurd (none-some v (sym e))
late true true false p b x y z v w e = absurd (none-some z (sym e))
late true false d p b x y z v w e = absurd (none-some y (sym e))
late false f d p b x y z v w e = absurd (none-some x (sym e))

module _ (m : Shape) (prot : ℕ → Bool) (idle : Bool) (kind : Kind) (address n : ℕ) where
  abbrev with : Bool → Option PartFault
  with b = five (inside m kind address) (takes_length m kind n) idle (permits m prot kind address) b (Outside address) (PageData n) Busy (Protected (told_address kind address)) (NotBlank address)

  pub refused_late : (clean : Bool) → refusal m prot idle true kind address n ≡ None
      → refusal m prot idle clean kind address n ≡ check (presets kind clean) (NotBlank address) None
  refused_late clean e =
      late (inside m kind address) (takes_length m kind n) idle (permits m prot kind address) (presets kind clean) (Outside address) (PageData n) Busy
      (Protected (told_address kind address)) (NotBlank address) (sym (ap with (presets_clean kind)) ∙ e)

  pub all_passed : (clean : Bool) → refusal m prot idle clean kind address n ≡ None
      → Passes (inside m kind address) (takes_length m kind n) idle (permits m prot kind address)
  all_passed clean e =
      passed (inside m kind address) (takes_length m kind n) idle (permits m prot kind address) (presets kind clean) (Outside address) (PageData n) Busy
      (Protected (told_address kind address)) (NotBlank address) e

  pub done_all : (clean : Bool) → refusal m prot idle true kind address n ≡ None → presets kind clean ≡ true → refusal m prot idle clean kind address n ≡ None
  done_all clean e t = refused_late clean e ∙ cond-true _ _ _ t

-- an outline refuses as the meaning does
pub outlines_read : (o : Outline) (m : Meaning) (address n : ℕ) → Outlines o m → read_refusal (outlined o) (not o.busy) address n ≡ read_verdict m address n
outlines_read o m address n e = ap₂ (λ s x. read_refusal s x address n) e.shape e.idle

pub outlines_cycle : (o : Outline) (m : Meaning) (kind : Kind) (address n : ℕ) → Outlines o m
    → refusal (outlined o) (guarding o) (not o.busy) true kind address n ≡ refusal m.shape (protected_at m) (idle m) true kind address n
outlines_cycle o m kind address n e =
    ap₂ (λ s x. refusal s (guarding o) x true kind address n) e.shape e.idle
    ∙ ap (λ l. refusal m.shape (λ k. get_or l k false) (idle m) true kind address n) e.guarded

-- a cycle that passes is accepted, and has its whole effect
pub accepted : (m : Meaning) (kind : Kind) (address : ℕ) (sent : List ℕ) → verdict m kind address sent ≡ None
    → accepts m.shape (protected_at m) (cycle_of kind address sent) m.image ≡ true
accepted m kind address sent e =
    let p = all_passed m.shape (protected_at m) (idle m) kind address (length sent) (clean_at m address) e in
    sym (accepting m kind address sent (eqb-true _ _ p.idle)) ∙ ap (λ v. not (is_some v)) e

reached : (m : Shape) (kind : Kind) (address : ℕ) (sent : List ℕ) → inside m kind address ≡ true → reaches (size m) (cycle_of kind address sent) ≡ true
reached m Program address sent h = h
reached m Alter address sent h = h
reached m Preset address sent h = h
reached m SectorErase address sent h = h
reached m BulkErase address sent h = refl

pub reaches_in : (m : Shape) (n : ℕ) (kind : Kind) (address : ℕ) (sent : List ℕ) → n ≡ size m → inside m kind address ≡ true → reaches n (cycle_of kind address sent) ≡ true
reaches_in m n kind address sent e h = ap (λ x. reaches x (cycle_of kind address sent)) e ∙ reached m kind address sent h

pub carried_in : (m : Shape) (image : List ℕ) (kind : Kind) (address : ℕ) (sent : List ℕ) → length image ≡ size m → inside m kind address ≡ true
    → carried m (cycle_of kind address sent) image ≡ effect m (cycle_of kind address sent) image
carried_in m image kind address sent l h = cond-true _ _ _ (reaches_in m (length image) kind address sent l h)

-- what a done read has passed
read_passed : (i d : Bool) (address : ℕ) → check i (Outside address) (check d Busy None) ≡ None → (i ≡ true) × (d ≡ true)
read_passed true true address e = (refl, refl)
read_passed true false address e = absurd (none-some Busy (sym e))
read_passed false d address e = absurd (none-some (Outside address) (sym e))

pub read-inside : (m : Shape) (idle : Bool) (address n : ℕ) → read_refusal m idle address n ≡ None → (address + n ≤ size m) × (idle ≡ true)
read-inside m idle address n e =
    let p = read_passed (leb (address + n) (size m)) idle address e in (leb-true _ _ p.0, p.1)
