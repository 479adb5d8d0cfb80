-- What is not refused is what the memory accepts.
use Rattle.std.proofs.Common.{◌≡◌, ℕ, Bool, true, false, not, ◌&&◌, length, is_some, None, refl, ap, ◌∙◌}
use Rattle.std.proofs.Math.Bool.{and-true}
use Rattle.std.proofs.lemmas.Bool.{eq-eqb}
use Rattle.memory.specs.declared.kind.Kind.{Kind}
use Rattle.memory.specs.declared.kind.Kind.TheVariants.{Program, Alter, Preset, SectorErase, BulkErase}
use Rattle.memory.specs.Shape.{Shape}
use Rattle.memory.specs.Cycle.{cycle_of, permits, accepts}
use Rattle.part.specs.declared.fault.PartFault.{PartFault}
use Rattle.part.specs.declared.fault.PartFault.TheVariants.{Outside, PageData, Busy, Protected, NotBlank}
use Rattle.part.specs.Meaning.{protected_at}
use Rattle.part.specs.Verdict.{Accepting, check, refusal, inside, takes_length, told_address, presets, idle, clean_at}

-- five checks, the third of them passed
checked : (d i f p b : Bool) (x y z v w : PartFault) → d ≡ true
    → not (is_some (check i x (check f y (check d z (check p v (check b w None)))))) ≡ (((i && p) && f) && b)
checked d i f p b x y z v w e = ap (λ t. not (is_some (check i x (check f y (check t z (check p v (check b w None))))))) e ∙ passed i f p b
  where
    passed : (i f p b : Bool) → not (is_some (check i x (check f y (check true z (check p v (check b w None)))))) ≡ (((i && p) && f) && b)
    passed true true true true = refl
    passed true true true false = refl
    passed true true false b = refl
    passed true false true b = refl
    passed true false false b = refl
    passed false f p b = refl

pub unrefused : (m : Shape) (prot : ℕ → Bool) (idle clean : Bool) (kind : Kind) (address n : ℕ) → idle ≡ true
    → not (is_some (refusal m prot idle clean kind address n))
    ≡ (((inside m kind address && permits m prot kind address) && takes_length m kind n) && presets kind clean)
unrefused m prot idle clean kind address n e =
    checked idle (inside m kind address) (takes_length m kind n) (permits m prot kind address) (presets kind clean)
    (Outside address) (PageData n) Busy (Protected (told_address kind address)) (NotBlank address) e

pub accepting : Accepting
accepting m kind address sent due = unrefused m.shape (protected_at m) (idle m) (clean_at m address) kind address (length sent) (eq-eqb _ _ due) ∙ by kind
  where
    by : (kind : Kind) → (((inside m.shape kind address && permits m.shape (protected_at m) kind address) && takes_length m.shape kind (length sent)) && presets kind (clean_at m address))
        ≡ accepts m.shape (protected_at m) (cycle_of kind address sent) m.image
    by Program = and-true _
    by Alter = and-true _
    by Preset = refl
    by SectorErase = and-true _ ∙ and-true _
    by BulkErase = and-true _ ∙ and-true _

-- only a preset looks at its page
pub presets_clean : (kind : Kind) → presets kind true ≡ true
presets_clean Program = refl
presets_clean Alter = refl
presets_clean Preset = refl
presets_clean SectorErase = refl
presets_clean BulkErase = refl
