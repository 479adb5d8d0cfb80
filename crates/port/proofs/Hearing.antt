-- Write enable and a status read, as the chip hears them.
use Rattle.std.proofs.Common.{◌≡◌, eqb, [], length, refl, ap, ◌∙◌}
use Rattle.std.proofs.lemmas.Bool.{cond_both, cond-true, eq-eqb}
use Rattle.port.specs.declared.instruction.Operation.TheVariants.{WriteEnable, ReadStatus}
use Rattle.port.specs.Instructions.{table}
use Rattle.port.specs.Build.{built, listed}
use Rattle.port.specs.Chip.{Chip}
use Rattle.port.specs.Asks.{enable, status, heard, ordered}
use Rattle.port.specs.Machine.{frame, hears}

pub enable-ordered : ordered (built WriteEnable 0 []) 0 ≡ enable
unfolding table listed built
enable-ordered = refl

pub status-ordered : ordered (built ReadStatus 0 []) 1 ≡ status
unfolding table listed built
status-ordered = refl

pub enable-heard : (c : Chip) → c.busy ≡ 0 → hears c (frame (built WriteEnable 0 []) 0) ≡ enable
enable-heard c b = ap (heard c.busy (length c.image)) enable-ordered ∙ cond-true _ _ _ (eq-eqb _ _ b)

-- busy or not
pub status-heard : (c : Chip) → hears c (frame (built ReadStatus 0 []) 1) ≡ status
status-heard c =
    ap (heard c.busy (length c.image)) status-ordered
    ∙ cond_both (eqb c.busy 0) status status (λ o. o ≡ status) (λ _. refl) (λ _. refl)
