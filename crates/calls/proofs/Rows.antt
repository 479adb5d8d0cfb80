-- A write's refusal by its row.
use Rattle.std.proofs.Common.{◌≡◌, ℕ, cond, eqb, get_or, sym, refl, ap, ◌∙◌}
use Rattle.memory.specs.Row.{Row}
use Rattle.writing.specs.declared.fault.WriteFault.{WriteFault}
use Rattle.writing.specs.declared.fault.WriteFault.TheVariants.{Limit, Outside, StillBusy, Protected, StepsShort, DataShort, Abandoned}
use Rattle.writing.specs.WriteRows.{row}

-- the fault of a row
abbrev told_by : Row → WriteFault
told_by r =
    let v = get_or r.values 0 0 in
    let cost : ℕ × ℕ = (v, get_or r.values 1 0) in
    cond (eqb r.number 1) (Outside v)
    (cond (eqb r.number 3) (StillBusy v)
    (cond (eqb r.number 4) (Protected v)
    (cond (eqb r.number 6) (StepsShort cost)
    (cond (eqb r.number 7) (DataShort cost)
    (cond (eqb r.number 8) (Abandoned v)
    (Limit v))))))

told-by_row : (f : WriteFault) → told_by (row f) ≡ f
told-by_row (Limit n) = refl
told-by_row (Outside n) = refl
told-by_row (StillBusy n) = refl
told-by_row (Protected n) = refl
told-by_row (StepsShort c) = refl
told-by_row (DataShort c) = refl
told-by_row (Abandoned n) = refl

-- no two faults have one row
pub same_row : (f g : WriteFault) → row f ≡ row g → f ≡ g
same_row f g e = sym (told-by_row f) ∙ (ap told_by e ∙ told-by_row g)
