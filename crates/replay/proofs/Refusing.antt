-- What is printed of a frame that the chip refuses.
use Rattle.std.proofs.Common.{◌≡◌, ℕ, ◌++◌, Bool, true, false, cond, List, [], ◌∷◌, Ok, Err, Result, refl, ap, ◌∙◌, sym, arith}
use Rattle.std.specs.Fmt.{decimal, digits}
use Rattle.memory.specs.Row.{Row}
use Rattle.memory.specs.Reports.{cause_number, reported}
use Rattle.memory.specs.declared.report.Report.{Report}
use Rattle.port.specs.Rows.{row}
use Rattle.port.specs.declared.fault.PortFault.{PortFault}
use Rattle.port.specs.declared.fault.PortFault.TheVariants.{TooLong}
use Rattle.replay.specs.Shown.{shown, too_long}

ten : decimal 10 ≡ 49 ∷ 48 ∷ []
unfolding digits
ten = refl

number_is : (f : PortFault) (r : Report) → reported r ≡ row f → cause_number r.cause ≡ 10
number_is (TooLong longest) r e = ap (λ (x : Row). x.number) e

refuses : (fits : Bool) (f g : PortFault) → ◌≡◌ {A = Result (Unit {0}) PortFault} (Err f) (cond fits (Ok tt) (Err g)) → fits ≡ false
refuses true f g e = absurd (let z : ◌≡◌ {A = ℕ} 0 1 = cc in omega arith)
refuses false f g e = refl

-- its line, with the number that its report has
pub refused_line : (fits : Bool) (f g : PortFault) (r : Report) (back : List ℕ) (number : ℕ) → ◌≡◌ {A = Result (Unit {0}) PortFault} (Err f) (cond fits (Ok tt) (Err g))
    → reported r ≡ row f → number ≡ cause_number r.cause → 69 ∷ (decimal number ++ 10 ∷ []) ≡ cond fits (shown back) too_long ++ 10 ∷ []
refused_line fits f g r back number e n k =
    ap (λ x. 69 ∷ (decimal x ++ 10 ∷ [])) (k ∙ number_is f r n)
    ∙ ap (λ w. 69 ∷ (w ++ 10 ∷ [])) ten
    ∙ sym (ap (λ b. cond b (shown back) too_long ++ 10 ∷ []) (refuses fits f g e))
