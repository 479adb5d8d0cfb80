use Rattle.std.proofs.Common.{◌≡◌, Err, Some, None, Option, option_map, sym, ap, ◌∙◌, arith}
use Rattle.std.proofs.lemmas.Result.{err_from_is_err_and}
use Rattle.port.specs.declared.fault.ChipMaking.{ChipMaking}
use Rattle.script.specs.declared.fault.Fault.{Fault}
use Rattle.script.specs.declared.fault.Fault.TheVariants.{Making}
use Rattle.script.specs.Meaning.{State, first_said, unless}
use Rattle.script.specs.Views.{state_of}
use Rattle.script.specs.Words.{texts}
use Rattle.script.proofs.Arguments.{of_three_at}
use Rattle.script.proofs.Spelled.{nothing}
use Rattle.script.proofs.Steps.{after_ok, after_err, gives_err}
use Rattle.script.proofs.reading.Begun.new.Goals as goal

unless_err : (why : Option ChipMaking) (s : State) (fault : Fault) → option_map Making why ≡ Some fault → unless why s ≡ Err fault
unless_err None s fault e = absurd (cc)
unless_err (Some making) s fault e = let same : Making making ≡ fault = cc in ap Err same

pub returns-in_err-byte-in-Chip-len3 : goal.returns-in_err-byte-in-Chip-len3
unfolding first_said
returns-in_err-byte-in-Chip-len3 c =
    let p = err_from_is_err_and c.from_residual.result c.from_residual.ensures.1 in
    gives_err state_of c.from_residual.result p.0 _ p.1
    (λ h. ap (λ k. first_said k (texts c.args.arguments.now)) c.in-Chip-len3.is-0 ∙ of_three_at c.args.arguments.now nothing _ _ (omega arith)
    ∙ after_err _ c.in_err-byte-in-Chip-len3.field-0.0 _ (sym c.in_err-byte-in-Chip-len3.ensures) ∙ ap Err (sym p.2))

pub returns-in_err-byte-in-Chip-len3-2 : goal.returns-in_err-byte-in-Chip-len3-2
unfolding first_said
returns-in_err-byte-in-Chip-len3-2 c =
    let r = c.from_residual-in_err-byte-in-Chip-len3-2 in
    let p = err_from_is_err_and r.result r.ensures.1 in
    gives_err state_of r.result p.0 _ p.1
    (λ h. ap (λ k. first_said k (texts c.args.arguments.now)) c.in-Chip-len3.is-0 ∙ of_three_at c.args.arguments.now nothing _ _ (omega arith)
    ∙ after_ok _ _ _ (sym c.in_ok-byte-in-Chip-len3.ensures)
    ∙ after_err _ c.in_err-byte-in-Chip-len3-2.field-0.0 _ (sym c.in_err-byte-in-Chip-len3-2.ensures) ∙ ap Err (sym p.2))

pub returns-in_err-chip-in-Chip-len3 : goal.returns-in_err-chip-in-Chip-len3
unfolding first_said
returns-in_err-chip-in-Chip-len3 c =
    let r = c.from_residual-in_err-chip-in-Chip-len3 in
    let p = err_from_is_err_and r.result r.ensures.1 in
    gives_err state_of r.result p.0 _ p.1
    (λ h. ap (λ k. first_said k (texts c.args.arguments.now)) c.in-Chip-len3.is-0 ∙ of_three_at c.args.arguments.now nothing _ _ (omega arith)
    ∙ after_ok _ _ _ (sym c.in_ok-byte-in-Chip-len3.ensures) ∙ after_ok _ _ _ (sym c.in_ok-byte-in-Chip-len3-2.ensures) ∙ after_ok _ _ _ (sym c.in_ok-decimal-in-Chip-len3.ensures)
    ∙ unless_err _ _ c.in_err-chip-in-Chip-len3.field-0.0 (c.in_err-chip-in-Chip-len3.ensures (λ z. h (p.2 ∙ z))) ∙ ap Err (sym p.2))
