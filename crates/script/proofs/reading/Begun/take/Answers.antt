use Rattle.std.proofs.Common.{◌≡◌, ℕ, List, Err, subst, sym, ap, ◌∙◌, arith}
use Rattle.script.specs.declared.command.Command.{Command}
use Rattle.script.specs.declared.fault.Fault.TheVariants.{Words}
use Rattle.script.specs.Meaning.{State, later_said}
use Rattle.script.specs.Views.{state_of}
use Rattle.script.specs.Words.{texts}
use Rattle.script.proofs.Arguments.{of_one_at, of_one_not, of_two_at, of_two_not, of_three_at, of_three_not, of_some_at, of_some_not}
use Rattle.script.proofs.Spelled.{nothing}
use Rattle.script.proofs.Steps.{gives_same}
use Rattle.script.proofs.reading.Begun.take.Goals as goal

-- words that do not count as the command wants
wrong : (s : State) (k j : Command) (ws : List (List ℕ)) → k ≡ j → later_said s j ws ≡ Err (Words j) → later_said s k ws ≡ Err (Words k)
wrong s k j ws e h = subst (λ i. later_said s i ws ≡ Err (Words i)) (sym e) h

-- at a command that is known
known : (s : State) (k j : Command) (ws : List (List ℕ)) → k ≡ j → later_said s k ws ≡ later_said s j ws
known s k j ws e = ap (λ i. later_said s i ws) e

pub returns-in-Chip-len3 : goal.returns-in-Chip-len3
unfolding later_said
returns-in-Chip-len3 c =
    λ _. known (state_of c.args.self.now) _ _ (texts c.args.arguments.now) c.in-Chip-len3.is-0 ∙ of_three_at c.args.arguments.now nothing _ _ (omega arith)

pub returns-in-Image-len1-up : goal.returns-in-Image-len1-up
unfolding later_said
returns-in-Image-len1-up c =
    gives_same _ c.lay_image.result _ _ c.lay_image.ensures (known (state_of c.args.self.now) _ _ (texts c.args.arguments.now) c.in-Image-len1-up.is-0 ∙ of_some_at c.args.arguments.now nothing _ _ (omega arith))

pub returns-in-Room-len2 : goal.returns-in-Room-len2
unfolding later_said
returns-in-Room-len2 c =
    gives_same _ c.set_room.result _ _ c.set_room.ensures (known (state_of c.args.self.now) _ _ (texts c.args.arguments.now) c.in-Room-len2.is-0 ∙ of_two_at c.args.arguments.now nothing _ _ (omega arith))

pub returns-in-Limit-len1 : goal.returns-in-Limit-len1
unfolding later_said
returns-in-Limit-len1 c =
    gives_same _ c.set_limit.result _ _ c.set_limit.ensures (known (state_of c.args.self.now) _ _ (texts c.args.arguments.now) c.in-Limit-len1.is-0 ∙ of_one_at c.args.arguments.now nothing _ _ (omega arith))

pub returns-in-Close-len1 : goal.returns-in-Close-len1
unfolding later_said
returns-in-Close-len1 c =
    gives_same _ c.close.result _ _ c.close.ensures (known (state_of c.args.self.now) _ _ (texts c.args.arguments.now) c.in-Close-len1.is-0 ∙ of_one_at c.args.arguments.now nothing _ _ (omega arith))

pub returns-in-Open-len1 : goal.returns-in-Open-len1
unfolding later_said
returns-in-Open-len1 c =
    gives_same _ c.open.result _ _ c.open.ensures (known (state_of c.args.self.now) _ _ (texts c.args.arguments.now) c.in-Open-len1.is-0 ∙ of_one_at c.args.arguments.now nothing _ _ (omega arith))

pub returns-in-Read-len2 : goal.returns-in-Read-len2
unfolding later_said
returns-in-Read-len2 c =
    gives_same _ c.read.result _ _ c.read.ensures (known (state_of c.args.self.now) _ _ (texts c.args.arguments.now) c.in-Read-len2.is-0 ∙ of_two_at c.args.arguments.now nothing _ _ (omega arith))

pub returns-in-Write-len1-up : goal.returns-in-Write-len1-up
unfolding later_said
returns-in-Write-len1-up c =
    gives_same _ c.write.result _ _ c.write.ensures (known (state_of c.args.self.now) _ _ (texts c.args.arguments.now) c.in-Write-len1-up.is-0 ∙ of_some_at c.args.arguments.now nothing _ _ (omega arith))

pub returns-in_default : goal.returns-in_default
unfolding later_said
returns-in_default c = λ _. wrong _ _ _ _ c.in_default.is-0 (of_three_not c.args.arguments.now _ _ (λ e. omega arith))

pub returns-in_default-2 : goal.returns-in_default-2
unfolding later_said
returns-in_default-2 c = λ _. wrong _ _ _ _ c.in_default.is-0 (of_three_not c.args.arguments.now _ _ (λ e. omega arith))

pub returns-in_default-3 : goal.returns-in_default-3
unfolding later_said
returns-in_default-3 c = λ _. wrong _ _ _ _ c.in_default.is-0 (of_some_not c.args.arguments.now _ _ (omega arith))

pub returns-in_default-4 : goal.returns-in_default-4
unfolding later_said
returns-in_default-4 c = λ _. wrong _ _ _ _ c.in_default.is-0 (of_two_not c.args.arguments.now _ _ (λ e. omega arith))

pub returns-in_default-5 : goal.returns-in_default-5
unfolding later_said
returns-in_default-5 c = λ _. wrong _ _ _ _ c.in_default.is-0 (of_two_not c.args.arguments.now _ _ (λ e. omega arith))

pub returns-in_default-6 : goal.returns-in_default-6
unfolding later_said
returns-in_default-6 c = λ _. wrong _ _ _ _ c.in_default.is-0 (of_one_not c.args.arguments.now _ _ (λ e. omega arith))

pub returns-in_default-7 : goal.returns-in_default-7
unfolding later_said
returns-in_default-7 c = λ _. wrong _ _ _ _ c.in_default.is-0 (of_one_not c.args.arguments.now _ _ (λ e. omega arith))

pub returns-in_default-8 : goal.returns-in_default-8
unfolding later_said
returns-in_default-8 c = λ _. wrong _ _ _ _ c.in_default.is-0 (of_one_not c.args.arguments.now _ _ (λ e. omega arith))

pub returns-in_default-9 : goal.returns-in_default-9
unfolding later_said
returns-in_default-9 c = λ _. wrong _ _ _ _ c.in_default.is-0 (of_one_not c.args.arguments.now _ _ (λ e. omega arith))

pub returns-in_default-10 : goal.returns-in_default-10
unfolding later_said
returns-in_default-10 c = λ _. wrong _ _ _ _ c.in_default.is-0 (of_one_not c.args.arguments.now _ _ (λ e. omega arith))

pub returns-in_default-11 : goal.returns-in_default-11
unfolding later_said
returns-in_default-11 c = λ _. wrong _ _ _ _ c.in_default.is-0 (of_one_not c.args.arguments.now _ _ (λ e. omega arith))

pub returns-in_default-12 : goal.returns-in_default-12
unfolding later_said
returns-in_default-12 c = λ _. wrong _ _ _ _ c.in_default.is-0 (of_two_not c.args.arguments.now _ _ (λ e. omega arith))

pub returns-in_default-13 : goal.returns-in_default-13
unfolding later_said
returns-in_default-13 c = λ _. wrong _ _ _ _ c.in_default.is-0 (of_two_not c.args.arguments.now _ _ (λ e. omega arith))

pub returns-in_default-14 : goal.returns-in_default-14
unfolding later_said
returns-in_default-14 c = λ _. wrong _ _ _ _ c.in_default.is-0 (of_some_not c.args.arguments.now _ _ (omega arith))
