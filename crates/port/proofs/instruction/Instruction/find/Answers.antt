use Rattle.std.proofs.Common.{◌≡◌, ℕ, List, [], ◌∷◌, Some, cond, eqb, refl, ap, ◌∙◌, rules}
use borrow.Author.Tests.{tests}
use Rattle.std.specs.List.{find}
use Rattle.std.proofs.lemmas.Iterator.{YieldsList-from_slice}
use Rattle.std.proofs.lemmas.Iterator.Search.{find_from_yields_List}
use Rattle.port.specs.declared.instruction.Instruction.{Instruction}
use Rattle.port.specs.Instructions.{table, lookup}
use Rattle.port.proofs.instruction.Instruction.find.Goals as goal

find_looks : (is : List Instruction) (c : ℕ) → find (λ i. eqb i.code c) is ≡ lookup is c
find_looks [] c = refl
find_looks (i ∷ is) c = ap (cond (eqb i.code c) (Some i)) (find_looks is c)

pub returns : goal.returns
unfolding table
returns c =
    c.copied.ensures
    ∙ find_from_yields_List (λ (i : Instruction). eqb i.code c.args.code) _ _ c.find.result c.find.ensures.ran (YieldsList-from_slice table c.iter.ensures.rest) (λ x b q k. search (rules, tests))
    ∙ find_looks table c.args.code
