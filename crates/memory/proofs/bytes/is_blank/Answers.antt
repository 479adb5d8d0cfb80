use Rattle.std.proofs.Common.{◌≡◌, ℕ, List, [], ◌∷◌, ◌&&◌, eqb, refl, ap, ◌∙◌, rules}
use borrow.Author.Tests.{tests}
use Rattle.std.specs.List.{list_all}
use Rattle.std.proofs.lemmas.Iterator.{YieldsList-from_slice}
use Rattle.std.proofs.lemmas.Iterator.Search.{all_from_yields_List}
use Rattle.memory.specs.Page.{blank}
use Rattle.memory.proofs.bytes.is_blank.Goals as goal

all_blank : (xs : List ℕ) → list_all (λ x. eqb x 255) xs ≡ blank xs
all_blank [] = refl
all_blank (x ∷ xs) = ap (λ b. eqb x 255 && b) (all_blank xs)

pub returns : goal.returns
returns c =
    all_from_yields_List (λ x. eqb x 255) _ _ _ c.all.ensures.ran (YieldsList-from_slice c.args.bytes.now cc) (λ x b q k. search (rules, tests))
    ∙ all_blank c.args.bytes.now
