use Rattle.std.proofs.Common.{◌≡◌, ℕ, ◌<◌, List, [], ◌∷◌, length, Ok, Option, Bor, refl, arith}
use Rattle.script.specs.Meaning.{State, words_said}
use Rattle.script.specs.Words.{texts}
use Rattle.script.proofs.reading.Reading.take.Goals as goal

no_words : (p : Option State) (ws : List (Bor (List ℕ))) → length ws < 1 → words_said p (texts ws) ≡ Ok p
unfolding words_said
no_words p [] h = refl
no_words p (w ∷ ws) h = absurd (omega arith)

pub returns-in_default : goal.returns-in_default
returns-in_default c = no_words _ c.args.words.now c.in_default.len_below
