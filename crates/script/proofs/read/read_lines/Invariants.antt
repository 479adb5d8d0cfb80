use Rattle.std.proofs.Common.{◌≡◌, ℕ, ◌+◌, ◌<◌, ◌≤◌, max, List, length}
use Rattle.std.specs.Str.Iter.{lines_steps}
use Rattle.std.specs.Str.Lines.{lines}
use Rattle.std.proofs.lemmas.Iterator.{YieldsList}
use Rattle.script.specs.Lines.{line_ends}
use Rattle.script.specs.Meaning.{lines_said, script_of}
use Rattle.script.specs.Views.{progress}
use Rattle.script.proofs.read.read_lines.Given as goal

-- lines are counted from 1, and one that another follows takes a line end; what is read and the lines to come say what the text says
abbrev pub invariant-loop-number : goal.invariant-loop-number
invariant-loop-number l =
    let rest = l.number-iterator.b.rest.now in
    (0 < l.number-iterator.a.start) × (0 < length rest → l.number-iterator.a.start + line_ends rest ≤ 1 + line_ends l.fn.text)
    × ((more : List (List ℕ)) × YieldsList lines_steps (λ x. x.now) l.number-iterator.b more
    × (lines_said (max (length (lines l.fn.text)) 1) (progress l.reading) l.number-iterator.a.start more ≡ script_of l.fn.text))
