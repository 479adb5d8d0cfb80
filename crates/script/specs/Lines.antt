-- The lines of a script, counted from 1.
use Rattle.std.specs.Prelude.{ℕ, ◌+◌, List, take, count_by, ◌==◌}

-- how many line ends stand among the bytes
abbrev pub line_ends : List ℕ → ℕ
line_ends text = count_by (λ b. b == 10) text

-- the line that the byte at `at` is on
abbrev pub line_of : ℕ → List ℕ → ℕ
line_of at text = 1 + line_ends (take at text)
