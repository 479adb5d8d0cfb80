-- Bytes as pairs of hexadecimal digits.
use Rattle.std.specs.Prelude.{ℕ, ◌/◌, ◌%◌, List, [], ◌∷◌, true}
use Rattle.std.specs.Fmt.{digit_glyph}
use Rattle.std.specs.List.{flat_map}

-- two uppercase digits
abbrev pub pair : ℕ → List ℕ
pair b = digit_glyph true (b / 16) ∷ digit_glyph true (b % 16) ∷ []

-- pairs, each with a space before it
abbrev pub spaced : List ℕ → List ℕ
spaced bytes = flat_map (λ b. 32 ∷ pair b) bytes
