-- Bytes back as text.
use Rattle.std.specs.Prelude.{ℕ, cond, List, [], ◌∷◌, ◌++◌, nat_le}
use Rattle.hex_text.specs.HexText.{pair, spaced}

-- pairs with single spaces, or `-` for none
abbrev pub shown : List ℕ → List ℕ
shown [] = 45 ∷ []
shown (b ∷ bs) = pair b ++ spaced bs

-- `E10`, for a frame that is too long
abbrev pub too_long : List ℕ
too_long = 69 ∷ 49 ∷ 48 ∷ []

-- the line of a frame with so many bytes in all, by the bytes back
abbrev pub line_of : ℕ → List ℕ → List ℕ
line_of bytes back = cond (nat_le bytes 320) (shown back) too_long ++ 10 ∷ []
