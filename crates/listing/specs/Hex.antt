-- Bytes in uppercase hexadecimal.
use Rattle.std.specs.Prelude.{ℕ, ◌+◌, ◌*◌, ◌<◌, cond, List, [], ◌∷◌, ◌++◌, nat_lt}

-- the digit of a value below 16: 0 to 9 from 30h on, A to F from 41h on
abbrev pub glyph : ℕ → ℕ
glyph v = cond (nat_lt v 10) (48 + v) (55 + v)

-- two digits, the high one first, and the value of the byte that they spell
pub data Pair : List ℕ → ℕ → Type 0 where
  pair : (h l : ℕ) → h < 16 → l < 16 → Pair (glyph h ∷ glyph l ∷ []) (h * 16 + l)

-- pairs with single spaces between them, and their values
pub data Pairs : List ℕ → List ℕ → Type 0 where
  one : {w : List ℕ} {v : ℕ} → Pair w v → Pairs w (v ∷ [])
  more : {w s : List ℕ} {v : ℕ} {bs : List ℕ} → Pair w v → Pairs s bs → Pairs (w ++ 32 ∷ s) (v ∷ bs)
