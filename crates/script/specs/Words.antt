-- The words of a line of a script.
use Rattle.std.specs.Prelude.{ℕ, cond, List, [], ◌∷◌, ◌++◌, ◌==◌, map, encode_utf8}
use Rattle.std.specs.Borrow.{Bor}
use Rattle.std.specs.Char.{is_whitespace}
use Rattle.std.specs.List.{before_first}
use Rattle.std.specs.Str.{chars}

-- a word that has a byte
abbrev pub kept : List ℕ → List (List ℕ)
kept [] = []
kept (b ∷ bs) = (b ∷ bs) ∷ []

-- the words that characters make after the bytes of one begun: white space parts them
abbrev pub parted : List ℕ → List ℕ → List (List ℕ)
parted word [] = kept word
parted word (c ∷ cs) = cond (is_whitespace c) (kept word ++ parted [] cs) (parted (word ++ encode_utf8 c) cs)

-- the words of a text
unfoldable pub words_of : List ℕ → List (List ℕ)
words_of text = parted [] (chars text)

-- a line before its first `#`
abbrev pub uncommented : List ℕ → List ℕ
uncommented line = before_first (λ b. b == 35) line

-- the bytes of words
abbrev pub texts : List (Bor (List ℕ)) → List (List ℕ)
texts words = map (λ word. word.now) words
