-- The text of exchanges.
use Rattle.std.specs.Prelude.{ℕ, ◌/◌, ◌%◌, ◌<◌, cond, List, [], ◌∷◌, ◌++◌, Some, None, Option, ◌==◌}
use Rattle.std.specs.Borrow.{Bor}
use Rattle.listing.specs.declared.writer.Frame.{Frame}
use Rattle.listing.specs.Grammar.{Reads, ended}
use Rattle.listing.specs.Hex.{glyph}
use Rattle.listing.specs.Parts.{Part, note, frame, count, Spot, Exchange, exchange}

abbrev pub pair_text : ℕ → List ℕ
pair_text b = glyph (b / 16) ∷ glyph (b % 16) ∷ []

-- each byte after a space
unfoldable pub spaced_text : List ℕ → List ℕ
spaced_text [] = []
spaced_text (b ∷ bs) = 32 ∷ pair_text b ++ spaced_text bs

unfoldable pub pairs_text : List ℕ → List ℕ
pairs_text [] = []
pairs_text (b ∷ bs) = pair_text b ++ spaced_text bs

-- the count, if any bytes are wanted back
abbrev pub back_text : ℕ → List ℕ
back_text n = cond (n == 0) [] (32 ∷ 62 ∷ 32 ∷ pair_text n)

-- the line of an exchange, with its 0Ah
abbrev pub line_text : Exchange → List ℕ
line_text x = pairs_text x.sent ++ back_text x.back ++ 10 ∷ []

-- the lines of exchanges
unfoldable pub listing : List Exchange → List ℕ
listing [] = []
listing (x ∷ xs) = line_text x ++ listing xs

abbrev pub exchange_of : Frame → Exchange
exchange_of f = exchange (f.code ∷ f.rest.now) f.back

-- numbers below 256
unfoldable pub Bytes : List ℕ → Type 0
Bytes [] = Unit {0}
Bytes (b ∷ bs) = (b < 256) × Bytes bs

-- the line of an exchange of bytes reads as that exchange
abbrev pub ReadsBack : Exchange → Type 0
ReadsBack x = Bytes x.sent → x.back < 256 → ((is : List Spot) × Reads 1 (line_text x) is (x ∷ []) ended)

-- the line of an exchange reads as that exchange, whatever its bytes
abbrev pub ReadsAlone : Exchange → Type 0
ReadsAlone x = ((is : List Spot) × Reads 1 (line_text x) is (x ∷ []) ended)

-- the lines of exchanges read as exactly these exchanges
abbrev pub AllReadBack : List Exchange → Type 0
AllReadBack xs = ((is : List Spot) × Reads 1 (listing xs) is xs ended)

-- no item is a note
abbrev pub Kept : Part → Type 0
Kept (note s) = ⊥
Kept (frame s) = Unit {0}
Kept (count s) = Unit {0}

unfoldable pub Noteless : List Spot → Type 0
Noteless [] = Unit {0}
Noteless (i ∷ is) = Kept i.part × Noteless is

abbrev pub text_of : Part → List ℕ
text_of (note s) = s
text_of (frame s) = s
text_of (count s) = s

-- the end of a frame's line: its count, if there is one, and 0Ah
abbrev pub kept_count : List Spot → List ℕ
kept_count [] = 10 ∷ []
kept_count (i ∷ is) = 32 ∷ 62 ∷ 32 ∷ text_of i.part ++ 10 ∷ []

-- the pairs of a frame
abbrev pub frame_text : Part → Option (List ℕ)
frame_text (note s) = None
frame_text (frame s) = Some s
frame_text (count s) = None

abbrev pub held : Option (Bor (List ℕ)) → Option (List ℕ)
held None = None
held (Some s) = Some s.now

abbrev pub kept_from : Option (List ℕ) → List Spot → List ℕ
kept_from None is = []
kept_from (Some w) is = w ++ kept_count is

-- what is kept of a line with these items: nothing of a note, and of a frame its pairs, count and 0Ah
abbrev pub kept_of : List Spot → List ℕ
kept_of [] = []
kept_of (i ∷ is) = kept_from (frame_text i.part) is
