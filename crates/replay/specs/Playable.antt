-- A line that can be played, and what it asks for.
use Rattle.std.specs.Prelude.{ℕ, ◌*◌, ◌≤◌, List, [], ◌∷◌, length, unwrap_or}
use Rattle.listing.specs.Grammar.{LineText}
use Rattle.listing.specs.Parts.{Spot, spots_of, Exchange}
use Rattle.listing.specs.Scan.{pair_of}
use Rattle.listing.specs.Writing.{text_of}
use Rattle.listing.specs.declared.item.Line.{Line}

-- as the reader gives it: a line of a listing, with room for n bytes of it
pub record Playable (line : Line) (n : ℕ) : Type 0 where
  pub number : ℕ
  pub text : List ℕ
  pub exchanges : List Exchange
  pub reads : LineText number text (spots_of line) exchanges
  pub room : length text ≤ 3 * n

-- P holds of the exchanges that the line asks for by the grammar
abbrev pub ForAsked : Line → (List Exchange → Type 0) → Type 0
ForAsked line P = (l : ℕ) (text : List ℕ) (xs : List Exchange) → LineText l text (spots_of line) xs → P xs

-- how many bytes are wanted back by what follows a frame: the value of the count, none without one
abbrev pub wanted_by : List Spot → ℕ
wanted_by [] = 0
wanted_by (i ∷ is) = unwrap_or (pair_of (text_of i.part)) 0
