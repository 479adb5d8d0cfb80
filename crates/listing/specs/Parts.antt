-- What a listing says: its items with their places, and the exchanges that it asks for.
use Rattle.std.specs.Prelude.{ℕ, List, [], ◌∷◌, Some, None, Option}
use Rattle.listing.specs.declared.item.Item.{Item}
use Rattle.listing.specs.declared.item.Item.TheVariants.{Note, Frame, Count}
use Rattle.listing.specs.declared.item.Placed.{Placed}
use Rattle.listing.specs.declared.item.Line.{Line}

-- a part of the text: a note from its `;` on, the pairs of a frame, the pair of a count
pub data Part : Type 0 where
  note : List ℕ → Part
  frame : List ℕ → Part
  count : List ℕ → Part

-- a part and its place, line and column from 1
pub record Spot : Type 0 where
  pub part : Part
  pub line : ℕ
  pub column : ℕ

abbrev pub spot : Part → ℕ → ℕ → Spot
spot p l c = record { part = p; line = l; column = c }

-- the bytes of a frame, and how many are wanted back
pub record Exchange : Type 0 where
  pub sent : List ℕ
  pub back : ℕ

abbrev pub exchange : List ℕ → ℕ → Exchange
exchange s n = record { sent = s; back = n }

-- what the values of the code stand for
abbrev pub part_of : Item → Part
part_of (Note s) = note s.now
part_of (Frame s) = frame s.now
part_of (Count s) = count s.now

abbrev pub spot_of : Placed → Spot
spot_of p = spot (part_of p.item) p.line p.column

abbrev pub count_of : Option Placed → List Spot
count_of None = []
count_of (Some p) = spot_of p ∷ []

abbrev pub spots_of : Line → List Spot
spots_of l = spot_of l.first ∷ count_of l.count
