-- The grammar of a listing.
use Rattle.std.specs.Prelude.{◌≡◌, ℕ, ◌+◌, List, [], ◌∷◌, ◌++◌, length, ◌≢◌}
use Rattle.listing.specs.Hex.{Pair, Pairs}
use Rattle.listing.specs.Parts.{note, frame, count, Spot, spot, Exchange, exchange}

-- bytes none of which is 0Ah
pub data Unbroken : List ℕ → Type 0 where
  none : Unbroken []
  byte : {b : ℕ} {s : List ℕ} → (b ≢ 10) → Unbroken s → Unbroken (b ∷ s)

-- the line l without its 0Ah: its text, its items, and what it asks for
pub data LineText (l : ℕ) : List ℕ → List Spot → List Exchange → Type 0 where
  noted : {w : List ℕ} → Unbroken w → LineText l (59 ∷ w) (spot (note (59 ∷ w)) l 1 ∷ []) []
  framed : {w bs : List ℕ} → Pairs w bs → LineText l w (spot (frame w) l 1 ∷ []) (exchange bs 0 ∷ [])
  counted : {w bs v : List ℕ} {n : ℕ} → Pairs w bs → Pair v n → (n ≢ 0) →
      LineText l (w ++ 32 ∷ 62 ∷ 32 ∷ v)
      (spot (frame w) l 1 ∷ spot (count v) l (length (w ++ 32 ∷ 62 ∷ 32 ∷ []) + 1) ∷ [])
      (exchange bs n ∷ [])

-- the places in a line: at its start, in a note, after a pair, after a space, after `>`, before the count and after it
pub data Place : Type 0 where
  start : Place
  in_note : Place
  paired : Place
  spaced : Place
  marked : Place
  wanted : Place
  told : Place

-- what may stand at a place, and the place after it
pub data Step : Place → List ℕ → Place → Type 0 where
  opens : Step start (59 ∷ []) in_note
  notes : {b : ℕ} → (b ≢ 10) → Step in_note (b ∷ []) in_note
  first : {w : List ℕ} {v : ℕ} → Pair w v → Step start w paired
  spaces : Step paired (32 ∷ []) spaced
  next : {w : List ℕ} {v : ℕ} → Pair w v → Step spaced w paired
  marks : Step spaced (62 ∷ []) marked
  parts : Step marked (32 ∷ []) wanted
  counts : {w : List ℕ} {v : ℕ} → Pair w v → (v ≢ 0) → Step wanted w told

-- the places at which a line may end
pub data Ends : Place → Type 0 where
  note-ends : Ends in_note
  frame-ends : Ends paired
  count-ends : Ends told

-- a text that leads from one place to another
pub data Spells : Place → List ℕ → Place → Type 0 where
  here : {p : Place} → Spells p [] p
  step : {p q r : Place} {w s : List ℕ} → Step p w q → Spells q s r → Spells p (w ++ s) r

-- nothing that may stand at the place stands there, and the line does not end there
abbrev pub Stuck : Place → List ℕ → Type 0
Stuck p t =
    ((w s : List ℕ) (q : Place) → Step p w q → t ≢ w ++ s)
    × ((s : List ℕ) → Ends p → t ≢ 10 ∷ s)

-- the text, not empty, begins with a line that cannot go on at column c
pub record Stops (t : List ℕ) (c : ℕ) : Type 0 where
  pub front : List ℕ
  pub rest : List ℕ
  pub at : Place
  pub spelled : Spells start front at
  pub stuck : Stuck at rest
  pub text : t ≡ front ++ rest
  pub column : c ≡ length front + 1
  pub some : t ≡ [] → ⊥

-- how the reading of a text ends: at its end, or at a line and a column
pub data Ending : Type 0 where
  ended : Ending
  failed : ℕ → ℕ → Ending

-- the text from line l on, the items and exchanges of its lines, and how the reading ends
pub data Reads : ℕ → List ℕ → List Spot → List Exchange → Ending → Type 0 where
  over : {l : ℕ} → Reads l [] [] [] ended
  broken : {l : ℕ} {t : List ℕ} {c : ℕ} → Stops t c → Reads l t [] [] (failed l c)
  line : {l : ℕ} {w t : List ℕ} {is js : List Spot} {xs ys : List Exchange} {e : Ending} →
      LineText l w is xs → Reads (l + 1) t js ys e → Reads l (w ++ 10 ∷ t) (is ++ js) (xs ++ ys) e

-- a text has one list of items and one of exchanges, and either reads to its end or fails at one place
abbrev pub Unambiguous : Type 0
Unambiguous =
    (l : ℕ) (t : List ℕ) (is js : List Spot) (xs ys : List Exchange) (d e : Ending) →
    Reads l t is xs d → Reads l t js ys e → (is ≡ js) × (xs ≡ ys) × (d ≡ e)
