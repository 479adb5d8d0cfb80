-- What a part means, what can be done to it, and what that leaves.
use Rattle.std.specs.Prelude.{◌≡◌, ℕ, suc, ◌-◌, ◌≤◌, Bool, true, false, List, [], ◌∷◌, length, slice_index_or}
use Rattle.memory.specs.Shape.{Shape, Imaged}
use Rattle.memory.specs.Cycle.{Cycle, accepts, effect}

pub record Meaning : Type 0 where
  -- sectors, pages a sector, bytes a page
  pub shape : Shape
  pub image : List ℕ
  -- whether it is protected, one for each sector
  pub guarded : List Bool
  -- how many polls until one answers idle
  pub due : ℕ

-- a part that can be
pub record Sound (m : Meaning) : Type 0 where
  pub some : 1 ≤ m.shape.sectors
  pub few : m.shape.sectors ≤ 128
  pub paged : 1 ≤ m.shape.pages
  pub low : m.shape.pages ≤ 2048
  pub page : m.shape.bytes ≡ 64
  pub each : length m.guarded ≡ m.shape.sectors
  pub imaged : Imaged m.shape m.image

-- what was done to a part, in order: a read of so many bytes, a cycle carried out, a poll
pub data Event : Type 0 where
  asked : ℕ → Event
  carried : Cycle → Event
  polled : Event

-- the cycles among the events
abbrev pub cycles : List Event → List Cycle
cycles [] = []
cycles (asked n ∷ es) = cycles es
cycles (carried c ∷ es) = c ∷ cycles es
cycles (polled ∷ es) = cycles es

-- how many polls are among the events
abbrev pub polls : List Event → ℕ
polls [] = 0
polls (asked n ∷ es) = polls es
polls (carried c ∷ es) = polls es
polls (polled ∷ es) = suc (polls es)

abbrev pub protected_at : Meaning → ℕ → Bool
protected_at m sector = slice_index_or m.guarded sector false

-- one poll less is due
abbrev pub waited : Meaning → Meaning
waited m = record { shape = m.shape; image = m.image; guarded = m.guarded; due = m.due - 1 }

-- after a cycle that leaves so many polls due
abbrev pub done : ℕ → Meaning → Cycle → Meaning
done k m y = record { shape = m.shape; image = effect m.shape y m.image; guarded = m.guarded; due = k }

-- events lead from one meaning to another. A read and a cycle come where nothing is due: a read alters nothing; a cycle is one that
-- the memory accepts, is carried out once, and leaves a number of polls due that `left` allows. A poll leaves one less due.
pub data Played (left : ℕ → Type 0) : Meaning → List Event → Meaning → Type 0 where
  none : {m : Meaning} → Played left m [] m
  read : {m n : Meaning} {k : ℕ} {es : List Event} → m.due ≡ 0 → Played left m es n → Played left m (asked k ∷ es) n
  cycle : {m n : Meaning} {y : Cycle} {es : List Event} (k : ℕ) → left k
      → m.due ≡ 0 → accepts m.shape (protected_at m) y m.image ≡ true → Played left (done k m y) es n → Played left m (carried y ∷ es) n
  poll : {m n : Meaning} {es : List Event} → Played left (waited m) es n → Played left m (polled ∷ es) n

-- WHAT EVENTS TELL of a part before them and after: they lead there, and each cycle leaves one poll due at least
abbrev pub Tells : Meaning → List Event → Meaning → Type 0
Tells = Played (λ k. 1 ≤ k)
