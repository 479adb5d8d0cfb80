-- What a slow image means, and what its trace tells.
use Rattle.std.specs.Prelude.{◌≡◌, ℕ, ◌+◌, cond, List}
use Rattle.part.specs.Meaning.{Meaning, Event, Played}
use Rattle.part.specs.Plain.{plainly}
use Rattle.side_by_side.specs.declared.slow.SlowImage.{SlowImage}

-- the same memory with so many polls due
abbrev pub due_in : ℕ → Meaning → Meaning
due_in due m = record { shape = m.shape; image = m.image; guarded = m.guarded; due = due }

abbrev pub slowly : SlowImage → Meaning
slowly s = due_in (cond s.plain.busy (s.left + 1) 0) (plainly s.plain)

-- what a slow image's trace says: after a cycle as many polls show it as its busy number says, and one more is due
abbrev pub Slowed : SlowImage → SlowImage → List Event → Type 0
Slowed a b l = Played (λ k. k ≡ a.busy_number + 1) (slowly a) l (slowly b) × (b.busy_number ≡ a.busy_number)
