-- Runs of no event and of one.
use Rattle.std.specs.Prelude.{◌≡◌, ℕ, Bool, true, List, [], ◌∷◌}
use Rattle.std.proofs.Common.{sym, subst}
use Rattle.memory.specs.Shape.{Shape}
use Rattle.memory.specs.Cycle.{Cycle, accepts}
use Rattle.part.specs.Meaning.{Meaning, Played, asked, carried, polled, none, read, cycle, poll, done, protected_at, waited}

-- meanings are the same where each of the four is
pub alike : (s t : Shape) (i j : List ℕ) (g h : List Bool) (k l : ℕ) → s ≡ t → i ≡ j → g ≡ h → k ≡ l
    → ◌≡◌ {A = Meaning} (record { shape = s; image = i; guarded = g; due = k }) (record { shape = t; image = j; guarded = h; due = l })
alike s t i j g h k l e f d u = cc

pub played_none : {left : ℕ → Type 0} (a b : Meaning) → b ≡ a → Played left a [] b
played_none {left} a b e = let P : Meaning → Type 0 = λ x. Played left a [] x in subst P (sym e) none

pub played_read : {left : ℕ → Type 0} (a b : Meaning) (n : ℕ) → a.due ≡ 0 → b ≡ a → Played left a (asked n ∷ []) b
played_read {left} a b n d e = let P : Meaning → Type 0 = λ x. Played left a (asked n ∷ []) x in subst P (sym e) (read d none)

pub played_poll : {left : ℕ → Type 0} (a b : Meaning) → b ≡ waited a → Played left a (polled ∷ []) b
played_poll {left} a b e = let P : Meaning → Type 0 = λ x. Played left a (polled ∷ []) x in subst P (sym e) (poll none)

pub played_cycle : {left : ℕ → Type 0} (a b : Meaning) (y : Cycle) (k : ℕ) → left k → a.due ≡ 0 → accepts a.shape (protected_at a) y a.image ≡ true → b ≡ done k a y
    → Played left a (carried y ∷ []) b
played_cycle {left} a b y k l d t e = let P : Meaning → Type 0 = λ x. Played left a (carried y ∷ []) x in subst P (sym e) (cycle k l d t none)
