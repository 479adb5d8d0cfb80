-- The entries of calls before they were made and after.
use Rattle.std.specs.Prelude.{◌≡◌, List, [], ◌∷◌, Some}
use Rattle.calls.specs.declared.call.Call.{Call}
use Rattle.calls.specs.declared.call.Answer.{Answer}
use Rattle.calls.specs.declared.call.Entry.{Entry}
use Rattle.calls.specs.Requests.{asks, buffer, outcome, refused}

-- a call as it was handed in and as it was left with this answer: only a done read's buffer is another
pub record Made (before after : Call) (answer : Answer) : Type 0 where
  pub same : asks after ≡ asks before
  pub unread : outcome answer ≡ refused → buffer after ≡ buffer before

-- an entry of the record before its call was made and after
pub record Recorded (before after : Entry) : Type 0 where
  pub answer : Answer
  pub answered : after.answer ≡ Some answer
  pub made : Made before.call after.call answer

-- each entry of the record, in their order
abbrev pub Records : List Entry → List Entry → Type 0
Records [] [] = Unit {0}
Records [] (a ∷ after) = ⊥
Records (b ∷ before) [] = ⊥
Records (b ∷ before) (a ∷ after) = Recorded b a × Records before after
