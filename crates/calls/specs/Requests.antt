-- What a call asks, and what came of it.
use Rattle.std.specs.Prelude.{ℕ, List, [], vec_items, vec_len}
use Rattle.calls.specs.declared.call.Call.{Call}
use Rattle.calls.specs.declared.call.Call.TheVariants.{Close, Open, Read, Write}
use Rattle.calls.specs.declared.call.Answer.{Answer}
use Rattle.calls.specs.declared.call.Answer.TheVariants.{Done, Written, Refused, Abandoned}

pub data Request : Type 0 where
  closing : ℕ → Request
  opening : ℕ → Request
  -- an address, and how many bytes
  reading : ℕ → ℕ → Request
  -- an address, the bytes wanted there, and the limit of polls
  writing : ℕ → List ℕ → ℕ → Request

abbrev pub asks : Call → Request
asks (Close sector) = closing sector
asks (Open sector) = opening sector
asks (Read address into) = reading address (vec_len into)
asks (Write address bytes limit) = writing address (vec_items bytes) limit

-- what the buffer of a call holds
abbrev pub buffer : Call → List ℕ
buffer (Close sector) = []
buffer (Open sector) = []
buffer (Read address into) = vec_items into
buffer (Write address bytes limit) = vec_items bytes

-- done, refused or abandoned
pub data Outcome : Type 0 where
  done : Outcome
  refused : Outcome
  abandoned : Outcome

abbrev pub outcome : Answer → Outcome
outcome Done = done
outcome (Written cost) = done
outcome (Refused refusal) = refused
outcome (Abandoned cycles) = abandoned
