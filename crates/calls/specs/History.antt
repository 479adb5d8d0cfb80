-- THE PROMISE over any list of calls to a new fence.
use Rattle.std.specs.Prelude.{◌≡◌, ℕ, List, [], ◌∷◌, Some, None, Option}
use Rattle.part.specs.declared.part.Part.{Ghosts}
use Rattle.fence.specs.declared.fence.Fence.{Fence}
use Rattle.fence.specs.Closed.{none_closed}
use Rattle.fence.specs.Fenced.{fresh}
use Rattle.least.specs.declared.step.Step.{Step}
use Rattle.writing.specs.Wrote.{Buffers, buffers}
use Rattle.calls.specs.declared.call.Answer.{Answer}
use Rattle.calls.specs.declared.call.Call.{Call}
use Rattle.calls.specs.declared.call.Entry.{Entry}
use Rattle.calls.specs.Requests.{Request, asks, buffer, outcome}
use Rattle.calls.specs.Reference.{Reference, fed, Holds}
use Rattle.calls.specs.Law.{Law, meant}

-- what calls go by: a fence, and the step list and the data buffer that are lent to them
pub record State (P : Type 0) : Type 0 where
  pub fence : Fence P
  pub steps : List Step
  pub sent : List ℕ

abbrev pub state : {P : Type 0} → Fence P → List Step → List ℕ → State P
state f s d = record { fence = f; steps = s; sent = d }

-- the buffers of two states, before and after
abbrev pub between : {P : Type 0} → State P → State P → Buffers
between s t = buffers s.steps t.steps s.sent t.sent

-- the reference after a call of the record; a call that was not made changes nothing
abbrev pub fed_once : Reference → Request → Option Answer → Reference
fed_once ref request None = ref
fed_once ref request (Some answer) = fed ref request (outcome answer)

abbrev pub fed_by : Reference → Entry → Reference
fed_by ref e = fed_once ref (asks e.call) e.answer

module _ {P : Type 0} (part : Ghosts P) where
  -- each call of a record has an answer and keeps the law, at the reference and at the state that those before it leave
  pub data History : Reference → State P → List Entry → State P → Type 0 where
    none : {ref : Reference} {s : State P} → History ref s [] s
    more : {ref : Reference} {s t u : State P} {e : Entry} {es : List Entry} (answer : Answer) → e.answer ≡ Some answer
        → Law part (between s t) ref s.fence (asks e.call) (buffer e.call) answer t.fence
        → History (fed_by ref e) t es u → History ref s (e ∷ es) u

  -- the reference before the first call: the part's image, and none closed
  abbrev pub start : P → Reference
  start p = record { image = Some (part.meaning p).image; closed = none_closed }

  -- a record of calls to a new fence over the part p, lent these buffers, which lead to the state s
  abbrev pub Kept : P → List Step → List ℕ → List Entry → State P → Type 0
  Kept p steps sent es s = History (start p) (state (fresh p) steps sent) es s

  -- the reference is true of the fence
  pub record Agrees (ref : Reference) (f : Fence P) : Type 0 where
    pub image : Holds ref.image (λ image. (meant part f).image ≡ image)
    pub closed : f.closed ≡ ref.closed

  -- what one call owes at every reference that is true of the fence before it: the law, and that the reference is true after it
  pub record Follows (s : State P) (call : Call) (answer : Answer) (t : State P) : Type 0 where
    pub law : (ref : Reference) → Agrees ref s.fence → Law part (between s t) ref s.fence (asks call) (buffer call) answer t.fence
    pub agrees : (ref : Reference) → Agrees ref s.fence → Agrees (fed ref (asks call) (outcome answer)) t.fence
