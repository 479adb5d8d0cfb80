-- What a write leaves of a part, of the step list and of the data buffer.
use Rattle.std.specs.Prelude.{◌≡◌, ℕ, ◌*◌, ◌<◌, ◌≤◌, true, List, [], ◌∷◌, ◌++◌, length, take}
use Rattle.memory.specs.Shape.{size}
use Rattle.memory.specs.Cycle.{Cycle}
use Rattle.part.specs.declared.part.Part.{Ghosts}
use Rattle.part.specs.Meaning.{carried, protected_at}
use Rattle.least.specs.Cost.{spent}
use Rattle.least.specs.Fewest.{fewest}
use Rattle.least.specs.Steps.{steps_of, data_of}
use Rattle.least.specs.Theorems.{LeastBy}
use Rattle.planner.specs.Looking.{LookedBy}
use Rattle.planner.specs.Wanted.{wanted}
use Rattle.planner.specs.Waits.{Polls}
use Rattle.writing.specs.Wrote.{Buffers, Filled, planned_cycles}
use Rattle.writing.specs.declared.fault.WriteFault.{WriteFault}
use Rattle.writing.specs.declared.fault.WriteFault.TheVariants.{Limit, Outside, StillBusy, Protected, StepsShort, DataShort, Abandoned}
use Rattle.calls.specs.Causes.{Leads, Passes}

-- room in the step list and in the data buffer for a plan of this cost
abbrev pub Roomy : Buffers → ℕ × ℕ → Type 0
Roomy b cost = (cost.0 ≤ length b.steps) × (cost.1 ≤ length b.sent)

module _ {F : Type 0} (part : Ghosts F) where
  -- cycles sent one after another, each where nothing was due, and each waited for by as many polls as it made due, which the
  -- limit allowed
  pub data Paced (limit : ℕ) : F → List Cycle → F → Type 0 where
    none : {f : F} → Paced limit f [] f
    more : {f g h k : F} {ys : List Cycle} {y : Cycle} → Paced limit f ys g → (part.meaning g).due ≡ 0
        → part.trace g h (carried y ∷ []) → 1 ≤ (part.meaning h).due → (part.meaning h).due ≤ limit
        → Polls part (part.meaning h).due h k → Paced limit f (ys ++ y ∷ []) k

  -- counts and protected sectors stay
  pub record Steady (f g : F) : Type 0 where
    pub shape : (part.meaning g).shape ≡ (part.meaning f).shape
    pub guarded : (part.meaning g).guarded ≡ (part.meaning f).guarded

  -- what was due was waited for, and the image then only looked at, for at most three times its bytes
  pub record Begun (f g : F) : Type 0 where
    pub idle : F
    pub waits : Polls part (part.meaning f).due f idle
    pub looks : LookedBy part (3 * size (part.meaning f).shape) idle g

  -- a refused write carries nothing out: the limit and the range are looked at before anything is done; a write that finds polls due beyond the limit made the limit's
  abbrev pub RefusedWrite : WriteFault → F → F → Type 0
  RefusedWrite (Limit n) f g = g ≡ f
  RefusedWrite (Outside a) f g = g ≡ f
  RefusedWrite (StillBusy n) f g = Polls part n f g
  RefusedWrite (Protected a) f g = Begun f g
  RefusedWrite (StepsShort cost) f g = Begun f g
  RefusedWrite (DataShort cost) f g = Begun f g
  RefusedWrite (Abandoned n) f g = ⊥

  module _ (address : ℕ) (bytes : List ℕ) (limit : ℕ) (b : Buffers) where
    -- a done write: it leaves the image wanted and nothing due, its answer is the cost of the cycles that it sent, every accepted list
    -- that leads there costs at least that; the cycles sent are the defined plan, whose steps and data both buffers begin with
    pub record DoneWrite (cost : ℕ × ℕ) (f g : F) : Type 0 where
      pub passes : Passes (part.meaning f) address (length bytes) limit
      pub ready : F
      pub begins : Begun f ready
      pub sent : List Cycle
      pub paced : Paced limit ready sent g
      pub idle : (part.meaning g).due ≡ 0
      pub leaves : (part.meaning g).image ≡ wanted (part.meaning f) address bytes
      pub steady : Steady f g
      pub accepted : Leads (part.meaning f) sent (wanted (part.meaning f) address bytes)
      pub costs : spent fewest sent ≡ cost
      pub least : (l : List Cycle) → Leads (part.meaning f) l (wanted (part.meaning f) address bytes) → fewest.leq cost (spent fewest l) ≡ true
      pub planned : sent ≡ planned_cycles (part.meaning f) address bytes
      pub room : Roomy b cost
      pub filled : Filled b (steps_of sent) (data_of sent)

    -- an abandoned write: n cycles were sent, and after the last of them more polls were due than the limit; the limit's
    -- polls were made, and the image is the one that these cycles leave. They are the first of the defined plan, a list of least cost,
    -- whose steps and data both buffers begin with
    pub record AbandonedWrite (n : ℕ) (f g : F) : Type 0 where
      pub passes : Passes (part.meaning f) address (length bytes) limit
      pub ready : F
      pub begins : Begun f ready
      -- before the last cycle, and just after it
      pub before : F
      pub still : F
      pub sent : List Cycle
      pub last : Cycle
      pub paced : Paced limit ready sent before
      pub idle : (part.meaning before).due ≡ 0
      pub sends : part.trace before still (carried last ∷ [])
      pub beyond : limit < (part.meaning still).due
      pub polls : Polls part limit still g
      pub counted : n ≡ length (sent ++ last ∷ [])
      pub accepted : Leads (part.meaning f) (sent ++ last ∷ []) (part.meaning g).image
      pub steady : Steady f g
      pub plan : List Cycle
      pub cost : ℕ × ℕ
      pub least : LeastBy (part.meaning f).shape (protected_at (part.meaning f)) (part.meaning f).image (wanted (part.meaning f) address bytes) plan cost
      pub planned : plan ≡ planned_cycles (part.meaning f) address bytes
      pub first : take n plan ≡ sent ++ last ∷ []
      pub room : Roomy b cost
      pub filled : Filled b (steps_of plan) (data_of plan)
