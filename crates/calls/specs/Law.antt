-- THE LAW of one call to a fence: what holds of its answer, and what it leaves.
use Rattle.std.specs.Prelude.{◌≡◌, ℕ, ◌+◌, ◌<◌, ◌≤◌, List, [], ◌∷◌, length}
use Rattle.memory.specs.Shape.{size}
use Rattle.memory.specs.Page.{block}
use Rattle.part.specs.declared.part.Part.{Ghosts}
use Rattle.part.specs.Meaning.{Meaning, Event, asked}
use Rattle.fence.specs.declared.fence.Fence.{Fence}
use Rattle.fence.specs.Fenced.{fence_meaning, FenceTrace}
use Rattle.writing.specs.Wrote.{Buffers, Left}
use Rattle.calls.specs.declared.call.Refusal.TheVariants.{Part, Write}
use Rattle.calls.specs.declared.call.Answer.{Answer}
use Rattle.calls.specs.declared.call.Answer.TheVariants.{Done, Written, Refused, Abandoned}
use Rattle.calls.specs.Refusals.{row, answer_row, came_of}
use Rattle.calls.specs.Requests.{Request, closing, opening, reading, writing, outcome}
use Rattle.calls.specs.Reference.{Reference, fed, Holds}
use Rattle.planner.specs.Wanted.{wanted}
use Rattle.calls.specs.Causes.{Cause, Passes, NothingLeads}
use Rattle.calls.specs.Effects.{DoneWrite, AbandonedWrite, RefusedWrite}

-- the call is refused as protected
abbrev pub IsProtected : Answer → Type 0
IsProtected Done = ⊥
IsProtected (Written cost) = ⊥
IsProtected (Refused refusal) = (row refusal).number ≡ 4
IsProtected (Abandoned cycles) = ⊥

module _ {P : Type 0} (part : Ghosts P) where
  -- what a fence means
  abbrev pub meant : Fence P → Meaning
  meant = fence_meaning part

  -- what happened to it: the part below did the same, no cycle among it is in a closed sector, and the closed sectors stay
  abbrev pub Traced : Fence P → Fence P → List Event → Type 0
  Traced = FenceTrace part

  -- a fence over the part, as a part
  abbrev pub fencing : Ghosts (Fence P)
  fencing = record { meaning = meant; trace = Traced }

  -- a done read's buffer holds its range of the reference's image, while there is one
  abbrev pub ReadLaw : Reference → Request → List ℕ → Answer → Type 0
  ReadLaw ref (closing sector) held answer = Unit {0}
  ReadLaw ref (opening sector) held answer = Unit {0}
  ReadLaw ref (reading address n) held Done = Holds ref.image (λ image. held ≡ block address n image)
  ReadLaw ref (reading address n) held (Written cost) = Unit {0}
  ReadLaw ref (reading address n) held (Refused refusal) = Unit {0}
  ReadLaw ref (reading address n) held (Abandoned cycles) = Unit {0}
  ReadLaw ref (writing address bytes limit) held answer = Unit {0}

  -- what a call leaves of the fence, of its own buffer, and of the step list and the data buffer: a done close or open is of a
  -- sector that is there; a done read's buffer holds the image's bytes, which were asked for once; a done write leaves what it wanted
  -- at the least cost, and answers what it sent; an abandoned one tells how far it came; a refused call leaves what it may
  abbrev pub EffectLaw : Buffers → Fence P → Request → List ℕ → Answer → Fence P → Type 0
  EffectLaw b f (closing sector) held Done g = (sector < (meant f).shape.sectors) × (g.part ≡ f.part) × Left b
  EffectLaw b f (closing sector) held (Written cost) g = ⊥
  EffectLaw b f (closing sector) held (Refused refusal) g = (g.part ≡ f.part) × Left b
  EffectLaw b f (closing sector) held (Abandoned cycles) g = ⊥
  EffectLaw b f (opening sector) held Done g = (sector < (meant f).shape.sectors) × (g.part ≡ f.part) × Left b
  EffectLaw b f (opening sector) held (Written cost) g = ⊥
  EffectLaw b f (opening sector) held (Refused refusal) g = (g.part ≡ f.part) × Left b
  EffectLaw b f (opening sector) held (Abandoned cycles) g = ⊥
  EffectLaw b f (reading address n) held Done g =
      (address + n ≤ size (meant f).shape) × ((meant f).due ≡ 0) × (held ≡ block address n (meant f).image)
      × (meant g ≡ meant f) × Traced f g (asked n ∷ []) × Left b
  EffectLaw b f (reading address n) held (Written cost) g = ⊥
  EffectLaw b f (reading address n) held (Refused refusal) g = (meant g ≡ meant f) × Traced f g [] × Left b
  EffectLaw b f (reading address n) held (Abandoned cycles) g = ⊥
  EffectLaw b f (writing address bytes limit) held Done g = ⊥
  EffectLaw b f (writing address bytes limit) held (Written cost) g = DoneWrite fencing address bytes limit b cost f g
  EffectLaw b f (writing address bytes limit) held (Refused (Part fault)) g = ⊥
  EffectLaw b f (writing address bytes limit) held (Refused (Write fault)) g = RefusedWrite fencing fault f g × Left b
  EffectLaw b f (writing address bytes limit) held (Abandoned cycles) g = AbandonedWrite fencing address bytes limit b cycles f g

  -- a write that passes the checks before protection is refused as protected exactly when nothing leads to what it wants
  abbrev pub ProtectedLaw : Fence P → Request → Answer → Type 0
  ProtectedLaw f (closing sector) answer = Unit {0}
  ProtectedLaw f (opening sector) answer = Unit {0}
  ProtectedLaw f (reading address n) answer = Unit {0}
  ProtectedLaw f (writing address bytes limit) answer =
      Passes (meant f) address (length bytes) limit
      → (IsProtected answer → NothingLeads (meant f) (wanted (meant f) address bytes))
      × (NothingLeads (meant f) (wanted (meant f) address bytes) → IsProtected answer)

  -- each refusal has its cause
  abbrev pub CauseLaw : ℕ → ℕ → Fence P → Request → Answer → Type 0
  CauseLaw steps room f request Done = Unit {0}
  CauseLaw steps room f request (Written cost) = Unit {0}
  CauseLaw steps room f request (Refused refusal) = Cause (meant f) steps room request refusal
  CauseLaw steps room f request (Abandoned cycles) = Unit {0}

  -- of a call that leaves its buffer as `held`, and the step list and the data buffer as the second half of `b` says
  pub record Law (b : Buffers) (ref : Reference) (f : Fence P) (request : Request) (held : List ℕ) (answer : Answer) (g : Fence P) : Type 0 where
    -- a fault of number 8 is an abandoned call, any other a refused one, and none a done one
    pub numbered : outcome answer ≡ came_of (answer_row answer)
    pub closed : g.closed ≡ (fed ref request (outcome answer)).closed
    pub reads : ReadLaw ref request held answer
    pub effect : EffectLaw b f request held answer g
    pub protected : ProtectedLaw f request answer
    pub cause : CauseLaw (length b.steps) (length b.sent) f request answer
