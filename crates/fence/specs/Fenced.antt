-- A new fence, and what a fence means and its trace tells, over what the part below means.
use Rattle.std.specs.Prelude.{◌≡◌, List}
use Rattle.part.specs.declared.part.Part.{Ghosts}
use Rattle.part.specs.Meaning.{Meaning, Event, Tells}
use Rattle.fence.specs.declared.fence.Fence.{Fence}
use Rattle.fence.specs.Closed.{fenced, none_closed}

-- the part below, and no sector closed
abbrev pub fresh : {P : Type 0} → P → Fence P
fresh p = record { part = p; closed = none_closed }

module _ {P : Type 0} (part : Ghosts P) where
  abbrev pub fence_meaning : Fence P → Meaning
  fence_meaning f = fenced (part.meaning f.part) f.closed

  -- what happened to the part below, no cycle of which a closed sector bars; the closed sectors stay
  abbrev pub FenceTrace : Fence P → Fence P → List Event → Type 0
  FenceTrace f g events = (g.closed ≡ f.closed) × part.trace f.part g.part events × Tells (fence_meaning f) events (fence_meaning g)
