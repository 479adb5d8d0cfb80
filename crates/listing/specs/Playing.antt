-- Frames played on a chip, its status read until it shows idle, and what a plan's frames do to it.
use Rattle.std.specs.Prelude.{◌≡◌, ℕ, List, [], ◌∷◌, ◌++◌, length, Some, None, Option}
use Rattle.memory.specs.Protection.{protects}
use Rattle.memory.specs.Cycle.{Cycle, Goes}
use Rattle.port.specs.Build.{status_frame}
use Rattle.port.specs.Chip.{Chip, Sound, shape}
use Rattle.port.specs.Machine.{Frame, frame, after}
use Rattle.port.specs.Laws.{carried_by}
use Rattle.listing.specs.Parts.{Exchange}
use Rattle.listing.specs.PlanFrames.{plan_frames}

-- what is listed, as the machine has it
abbrev pub frame_of : Exchange → Frame
frame_of x = frame x.sent x.back

abbrev pub once : Option Cycle → List Cycle
once None = []
once (Some y) = y ∷ []

-- Frames played from one chip to another: each is sent to an idle chip, and status reads come between them, as many as
-- it takes and any more. The busy counts that the cycles set have no rule, and are ks, one for each frame; the cycles
-- are all that were carried out on the way, by whichever frame.
pub data Plays : Chip → List Exchange → List ℕ → Chip → List Cycle → Type 0 where
  ends : {c : Chip} → c.busy ≡ 0 → Plays c [] [] c []
  sends : {c d : Chip} {x : Exchange} {xs : List Exchange} {k : ℕ} {ks : List ℕ} {ys : List Cycle}
      → c.busy ≡ 0 → Plays (after k c (frame_of x)) xs ks d ys → Plays c (x ∷ xs) (k ∷ ks) d (once (carried_by c (frame_of x)) ++ ys)
  polls : {c d : Chip} {xs : List Exchange} {ks : List ℕ} {ys : List Cycle} (k : ℕ)
      → Plays (after k c status_frame) xs ks d ys → Plays c xs ks d (once (carried_by c status_frame) ++ ys)

-- what the frames of cycles that lead to an image do to a chip
pub record Effected (c : Chip) (cycles : List Cycle) (to : List ℕ) : Type 0 where
  -- however they are played, exactly these cycles are carried out, and the image is the one that they lead to
  pub exactly : (ks : List ℕ) (d : Chip) (ys : List Cycle) → Plays c (plan_frames cycles) ks d ys → (ys ≡ cycles) × (d.image ≡ to)
  -- and they can be played, whatever the busy counts
  pub playable : (ks : List ℕ) → length ks ≡ length (plan_frames cycles) → ((d : Chip) × Plays c (plan_frames cycles) ks d cycles)

-- THE LISTED PLAN HAS ITS EFFECT on every idle chip that accepts its cycles
abbrev pub HasEffect : List Cycle → Type 0
HasEffect cycles =
    (c : Chip) → Sound c → c.busy ≡ 0 → (to : List ℕ)
    → Goes (shape c) (protects c.status (shape c).sectors) c.image cycles to → Effected c cycles to
