-- A listing played on a chip: what is printed, and the chip afterwards.
use Rattle.std.specs.Prelude.{◌≡◌, ℕ, ◌+◌, cond, List, [], ◌∷◌, ◌++◌, length, decimal, nat_le}
use Rattle.memory.specs.Reports.{cause_number}
use Rattle.memory.specs.declared.report.Cause.TheVariants.{Malformed}
use Rattle.port.specs.Bench.{chip_of}
use Rattle.port.specs.Chip.{Chip}
use Rattle.port.specs.Machine.{answer, after}
use Rattle.port.specs.declared.bench.BenchChip.{BenchChip}
use Rattle.listing.specs.Grammar.{Ending, ended, failed, Reads}
use Rattle.listing.specs.Parts.{Spot, Exchange}
use Rattle.listing.specs.Playing.{frame_of}
use Rattle.replay.specs.Shown.{line_of}

-- the line that is printed of a frame: the bytes that the machine answers, bit 1 of a status being 0 while the chip is busy; or `E10` for
-- one that is too long
abbrev pub frame_line : Chip → Exchange → List ℕ
frame_line c x = line_of (length x.sent + x.back) (answer 0 c (frame_of x))

-- the chip after a frame, a cycle setting the busy count to k; a frame that is too long alters nothing
abbrev pub after_frame : ℕ → Chip → Exchange → Chip
after_frame k c x = cond (nat_le (length x.sent + x.back) 320) (after k c (frame_of x)) c

-- the lines of frames, each of which finds the chip that the one before it left
unfoldable pub frame_lines : ℕ → Chip → List Exchange → List ℕ
frame_lines k c [] = []
frame_lines k c (x ∷ xs) = frame_line c x ++ frame_lines k (after_frame k c x) xs

-- the chip after all of them
unfoldable pub after_frames : ℕ → Chip → List Exchange → Chip
after_frames k c [] = c
after_frames k c (x ∷ xs) = after_frames k (after_frame k c x) xs

-- what is printed where the reading ends: nothing at the end of the text, `E12`, line and column where a line cannot go on
abbrev pub ending_line : Ending → List ℕ
ending_line ended = []
ending_line (failed l c) = 69 ∷ (decimal (cause_number Malformed) ++ 32 ∷ (decimal l ++ 32 ∷ (decimal c ++ 10 ∷ [])))

-- A TEXT PLAYED on the chip `was`, which is `left` afterwards; `before` was printed already, and `printed` is all that then is.
-- A text reads in one way, so both are determined.
pub record Replayed (text : List ℕ) (was left : BenchChip) (before printed : List ℕ) : Type 0 where
  -- the items and the frames of its lines, to its end or to the first line that cannot go on
  pub items : List Spot
  pub exchanges : List Exchange
  pub ending : Ending
  pub reads : Reads 1 text items exchanges ending
  -- the chip took these frames, in their order and no other
  pub chip : chip_of left ≡ after_frames was.busy_number (chip_of was) exchanges
  pub number : left.busy_number ≡ was.busy_number
  pub lines : printed ≡ before ++ (frame_lines was.busy_number (chip_of was) exchanges ++ ending_line ending)
