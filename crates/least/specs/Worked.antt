-- Eight worked writes on the bench's memory: 8 sectors of 4 pages of 64 bytes.
use Rattle.std.specs.Prelude.{◌≡◌, ℕ, ◌*◌, List, [], ◌∷◌, ◌++◌, replicate, slice_set}
use Rattle.memory.specs.declared.kind.Kind.{Kind}
use Rattle.memory.specs.declared.kind.Kind.TheVariants.{Program, Preset, SectorErase, BulkErase}
use Rattle.memory.specs.Shape.{Shape, shaped}
use Rattle.memory.specs.Protection.{protects}
use Rattle.memory.specs.Page.{put}
use Rattle.least.specs.declared.step.Step.{Step}
use Rattle.least.specs.Fewest.{fewest}
use Rattle.least.specs.Sectors.{over_sector}
use Rattle.least.specs.Plan.{keep_page}
use Rattle.least.specs.Writes.{Answer, refused, planned, past_the_end, protected_at, plan_write}

abbrev pub bench : Shape
bench = shaped 8 4

-- a write with room for any plan there: a status byte, an image, an address and bytes
abbrev pub on_bench : ℕ → List ℕ → ℕ → List ℕ → Answer
on_bench status image address bytes = plan_write bench (protects status 8) image address bytes 64 2048

abbrev pub all : ℕ → ℕ → List ℕ
all n value = replicate n value

abbrev pub erased : List ℕ
erased = all 2048 255

-- nothing is protected; the highest sector is
abbrev pub open_status : ℕ
open_status = 0x80

abbrev pub top_status : ℕ
top_status = 0x84

abbrev pub step : Kind → ℕ → ℕ → ℕ → Step
step kind address length place = record { kind = kind; address = address; length = length; place = place }

-- a sector erase with no data before it
abbrev pub erasing : ℕ → Step
erasing k = step SectorErase (k * 256) 0 0

-- pages 0 and 1 hold 00h, and a write of 00h and 127 times FFh there
abbrev pub two_pages : List ℕ
two_pages = all 128 0 ++ all 1920 255

abbrev pub one_low : List ℕ
one_low = 0 ∷ all 127 255

-- 00h at the first place of each sector
abbrev pub spotted : List ℕ
spotted = slice_set (slice_set (slice_set (slice_set (slice_set (slice_set (slice_set (slice_set erased 0 0) 256 0) 512 0) 768 0) 1024 0) 1280 0) 1536 0) 1792 0

pub record WorkedWrites : Type 0 where
  -- no bytes at the end are written at no cost, and past it they are refused
  pub at_end : on_bench open_status erased 2048 [] ≡ planned (0, 0) [] []
  pub past_end : on_bench open_status erased 2049 [] ≡ refused (past_the_end 2049)
  -- one byte whose bits only fall
  pub one_byte : on_bench open_status erased 0 (0 ∷ []) ≡ planned (1, 1) (step Program 0 1 0 ∷ []) (0 ∷ [])
  -- keeping the sector costs more than erasing it
  pub keeping :
      over_sector fewest bench (keep_page fewest 64 two_pages (put 0 one_low two_pages)) 0 ≡ (2, 127)
  pub erase_first :
      on_bench open_status two_pages 0 one_low
      ≡ planned (2, 1) (step SectorErase 0 0 0 ∷ step Preset 0 1 0 ∷ []) (0 ∷ [])
  -- the window comes round at the page's end
  pub round_the_end :
      on_bench open_status erased 1 (0 ∷ all 60 255 ++ 0 ∷ [])
      ≡ planned (1, 4) (step Program 62 4 0 ∷ []) (0 ∷ 255 ∷ 255 ∷ 0 ∷ [])
  -- of two equally long windows the lower
  pub straight :
      on_bench open_status erased 0 (0 ∷ all 31 255 ++ 0 ∷ [])
      ≡ planned (1, 33) (step Program 0 33 0 ∷ []) (0 ∷ all 31 255 ++ 0 ∷ [])
  -- one bulk erase for all sectors
  pub bulk : on_bench open_status spotted 0 erased ≡ planned (1, 0) (step BulkErase 0 0 0 ∷ []) []
  -- none where a sector is protected
  pub by_sectors :
      on_bench top_status spotted 0 (all 1792 255)
      ≡ planned (7, 0)
      (erasing 0 ∷ erasing 1 ∷ erasing 2 ∷ erasing 3 ∷ erasing 4 ∷ erasing 5 ∷ erasing 6 ∷ []) []
  -- a protected byte that stays, and one that would change
  pub stays : on_bench top_status erased 1792 (255 ∷ []) ≡ planned (0, 0) [] []
  pub protected : on_bench top_status erased 1792 (0 ∷ []) ≡ refused (protected_at 1792)
