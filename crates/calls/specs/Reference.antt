-- The reference: what someone expects who sees only the calls, and which of them were done, refused or abandoned.
use Rattle.std.specs.Prelude.{ℕ, Bool, true, false, List, Some, None, Option, slice_set}
use Rattle.memory.specs.Page.{put}
use Rattle.calls.specs.Requests.{Request, closing, opening, reading, writing, Outcome, done, refused, abandoned}

pub record Reference : Type 0 where
  -- at every address the byte of the last done write there, or the one at the start; none once a write was abandoned
  pub image : Option (List ℕ)
  -- a mark for each sector
  pub closed : List Bool

abbrev marked : ℕ → Bool → Reference → Reference
marked sector mark ref = record { image = ref.image; closed = slice_set ref.closed sector mark }

abbrev pub rewritten : ℕ → List ℕ → Option (List ℕ) → Option (List ℕ)
rewritten address bytes None = None
rewritten address bytes (Some image) = Some (put address bytes image)

abbrev imaged : Option (List ℕ) → Reference → Reference
imaged image ref = record { image = image; closed = ref.closed }

-- after a call; refused ones and reads change nothing
abbrev pub fed : Reference → Request → Outcome → Reference
fed ref (closing sector) done = marked sector true ref
fed ref (closing sector) refused = ref
fed ref (closing sector) abandoned = ref
fed ref (opening sector) done = marked sector false ref
fed ref (opening sector) refused = ref
fed ref (opening sector) abandoned = ref
fed ref (reading address n) done = ref
fed ref (reading address n) refused = ref
fed ref (reading address n) abandoned = ref
fed ref (writing address bytes limit) done = imaged (rewritten address bytes ref.image) ref
fed ref (writing address bytes limit) refused = ref
fed ref (writing address bytes limit) abandoned = imaged None ref

-- of the image, while there is one
abbrev pub Holds : Option (List ℕ) → (List ℕ → Type 0) → Type 0
Holds None says = Unit {0}
Holds (Some image) says = says image
