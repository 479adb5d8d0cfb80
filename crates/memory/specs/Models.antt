-- The chips that are known, by capacity byte.
use Rattle.std.specs.Prelude.{ℕ, ◌*◌, ◌<◌, ◌≤◌, cond, List, [], ◌∷◌, Some, None, Option, ◌==◌}
use Rattle.std.proofs.Common.{lit<, lit≤}
use Rattle.memory.specs.declared.model.Model.{Model}
use Rattle.memory.specs.Shape.{Shape, shaped}

abbrev pub model : (c s p : ℕ) → 0 < s → s ≤ 128 → 0 < p → p ≤ 2048 → s * p ≤ 262144 → Model
model c s p some few paged low small =
    record { capacity = c; geometry = record { sectors = s; pages = p; some = some; few = few; paged = paged; low = low; small = small } }

-- the 32Mb, 64Mb and 128Mb chips, and the small one of the bench: capacity byte, sectors, pages a sector
unfoldable pub models : List Model
models =
    model 0x16 32 2048 (lit< tt) (lit≤ tt) (lit< tt) (lit≤ tt) (lit≤ tt)
    ∷ model 0x17 64 2048 (lit< tt) (lit≤ tt) (lit< tt) (lit≤ tt) (lit≤ tt)
    ∷ model 0x18 128 2048 (lit< tt) (lit≤ tt) (lit< tt) (lit≤ tt) (lit≤ tt)
    ∷ model 0x0B 8 4 (lit< tt) (lit≤ tt) (lit< tt) (lit≤ tt) (lit≤ tt)
    ∷ []

abbrev pub lookup : List Model → ℕ → Option Model
lookup [] c = None
lookup (m ∷ ms) c = cond (m.capacity == c) (Some m) (lookup ms c)

abbrev pub model_shape : Model → Shape
model_shape m = shaped m.geometry.sectors m.geometry.pages

abbrev pub shape_or : Option Model → Shape
shape_or None = shaped 0 0
shape_or (Some m) = model_shape m

-- the shape of the chip with this capacity byte; nothing at all for an unknown one
abbrev pub shape_for : ℕ → Shape
shape_for c = shape_or (lookup models c)
