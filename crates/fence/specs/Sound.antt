-- A part with closed sectors is a part that can be. These are lemmas; they stand here since the law `sound` of a fence as a part
-- is proved in src/, and src/ cites of its own crate the specs alone.
use Rattle.std.specs.Prelude.{◌≡◌, suc, Bool, List, [], ◌∷◌, length, refl}
use Rattle.std.proofs.Common.{ap, ◌∙◌}
use Rattle.part.specs.Meaning.{Meaning, Sound}
use Rattle.fence.specs.Closed.{either, fenced}

pub length-either : (gs cs : List Bool) → length (either gs cs) ≡ length gs
length-either [] cs = refl
length-either (g ∷ gs) [] = refl
length-either (g ∷ gs) (c ∷ cs) = ap suc (length-either gs cs)

pub fenced-sound : (m : Meaning) → Sound m → (closed : List Bool) → Sound (fenced m closed)
fenced-sound m S closed = record {
  some = S.some;
  few = S.few;
  paged = S.paged;
  low = S.low;
  page = S.page;
  each = length-either m.guarded closed ∙ S.each;
  imaged = S.imaged;
}
