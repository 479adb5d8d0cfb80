-- Runs of events on a slow image joined, what they tell, and that it is a part that can be. These are lemmas; they stand here
-- since the laws `sound`, `joins` and `tells` of a slow image as a part are proved in src/, and src/ cites of its own crate the
-- specs alone.
use Rattle.std.specs.Prelude.{◌≡◌, ℕ, ◌+◌, List, ◌++◌, length, refl}
use Rattle.std.proofs.Common.{sym, subst, ◌∙◌, arith}
use Rattle.memory.specs.Shape.{size}
use Rattle.memory.specs.Image.{shape_of}
use Rattle.part.specs.PlainLemmas.{length-guards, played-++, played-tells}
use Rattle.part.specs.Meaning.{Event, Played, Sound, Tells}
use Rattle.side_by_side.specs.declared.slow.SlowImage.{SlowImage}
use Rattle.side_by_side.specs.Slowly.{Slowed, slowly}

pub slowed-++ : (a b c : SlowImage) (l m : List Event) → Slowed a b l → Slowed b c m → Slowed a c (l ++ m)
slowed-++ a b c l m p q =
    let P : ℕ → Type 0 = λ n. Played (λ k. k ≡ n + 1) (slowly b) m (slowly c) in
    (played-++ p.0 (subst P p.1 q.0), q.1 ∙ p.1)

pub slowed-tells : (a b : SlowImage) (l : List Event) → Slowed a b l → Tells (slowly a) l (slowly b)
slowed-tells a b l p = played-tells (a.busy_number + 1) (omega arith) p.0

pub slow-sound : (s : SlowImage) → Sound (slowly s)
slow-sound s =
    let i = s.plain.image in
    let w : length i.bytes.items ≡ size (shape_of i) = sym i.bytes.ok.0 ∙ i.sized in
    record {
      some = i.geometry.some;
      few = i.geometry.few;
      paged = i.geometry.paged;
      low = i.geometry.low;
      page = refl;
      each = length-guards s.plain.status.bits i.geometry.sectors;
      imaged = record { whole = w; bytes = i.byte };
    }
