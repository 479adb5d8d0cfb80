-- The shape of a part that can be holds something.
use Rattle.std.proofs.Common.{arith}
use Rattle.memory.proofs.Pages.{Real}
use Rattle.part.specs.Meaning.{Meaning, Sound}

pub real : (m : Meaning) → Sound m → Real m.shape
real m S = record { pages = S.paged; bytes = omega (arith, S.page) }
