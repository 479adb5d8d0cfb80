-- For the laws of parts: a status byte makes one mark for each sector, a run comes after another, and a run whose cycles all leave the
-- same number of polls due tells its events. These are lemmas; they stand here since the laws of each part are proved in src/.
use Rattle.std.specs.Prelude.{◌≡◌, ℕ, ◌≤◌, List, ◌++◌, length}
use Rattle.std.proofs.Common.{sym, subst}
use Rattle.std.proofs.lemmas.List.FromFn.{length-map-range_with_len}
use Rattle.memory.specs.Protection.{protects}
use Rattle.part.specs.Meaning.{Meaning, Event, Played, Tells, none, read, cycle, poll}
use Rattle.part.specs.Outline.{guards}

pub length-guards : (st s : ℕ) → length (guards st s) ≡ s
unfolding guards
length-guards st s = length-map-range_with_len (protects st s) 0 s

pub played-++ : {left : ℕ → Type 0} {a b c : Meaning} {l m : List Event} → Played left a l b → Played left b m c → Played left a (l ++ m) c
played-++ none q = q
played-++ (read d p) q = read d (played-++ p q)
played-++ (cycle k t d e p) q = cycle k t d e (played-++ p q)
played-++ (poll p) q = poll (played-++ p q)

-- a cycle that leaves n polls due leaves one at least
pub played-tells : (n : ℕ) → 1 ≤ n → {a b : Meaning} {l : List Event} → Played (λ k. k ≡ n) a l b → Tells a l b
played-tells n h none = none
played-tells n h (read d p) = read d (played-tells n h p)
played-tells n h (cycle k t d e p) = cycle k (subst (λ x. 1 ≤ x) (sym t) h) d e (played-tells n h p)
played-tells n h (poll p) = poll (played-tells n h p)
