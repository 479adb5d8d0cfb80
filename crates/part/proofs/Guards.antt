-- The protected sectors as a list, and when there is none.
use Rattle.std.specs.Prelude.{◌≡◌, ℕ, ◌-◌, ◌<◌, ◌≤◌, false, not, map, get_or, ◌==◌, bit_and, nat_le, slice_index_or}
use Rattle.std.proofs.Common.{sym, ap, ◌∙◌, ⊎_elim, arith}
use Rattle.std.specs.List.{range_with_len}
use Rattle.std.proofs.lemmas.List.FromFn.{get_or-map-range_with_len, length-map-range_with_len}
use Rattle.std.proofs.lemmas.List.{get_or_past}
use Rattle.std.proofs.lemmas.Bool.{cases_lt, cond_both, and_right, le-ltb}
use Rattle.std.proofs.lemmas.Bool.Decides.{nat_tests}
use Rattle.memory.specs.declared.kind.Kind.{Kind}
use Rattle.memory.specs.declared.kind.Kind.TheVariants.{Program, Alter, Preset, SectorErase, BulkErase}
use Rattle.memory.specs.Shape.{Shape}
use Rattle.memory.specs.Cycle.{permits}
use Rattle.memory.specs.Protection.{protected_count, protects, free}
use Rattle.memory.proofs.Free.{free_same, free-protects}
use Rattle.part.specs.Outline.{guards}

count_most : (st s : ℕ) → protected_count st s ≤ s
count_most st s = grind (arith, nat_tests)

protects-past : (st s k : ℕ) → s ≤ k → protects st s k ≡ false
protects-past st s k h =
    let m = count_most st s in
    cond_both (bit_and st 32 == 0) _ _ (λ v. v ≡ false) (λ _. and_right (nat_le (s - protected_count st s) k) _ (le-ltb k s h)) (λ _. le-ltb _ _ (omega arith))

pub guard_at : (st s k : ℕ) → slice_index_or (guards st s) k false ≡ protects st s k
unfolding guards
guard_at st s k = ⊎_elim (λ h. get_or-map-range_with_len (protects st s) 0 s k k false h (omega arith)) past (cases_lt k s)
  where
    past : s ≤ k → slice_index_or (guards st s) k false ≡ protects st s k
    past h =
        let l = length-map-range_with_len (protects st s) 0 s in
        get_or_past (map (protects st s) (range_with_len 0 s)) k false (omega arith) ∙ sym (protects-past st s k h)

-- the list permits what the status byte does
pub permits-guards : (m : Shape) (st s : ℕ) (kind : Kind) (address : ℕ) → permits m (λ k. get_or (guards st s) k false) kind address ≡ permits m (protects st s) kind address
permits-guards m st s Program address = ap not (guard_at st s _)
permits-guards m st s Alter address = ap not (guard_at st s _)
permits-guards m st s Preset address = ap not (guard_at st s _)
permits-guards m st s SectorErase address = ap not (guard_at st s _)
permits-guards m st s BulkErase address = free_same _ _ m.sectors (λ k _. guard_at st s k)

pub free-guards : (st s : ℕ) → st < 256 → 0 < s → free (λ k. get_or (guards st s) k false) s ≡ (bit_and st 0x5C == 0)
free-guards st s h k = free_same _ _ s (λ k _. guard_at st s k) ∙ free-protects st s h k
