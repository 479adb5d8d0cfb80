-- Marks side by side.
use Rattle.std.specs.Prelude.{◌≡◌, ℕ, zero, suc, ◌<◌, Bool, true, false, ◌||◌, List, [], ◌∷◌, length, get_or, slice_index_or, refl}
use Rattle.std.proofs.Common.{sym, ap, ◌∙◌, arith}
use Rattle.std.proofs.Math.Bool.{or-false}
use Rattle.std.proofs.lemmas.Bool.{both_ways, false_from_ne_true, or_right}
use Rattle.memory.specs.Protection.{free}
use Rattle.memory.proofs.Free.{free_all, free_at, free_same}
use Rattle.fence.specs.Closed.{either, is_closed}

-- a sector that is there has either mark
pub either_at : (gs cs : List Bool) (k : ℕ) → k < length gs → slice_index_or (either gs cs) k false ≡ (slice_index_or gs k false || slice_index_or cs k false)
either_at [] cs k h = absurd (omega arith)
either_at (g ∷ gs) [] k h = sym (or-false _)
either_at (g ∷ gs) (c ∷ cs) zero h = refl
either_at (g ∷ gs) (c ∷ cs) (suc k) h = either_at gs cs k (omega arith)

pub either-closed : (gs cs : List Bool) (k : ℕ) → k < length gs → is_closed cs k ≡ true → slice_index_or (either gs cs) k false ≡ true
either-closed gs cs k h e = either_at gs cs k h ∙ or_right _ _ e

-- one that is not closed has the part's own mark, there or not
pub either_open : (gs cs : List Bool) (k : ℕ) → is_closed cs k ≡ false → slice_index_or (either gs cs) k false ≡ slice_index_or gs k false
either_open [] cs k e = refl
either_open (g ∷ gs) [] k e = refl
either_open (g ∷ gs) (c ∷ cs) zero e = ap (λ b. g || b) e ∙ or-false g
either_open (g ∷ gs) (c ∷ cs) (suc k) e = either_open gs cs k e

-- where none is closed, none is protected but by the part itself
pub free_open : (gs cs : List Bool) (n : ℕ) → free (is_closed cs) n ≡ true → free (λ k. get_or (either gs cs) k false) n ≡ free (λ k. get_or gs k false) n
free_open gs cs n f = free_same _ _ n (λ k h. either_open gs cs k (free_at (is_closed cs) n k f h))

-- where one is, one is protected
pub free-closed : (gs cs : List Bool) (n : ℕ) → length gs ≡ n → free (is_closed cs) n ≡ false → free (λ k. get_or (either gs cs) k false) n ≡ false
free-closed gs cs n e f =
    false_from_ne_true _ (λ t. both_ways _ f (free_all _ n (λ k h. false_from_ne_true _ (λ c.
    both_ways _ (free_at _ n k t h) (either-closed gs cs k (omega (arith, e)) c)))))
