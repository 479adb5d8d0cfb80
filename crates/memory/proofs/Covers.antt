-- What a page cycle leaves of a page, place by place.
use Rattle.std.proofs.Common.{◌≡◌, ℕ, zero, suc, ◌+◌, ◌%◌, ◌<◌, List, [], ◌∷◌, map, length, get_or, set, replicate, Some, None, Option, sym, refl, ap, ◌∙◌, subst, add-zero, arith, get_or-set_other}
use lib.ListN.{length-map, get_or-replicate}
use Rattle.memory.specs.Page.{laid, merged, joint, cover}

pub next : (j i : ℕ) → j + suc i ≡ suc j + i
next j i = omega arith

-- a place that is laid with nothing
pub laid_off :
    {A : Type 0} (z : ℕ) (places : List A) (a : ℕ) (xs : List A) (i : ℕ) (d : A)
    → ((j : ℕ) → j < length xs → i ≡ (a + j) % z → ⊥) → get_or (laid z places a xs) i d ≡ get_or places i d
laid_off z places a [] i d h = refl
laid_off z places a (x ∷ xs) i d h =
    laid_off z (set places (a % z) x) (suc a) xs i d
    (λ j l e. h (suc j) (omega arith) (e ∙ ap (λ y. y % z) (sym (next a j))))
    ∙ get_or-set_other places (a % z) i x d (λ e. h 0 (omega arith) (e ∙ ap (λ y. y % z) (sym (add-zero a))))

-- a place that is sent nothing
pub cover_off :
    (z a : ℕ) (sent : List ℕ) (i : ℕ) → i < z → ((j : ℕ) → j < length sent → i ≡ (a + j) % z → ⊥)
    → get_or (cover z a sent) i None ≡ None
unfolding cover
cover_off z a sent i l h =
    laid_off z (replicate z None) a (map Some sent) i None
    (λ j u. h j (subst (λ y. j < y) (length-map sent Some) u))
    ∙ get_or-replicate z i None None l

pub length_merged : (f : ℕ → ℕ → ℕ) (old : List ℕ) (sent : List (Option ℕ)) → length (merged f old sent) ≡ length old
length_merged f [] sent = refl
length_merged f (o ∷ old) [] = refl
length_merged f (o ∷ old) (s ∷ sent) = ap suc (length_merged f old sent)

pub get_or-merged :
    (f : ℕ → ℕ → ℕ) (old : List ℕ) (sent : List (Option ℕ)) (i : ℕ) → i < length old
    → get_or (merged f old sent) i 0 ≡ joint f (get_or old i 0) (get_or sent i None)
get_or-merged f [] sent i h = absurd (omega arith)
get_or-merged f (o ∷ old) [] i h = refl
get_or-merged f (o ∷ old) (s ∷ sent) zero h = refl
get_or-merged f (o ∷ old) (s ∷ sent) (suc i) h = get_or-merged f old sent i (omega arith)
