-- Reading that does not come to the end does not roll over.
use Rattle.std.proofs.Common.{◌≡◌, ℕ, zero, suc, ◌+◌, ◌%◌, ◌<◌, ◌≤◌, List, ◌∷◌, length, get_or, take, sym, refl, ap, ◌∙◌, ap₂, mod-lt, mod-eq_of_lt, arith}
use Rattle.std.proofs.lemmas.List.{drop_more}
use Rattle.std.proofs.Math.Nat.{mod-add-mod}
use Rattle.memory.specs.Page.{block}
use Rattle.memory.specs.Image.{rolled}

pub rolled-within : (image : List ℕ) (a n : ℕ) → a + n ≤ length image → rolled image a n ≡ block a n image
unfolding rolled
rolled-within image a zero h = refl
rolled-within image a (suc n) h =
    let l : a < length image = omega arith in
    let m : a % length image ≡ a = mod-eq_of_lt l in
    ap₂ (λ x y. get_or image x 0 ∷ y) m (rolled-within image (a + 1) n (omega arith)) ∙ sym (ap (take (suc n)) (drop_more image a 0 l))

-- what is read from a place is read from that place modulo the length
pub rolled-mod : (image : List ℕ) (a b n : ℕ) → 0 < length image → a % length image ≡ b % length image → rolled image a n ≡ rolled image b n
unfolding rolled
rolled-mod image a b zero h e = refl
rolled-mod image a b (suc n) h e =
    ap₂ (λ x y. get_or image x 0 ∷ y) e (rolled-mod image (a + 1) (b + 1) n h (sym (mod-add-mod a (length image) 1) ∙ ap (λ x. (x + 1) % length image) e ∙ mod-add-mod b (length image) 1))

-- a run that does not come to the end is read as it stands
pub rolled-straight : (image : List ℕ) (from n : ℕ) → 0 < length image → from % length image + n ≤ length image
    → rolled image from n ≡ block (from % length image) n image
rolled-straight image from n h k =
    rolled-mod image from (from % length image) n h (sym (mod-eq_of_lt (mod-lt from h)))
    ∙ rolled-within image (from % length image) n k
