-- Parts of a list: what a block of an image is after a put, and where numbered blocks lie.
use Rattle.std.proofs.Common.{◌≡◌, ℕ, ◌+◌, ◌-◌, ◌*◌, ◌<◌, ◌≤◌, ◌⊎◌, List, ◌++◌, length, get_or, take, drop, replicate, sym, ap, ◌∙◌, subst, inl, inr, append_assoc, mul-le-mul_right, suc-mul, arith, length-append, length-drop, take-append-drop, length-take, get_or-drop, get_or-take, drop-drop}
use lib.Seq.{take-append-le, drop-append-le, drop-append-add}
use Rattle.std.proofs.lemmas.Bool.{cases_order}
use Rattle.std.proofs.lemmas.List.{take-replicate, drop-replicate}
use Rattle.memory.specs.Page.{block, put}

pub length-block : (at n : ℕ) (image : List ℕ) → at + n ≤ length image → length (block at n image) ≡ n
length-block at n image h = simp (length-take, length-drop) (omega arith)

pub get_or-block : (at n : ℕ) (image : List ℕ) (i : ℕ) → i < n → get_or (block at n image) i 0 ≡ get_or image (at + i) 0
get_or-block at n image i h = get_or-take n _ i 0 h ∙ get_or-drop at image i 0

pub block-front : (P R : List ℕ) (b n : ℕ) → b + n ≤ length P → block b n (P ++ R) ≡ block b n P
block-front P R b n h =
    ap (λ y. take n y) (drop-append-le b P R (omega arith)) ∙ take-append-le n (drop b P) R (simp length-drop (omega arith))

pub block_back : (P R : List ℕ) (b n : ℕ) → length P ≤ b → block b n (P ++ R) ≡ block (b - length P) n R
block_back P R b n h =
    subst (λ y. block y n (P ++ R) ≡ block (b - length P) n R) e (ap (λ y. take n y) (drop-append-add P R (b - length P)))
  where
    e : length P + (b - length P) ≡ b
    e = omega arith

pub block-replicate : (b n N v : ℕ) → b + n ≤ N → block b n (replicate N v) ≡ replicate n v
block-replicate b n N v h = ap (λ y. take n y) (drop-replicate b N v) ∙ take-replicate n (N - b) v (omega arith)

pub length-put : (at : ℕ) (xs image : List ℕ) → at + length xs ≤ length image → length (put at xs image) ≡ length image
length-put at xs image h = simp (length-append, length-take, length-drop) (omega arith)

-- a block put where it stands
pub put_same : (at n : ℕ) (image : List ℕ) → at + n ≤ length image → put at (block at n image) image ≡ image
put_same at n image h =
    ap (λ y. take at image ++ (block at n image ++ y))
    (ap (λ y. drop (at + y) image) (length-block at n image h) ∙ sym (drop-drop n at image))
    ∙ (ap (λ y. take at image ++ y) (take-append-drop n (drop at image)) ∙ take-append-drop at image)

-- a block away from what was put
pub block-put_out :
    (at : ℕ) (xs image : List ℕ) (b n : ℕ) → at + length xs ≤ length image → (b + n ≤ at) ⊎ (at + length xs ≤ b)
    → block b n (put at xs image) ≡ block b n image
block-put_out at xs image b n h (inl k) =
    block-front (take at image) _ b n (simp length-take (omega arith))
    ∙ sym (subst (λ y. block b n y ≡ block b n (take at image)) (take-append-drop at image)
    (block-front (take at image) (drop at image) b n (simp length-take (omega arith))))
block-put_out at xs image b n h (inr k) =
    ap (λ y. block b n y) (sym (append_assoc (take at image) xs (drop end image)))
    ∙ (block_back (take at image ++ xs) _ b n (simp (length-append, length-take) (omega arith))
    ∙ (ap (λ y. block (b - y) n (drop end image)) e
    ∙ sym (subst (λ y. block b n y ≡ block (b - length (take end image)) n (drop end image)) (take-append-drop end image)
    (block_back (take end image) (drop end image) b n (simp length-take (omega arith))))))
  where
    end : ℕ
    end = at + length xs

    e : length (take at image ++ xs) ≡ length (take end image)
    e = simp (length-append, length-take) (omega arith)

-- a block of what was put
pub block-put_in :
    (at : ℕ) (xs image : List ℕ) (b n : ℕ) → at ≤ length image → at ≤ b → b + n ≤ at + length xs
    → block b n (put at xs image) ≡ block (b - at) n xs
block-put_in at xs image b n h k l =
    block_back (take at image) _ b n (simp length-take (omega arith))
    ∙ (ap (λ y. block (b - y) n (xs ++ drop (at + length xs) image)) e ∙ block-front xs _ (b - at) n (omega arith))
  where
    e : length (take at image) ≡ at
    e = simp length-take (omega arith)

-- block q of blocks of z ends within n of them
pub below_end : (z q n : ℕ) → q < n → q * z + z ≤ n * z
below_end z q n h = subst (λ y. y ≤ n * z) (suc-mul q z) (mul-le-mul_right z h)

-- blocks of z at different numbers lie apart
pub apart : (z q r : ℕ) → (q ≡ r → ⊥) → (q * z + z ≤ r * z) ⊎ (r * z + z ≤ q * z)
apart z q r d = go (cases_order q r)
  where
    go : (q ≡ r) ⊎ ((q < r) ⊎ (r < q)) → (q * z + z ≤ r * z) ⊎ (r * z + z ≤ q * z)
    go (inl e) = absurd (d e)
    go (inr (inl h)) = inl (below_end z q r h)
    go (inr (inr h)) = inr (below_end z r q h)
