-- Images hold bytes: what is put into one keeps it an image.
use Rattle.std.proofs.Common.{ℕ, zero, suc, ◌+◌, ◌<◌, ◌≤◌, List, [], ◌∷◌, ◌++◌, length, get_or, take, drop, sym, ◌∙◌, subst, ⊎_elim, arith, length-take, get_or-drop, get_or-take}
use Rattle.std.proofs.lemmas.List.{get_or_past}
use Rattle.std.proofs.lemmas.Bool.{cases_lt}
use Rattle.memory.specs.Shape.{Shape, size, Imaged}
use Rattle.memory.specs.Page.{put}
use Rattle.memory.proofs.Blocks.{length-put}

-- each item is a byte
abbrev pub Bytes : List ℕ → Type 0
Bytes xs = (i : ℕ) → get_or xs i 0 < 256

pub bytes-append : (xs ys : List ℕ) → Bytes xs → Bytes ys → Bytes (xs ++ ys)
bytes-append [] ys h k = k
bytes-append (x ∷ xs) ys h k = λ i. go i (bytes-append xs ys (λ j. h (suc j)) k)
  where
    go : (i : ℕ) → Bytes (xs ++ ys) → get_or (x ∷ (xs ++ ys)) i 0 < 256
    go zero ih = h 0
    go (suc i) ih = ih i

pub bytes_take : (n : ℕ) (xs : List ℕ) → Bytes xs → Bytes (take n xs)
bytes_take n xs h i = ⊎_elim front past (cases_lt i n)
  where
    front : i < n → get_or (take n xs) i 0 < 256
    front l = subst (λ y. y < 256) (sym (get_or-take n xs i 0 l)) (h i)

    past : n ≤ i → get_or (take n xs) i 0 < 256
    past l = subst (λ y. y < 256) (sym (get_or_past (take n xs) i 0 (simp length-take (omega arith)))) (omega arith)

pub bytes_drop : (n : ℕ) (xs : List ℕ) → Bytes xs → Bytes (drop n xs)
bytes_drop n xs h i = subst (λ y. y < 256) (sym (get_or-drop n xs i 0)) (h (n + i))

pub imaged-put :
    (m : Shape) (at : ℕ) (xs image : List ℕ) → Imaged m image → Bytes xs → at + length xs ≤ size m → Imaged m (put at xs image)
imaged-put m at xs image I h l =
    record {
      whole = length-put at xs image (omega (arith, I.whole)) ∙ I.whole;
      bytes =
          bytes-append (take at image) _ (bytes_take at image I.bytes)
          (bytes-append xs _ h (bytes_drop (at + length xs) image I.bytes));
    }
