-- What a cycle leaves alone: the other pages, or the other sectors.
use Rattle.std.proofs.Common.{◌≡◌, ℕ, ◌+◌, ◌-◌, ◌*◌, ◌/◌, ◌%◌, ◌<◌, ◌≤◌, ◌⊎◌, List, ◌++◌, length, get_or, take, drop, replicate, refl, ap, ◌∙◌, inl, inr, ⊎_elim, mod-lt, add-mul, div-add-mod', arith, length-drop, length-take}
use lib.ListN.{length-replicate}
use Rattle.std.proofs.lemmas.Nat.{div_below, mul-le}
use Rattle.std.proofs.lemmas.List.{get_or_append_left, get_or-append_right, get_or-take, get_or-drop}
use Rattle.std.proofs.lemmas.Bool.{cases_order}
use Rattle.memory.specs.Shape.{Shape, size, sector_at}
use Rattle.memory.specs.Page.{put, page, merged, cover, written}
use Rattle.memory.specs.Cycle.{sector_erase, effect, sector_start}
use Rattle.memory.proofs.Covers.{length_merged}

-- a place away from what was put
pub get_or-put_off : (at : ℕ) (xs image : List ℕ) (i : ℕ) → at + length xs ≤ length image → (i < at) ⊎ (at + length xs ≤ i)
    → get_or (put at xs image) i 0 ≡ get_or image i 0
get_or-put_off at xs image i h (inl k) =
    get_or_append_left (take at image) (xs ++ drop (at + length xs) image) 0 i (simp length-take (omega arith)) ∙ get_or-take at image i 0 k
get_or-put_off at xs image i h (inr k) =
    get_or-append_right (take at image) (xs ++ drop (at + length xs) image) at i 0 (simp length-take (omega arith)) (omega arith)
    ∙ (get_or-append_right xs (drop (at + length xs) image) (length xs) (i - at) 0 refl (omega arith)
    ∙ (get_or-drop (at + length xs) image (i - at - length xs) 0 ∙ ap (λ x. get_or image x 0) e))
  where
    e : at + length xs + (i - at - length xs) ≡ i
    e = omega arith

-- below block q of blocks of z, or past it
pub around : (z i q : ℕ) → 0 < z → (i / z ≡ q → ⊥) → (i < q * z) ⊎ (q * z + z ≤ i)
around z i q h d = go (cases_order (i / z) q)
  where
    whole : i / z * z + i % z ≡ i
    whole = div-add-mod' i z

    rest : i % z < z
    rest = mod-lt i h

    go : (i / z ≡ q) ⊎ ((i / z < q) ⊎ (q < i / z)) → (i < q * z) ⊎ (q * z + z ≤ i)
    go (inl e) = absurd (d e)
    go (inr (inl l)) =
        let m = mul-le (i / z + 1) z q z (omega arith) (omega arith) in inl (omega (arith, add-mul (i / z) 1 z))
    go (inr (inr l)) =
        let m = mul-le (q + 1) z (i / z) z (omega arith) (omega arith) in inr (omega (arith, add-mul q 1 z))

-- the same for sector s of sectors of p blocks
pub around_sector : (z p i s : ℕ) → 0 < z → 0 < p → (i / z / p ≡ s → ⊥) → (i < s * p * z) ⊎ (s * p * z + p * z ≤ i)
around_sector z p i s h k d = go (around p (i / z) s k d)
  where
    whole : i / z * z + i % z ≡ i
    whole = div-add-mod' i z

    rest : i % z < z
    rest = mod-lt i h

    go : (i / z < s * p) ⊎ (s * p + p ≤ i / z) → (i < s * p * z) ⊎ (s * p * z + p * z ≤ i)
    go (inl l) =
        let m = mul-le (i / z + 1) z (s * p) z (omega arith) (omega arith) in inl (omega (arith, add-mul (i / z) 1 z))
    go (inr l) =
        let m = mul-le (s * p + p) z (i / z) z l (omega arith) in inr (omega (arith, add-mul (s * p) p z))

module _ (m : Shape) (some_bytes : 0 < m.bytes) (some_pages : 0 < m.pages) (image : List ℕ) (whole : length image ≡ size m) where
  -- the page of an address inside ends inside, and is a page long
  page_end : (a : ℕ) → a < length image → a / m.bytes * m.bytes + m.bytes ≤ length image
  page_end a h =
      let d = div_below a m.bytes (m.sectors * m.pages) some_bytes (omega arith) in
      let l = mul-le (a / m.bytes + 1) m.bytes (m.sectors * m.pages) m.bytes (omega arith) (omega arith) in
      omega (arith, add-mul (a / m.bytes) 1 m.bytes)

  page_long : (f : ℕ → ℕ → ℕ) (a : ℕ) (sent : List ℕ) → a < length image
      → length (merged f (page m.bytes (a / m.bytes) image) (cover m.bytes (a % m.bytes) sent)) ≡ m.bytes
  page_long f a sent h =
      let e = page_end a h in
      length_merged f (page m.bytes (a / m.bytes) image) (cover m.bytes (a % m.bytes) sent) ∙ simp (length-take, length-drop) (omega arith)

  sector_end : (a : ℕ) → a < length image → sector_start m a + m.pages * m.bytes ≤ length image
  sector_end a h =
      let d = div_below a m.bytes (m.sectors * m.pages) some_bytes (omega arith) in
      let s = div_below (a / m.bytes) m.pages m.sectors some_pages d in
      let l = mul-le (sector_at m a + 1) m.pages m.sectors m.pages (omega arith) (omega arith) in
      let n = mul-le (sector_at m a * m.pages + m.pages) m.bytes (m.sectors * m.pages) m.bytes (omega (arith, add-mul (sector_at m a) 1 m.pages)) (omega arith) in
      omega (arith, add-mul (sector_at m a * m.pages) m.pages m.bytes)

  -- a page cycle leaves every other page
  pub written_off : (f : ℕ → ℕ → ℕ) (a : ℕ) (sent : List ℕ) (i : ℕ) → a < length image → (i / m.bytes ≡ a / m.bytes → ⊥)
      → get_or (written f m.bytes a sent image) i 0 ≡ get_or image i 0
  written_off f a sent i h d =
      let l = page_long f a sent h in
      let e = page_end a h in
      get_or-put_off (a / m.bytes * m.bytes) _ image i (omega arith)
      (⊎_elim (λ u. inl u) (λ u. inr (omega arith)) (around m.bytes i (a / m.bytes) some_bytes d))

  -- a sector erase leaves every other sector
  pub erased_off : (a i : ℕ) → a < length image → (sector_at m i ≡ sector_at m a → ⊥) → get_or (effect m (sector_erase a) image) i 0 ≡ get_or image i 0
  erased_off a i h d =
      let l = length-replicate {A = ℕ} (m.pages * m.bytes) 255 in
      let e = sector_end a h in
      get_or-put_off (sector_start m a) (replicate (m.pages * m.bytes) 255) image i (omega arith)
      (⊎_elim (λ u. inl u) (λ u. inr (omega arith)) (around_sector m.bytes m.pages i (sector_at m a) some_bytes some_pages d))
