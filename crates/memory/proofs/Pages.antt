-- Where the pages and sectors of an image lie.
use Rattle.std.proofs.Common.{◌≡◌, ℕ, ◌+◌, ◌-◌, ◌*◌, ◌/◌, ◌%◌, ◌<◌, ◌≤◌, ◌⊎◌, List, length, get_or, sym, ap, ◌∙◌, subst, inl, inr, ⊎_elim, mul-le-mul_right, mod-lt, mul_assoc, add-mul, mul-zero, div-add-mod', div-lt_iff_lt-mul, zero-mul, arith}
use Rattle.std.proofs.lemmas.Bool.{cases_eq}
use Rattle.memory.specs.Shape.{Shape, size, sector_at}
use Rattle.memory.specs.Page.{block, page}
use Rattle.memory.proofs.Blocks.{length-block, get_or-block, below_end, apart}

-- a shape whose sectors and pages hold something
pub record Real (m : Shape) : Type 0 where
  pub pages : 0 < m.pages
  pub bytes : 0 < m.bytes

-- the length of an image of the shape
abbrev pub Whole : Shape → List ℕ → Type 0
Whole m image = length image ≡ size m

abbrev pub sector_of : Shape → ℕ → List ℕ → List ℕ
sector_of m k image = block (k * m.pages * m.bytes) (m.pages * m.bytes) image

-- a memory holds nothing, or its sectors and pages hold something
pub empty_or_real : (m : Shape) → (size m ≡ 0) ⊎ Real m
empty_or_real m = go (cases_eq m.pages 0) (cases_eq m.bytes 0)
  where
    go : (m.pages ≡ 0) ⊎ (m.pages ≡ 0 → ⊥) → (m.bytes ≡ 0) ⊎ (m.bytes ≡ 0 → ⊥) → (size m ≡ 0) ⊎ Real m
    go (inl e) b = inl (ap (λ y. m.sectors * y * m.bytes) e ∙ (ap (λ y. y * m.bytes) (mul-zero m.sectors) ∙ zero-mul m.bytes))
    go (inr d) (inl e) = inl (ap (λ y. m.sectors * m.pages * y) e ∙ mul-zero (m.sectors * m.pages))
    go (inr d) (inr f) = inr (record { pages = omega arith; bytes = omega arith })

-- page j of sector k lies in sector k, and apart from any other
pub in_sector :
    (p z k j : ℕ) → j < p → (k * p * z ≤ (k * p + j) * z) × ((k * p + j) * z + z ≤ k * p * z + p * z)
in_sector p z k j h = (omega (arith, add-mul (k * p) j z), omega (arith, add-mul (k * p) j z, below_end z j p h))

pub out_sector :
    (p z k j k' : ℕ) → j < p → (k ≡ k' → ⊥)
    → ((k * p + j) * z + z ≤ k' * p * z) ⊎ (k' * p * z + p * z ≤ (k * p + j) * z)
out_sector p z k j k' h d = ⊎_elim (λ a. inl (omega (arith, t, u))) (λ a. inr (omega (arith, t, u))) (apart (p * z) k k' d)
  where
    t : (k * p * z ≤ (k * p + j) * z) × ((k * p + j) * z + z ≤ k * p * z + p * z)
    t = in_sector p z k j h

    u : (k * p * z ≡ k * (p * z)) × (k' * p * z ≡ k' * (p * z))
    u = (mul_assoc k p z, mul_assoc k' p z)

module _ (m : Shape) where
  -- page j of sector k, among all pages
  pub number_lt : (k j : ℕ) → k < m.sectors → j < m.pages → k * m.pages + j < m.sectors * m.pages
  number_lt k j h i = omega (arith, below_end m.pages k m.sectors h)

  pub page-fits : (q : ℕ) (image : List ℕ) → Whole m image → q < m.sectors * m.pages → q * m.bytes + m.bytes ≤ length image
  page-fits q image e h = omega (arith, below_end m.bytes q (m.sectors * m.pages) h)

  pub length-page : (q : ℕ) (image : List ℕ) → Whole m image → q < m.sectors * m.pages → length (page m.bytes q image) ≡ m.bytes
  length-page q image e h = length-block (q * m.bytes) m.bytes image (page-fits q image e h)

  pub sector-fits :
      (k : ℕ) (image : List ℕ) → Whole m image → k < m.sectors
      → k * m.pages * m.bytes + m.pages * m.bytes ≤ length image
  sector-fits k image e h =
      omega (
        arith,
        mul-le-mul_right m.bytes (below_end m.pages k m.sectors h),
        add-mul (k * m.pages) m.pages m.bytes,
      )

module _ (m : Shape) (R : Real m) where
  -- the page and the sector of an address that is inside are there
  pub page_and_sector : (a : ℕ) → a < size m → (a / m.bytes < m.sectors * m.pages) × (sector_at m a < m.sectors)
  page_and_sector a h = let q = (div-lt_iff_lt-mul R.bytes).1 h in (q, (div-lt_iff_lt-mul R.pages).1 q)

  -- an address lies in its sector
  pub in_its_sector :
      (a : ℕ)
      → (sector_at m a * m.pages * m.bytes ≤ a) × (a < sector_at m a * m.pages * m.bytes + m.pages * m.bytes)
  in_its_sector a = (
    omega (arith, t, div-add-mod' a m.bytes),
    omega (arith, t, div-add-mod' a m.bytes, mod-lt a R.bytes),
  )
    where
      t : (sector_at m a * m.pages * m.bytes ≤ a / m.bytes * m.bytes)
          × (a / m.bytes * m.bytes + m.bytes ≤ sector_at m a * m.pages * m.bytes + m.pages * m.bytes)
      t =
          subst
          (λ q. (sector_at m a * m.pages * m.bytes ≤ q * m.bytes) × (q * m.bytes + m.bytes ≤ sector_at m a * m.pages * m.bytes + m.pages * m.bytes))
          (div-add-mod' (a / m.bytes) m.pages)
          (in_sector m.pages m.bytes (sector_at m a) (a / m.bytes % m.pages) (mod-lt _ R.pages))

  -- images that agree in a sector agree in each of its bytes
  pub same_byte :
      (a : ℕ) (image other : List ℕ) → sector_of m (sector_at m a) image ≡ sector_of m (sector_at m a) other
      → get_or image a 0 ≡ get_or other a 0
  same_byte a image other e = sym (byte image) ∙ (ap (λ y. get_or y (a - start) 0) e ∙ byte other)
    where
      start : ℕ
      start = sector_at m a * m.pages * m.bytes

      at : start + (a - start) ≡ a
      at = omega (arith, in_its_sector a)

      byte : (i : List ℕ) → get_or (sector_of m (sector_at m a) i) (a - start) 0 ≡ get_or i a 0
      byte i =
          get_or-block start (m.pages * m.bytes) i (a - start) (omega (arith, in_its_sector a))
          ∙ ap (λ y. get_or i y 0) at
