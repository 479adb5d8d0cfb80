-- What an accepted cycle leaves: lengths, the pages it writes or erases, and all else as it was.
use Rattle.std.proofs.Common.{◌≡◌, ℕ, zero, suc, ◌+◌, ◌*◌, ◌/◌, ◌%◌, ◌<◌, ◌≤◌, Bool, true, false, ◌⊎◌, List, length, take, drop, replicate, sym, refl, ap, ◌∙◌, subst, inl, inr, ⊎_elim, mod-lt, mul_assoc, div-add-mod', arith, take_all}
use native.Mathlib.Nat.{sub_self}
use lib.Bits.{bit_and}
use lib.ListN.{length-replicate}
use Rattle.std.proofs.lemmas.Bool.{and_parts, both_ways, ltb-true, leb-true, not-true}
use Rattle.memory.specs.Shape.{Shape, sector_at}
use Rattle.memory.specs.Page.{block, put, page, merged, cover, written, blank}
use Rattle.memory.specs.Cycle.{Cycle, program, alter, preset, sector_erase, bulk_erase, replacing, effect, writable, fits_page, accepts}
use Rattle.memory.proofs.Blocks.{length-put, block-put_out, block-put_in, block-replicate, apart}
use Rattle.memory.proofs.Covers.{length_merged}
use Rattle.memory.proofs.Free.{free_at}
use Rattle.memory.proofs.Pages.{Real, Whole, page_and_sector, page-fits, length-page, sector-fits, in_sector, out_sector, sector_of}

pub blank-replicate : (n : ℕ) → blank (replicate n 255) ≡ true
blank-replicate zero = refl
blank-replicate (suc n) = blank-replicate n

module _ (m : Shape) where
  pub fits_page_facts : (sent : List ℕ) → fits_page m sent ≡ true → (0 < length sent) × (length sent ≤ m.bytes)
  fits_page_facts sent t = let a = and_parts _ _ t in (ltb-true _ _ a.0, leb-true _ _ a.1)

  -- a page cycle on page `address / m.bytes`
  module _
      (f : ℕ → ℕ → ℕ) (address : ℕ) (sent image : List ℕ) (e : Whole m image) (h : address / m.bytes < m.sectors * m.pages)
    where
      abbrev pub new_page : List ℕ
      new_page = merged f (page m.bytes (address / m.bytes) image) (cover m.bytes (address % m.bytes) sent)

      pub length_new : length new_page ≡ m.bytes
      length_new = length_merged f _ _ ∙ length-page m (address / m.bytes) image e h

      put-fits : address / m.bytes * m.bytes + length new_page ≤ length image
      put-fits = omega (arith, length_new, page-fits m (address / m.bytes) image e h)

      pub length-written : Whole m (written f m.bytes address sent image)
      length-written = length-put _ new_page image put-fits ∙ e

      pub page-written : page m.bytes (address / m.bytes) (written f m.bytes address sent image) ≡ new_page
      page-written =
          block-put_in _ new_page image (address / m.bytes * m.bytes) m.bytes (omega (arith, put-fits)) (omega arith)
          (omega (arith, length_new))
          ∙ (ap (λ y. take m.bytes (drop y new_page)) (sub_self (address / m.bytes * m.bytes))
          ∙ take_all m.bytes new_page (omega (arith, length_new)))

      pub block_written :
          (b n : ℕ) → (b + n ≤ address / m.bytes * m.bytes) ⊎ (address / m.bytes * m.bytes + m.bytes ≤ b)
          → block b n (written f m.bytes address sent image) ≡ block b n image
      block_written b n t =
          block-put_out _ new_page image b n put-fits (⊎_elim (λ u. inl u) (λ u. inr (omega (arith, length_new))) t)

  -- sector k erased
  abbrev pub erased_at : ℕ → List ℕ → List ℕ
  erased_at k image = put (k * m.pages * m.bytes) (replicate (m.pages * m.bytes) 255) image

  module _ (k : ℕ) (image : List ℕ) (e : Whole m image) (h : k < m.sectors) where
    pub erased-fits : k * m.pages * m.bytes + length {A = ℕ} (replicate (m.pages * m.bytes) 255) ≤ length image
    erased-fits = simp length-replicate (sector-fits m k image e h)

    pub length-erased : Whole m (erased_at k image)
    length-erased = length-put _ (replicate (m.pages * m.bytes) 255) image erased-fits ∙ e

    pub block-erased :
        (b n : ℕ) → (b + n ≤ k * m.pages * m.bytes) ⊎ (k * m.pages * m.bytes + m.pages * m.bytes ≤ b)
        → block b n (erased_at k image) ≡ block b n image
    block-erased b n t =
        block-put_out _ (replicate (m.pages * m.bytes) 255) image b n erased-fits
        (⊎_elim (λ u. inl u) (λ u. inr (simp length-replicate u)) t)

    pub page-erased :
        (j : ℕ) → j < m.pages → page m.bytes (k * m.pages + j) (erased_at k image) ≡ replicate m.bytes 255
    page-erased j l =
        let t = in_sector m.pages m.bytes k j l in
        block-put_in _ (replicate (m.pages * m.bytes) 255) image _ m.bytes
        (omega (arith, sector-fits m k image e h)) t.0 (simp length-replicate t.1)
        ∙ block-replicate _ m.bytes (m.pages * m.bytes) 255 (omega (arith, t))

module _ (m : Shape) (R : Real m) (prot : ℕ → Bool) where
  -- what an accepted address says: its page and sector are there, and not protected
  pub writable_facts :
      (address : ℕ) → writable m prot address ≡ true
      → (address / m.bytes < m.sectors * m.pages) × (sector_at m address < m.sectors) × (prot (sector_at m address) ≡ false)
  writable_facts address t =
      let a = and_parts _ _ t in
      let b = page_and_sector m R address (ltb-true _ _ a.0) in (b.0, b.1, not-true _ a.1)

  pub length-effect :
      (c : Cycle) (image : List ℕ) → Whole m image → accepts m prot c image ≡ true → Whole m (effect m c image)
  length-effect (program a sent) image e t =
      length-written m bit_and a sent image e (writable_facts a (and_parts _ _ t).0).0
  length-effect (alter a sent) image e t =
      length-written m replacing a sent image e (writable_facts a (and_parts _ _ t).0).0
  length-effect (preset a sent) image e t =
      length-written m bit_and a sent image e (writable_facts a (and_parts _ _ (and_parts _ _ t).0).0).0
  length-effect (sector_erase a) image e t = length-erased m (sector_at m a) image e (writable_facts a t).1
  length-effect bulk_erase image e t = length-replicate (length image) 255 ∙ e

  -- a protected sector is left as it was
  module _ (k : ℕ) (closed : prot k ≡ true) (inside : k < m.sectors) where
    other : (a : ℕ) → writable m prot a ≡ true → sector_at m a ≡ k → ⊥
    other a t e = both_ways _ (writable_facts a t).2 (ap prot e ∙ closed)

    written-guarded :
        (f : ℕ → ℕ → ℕ) (a : ℕ) (sent image : List ℕ) → Whole m image → writable m prot a ≡ true
        → sector_of m k (written f m.bytes a sent image) ≡ sector_of m k image
    written-guarded f a sent image e t =
        block_written m f a sent image e (writable_facts a t).0 _ _ (⊎_elim (λ u. inr u) (λ u. inl u) sides)
      where
        sides :
            (a / m.bytes * m.bytes + m.bytes ≤ k * m.pages * m.bytes)
            ⊎ (k * m.pages * m.bytes + m.pages * m.bytes ≤ a / m.bytes * m.bytes)
        sides =
            subst
            (λ y. (y * m.bytes + m.bytes ≤ k * m.pages * m.bytes) ⊎ (k * m.pages * m.bytes + m.pages * m.bytes ≤ y * m.bytes))
            (div-add-mod' (a / m.bytes) m.pages)
            (out_sector m.pages m.bytes (sector_at m a) (a / m.bytes % m.pages) k (mod-lt _ R.pages) (other a t))

    pub guarded :
        (c : Cycle) (image : List ℕ) → Whole m image → accepts m prot c image ≡ true
        → sector_of m k (effect m c image) ≡ sector_of m k image
    guarded (program a sent) image e t = written-guarded bit_and a sent image e (and_parts _ _ t).0
    guarded (alter a sent) image e t = written-guarded replacing a sent image e (and_parts _ _ t).0
    guarded (preset a sent) image e t = written-guarded bit_and a sent image e (and_parts _ _ (and_parts _ _ t).0).0
    guarded (sector_erase a) image e t =
        let u = apart (m.pages * m.bytes) k (sector_at m a) (λ v. other a t (sym v)) in
        let b = mul_assoc k m.pages m.bytes in
        let c = mul_assoc (sector_at m a) m.pages m.bytes in
        block-erased m (sector_at m a) image e (writable_facts a t).1 (k * m.pages * m.bytes) (m.pages * m.bytes)
        (⊎_elim (λ v. inl (omega arith)) (λ v. inr (omega arith)) u)
    guarded bulk_erase image e t = absurd (both_ways _ (free_at prot m.sectors k t inside) closed)
