-- What each cycle leaves of an image, place by place.
use Rattle.std.proofs.Common.{◌≡◌, ℕ, zero, suc, ◌+◌, ◌-◌, ◌*◌, ◌/◌, ◌%◌, ◌<◌, ◌≤◌, List, [], ◌∷◌, ◌++◌, map, length, get_or, take, drop, set, replicate, Some, None, sym, ap, ◌∙◌, subst, ⊎_elim, add-zero, mod-lt, div-add-mod', arith, length-set, length-take}
use lib.ListN.{length-map, length-replicate, get_or-replicate}
use Rattle.std.proofs.Math.Nat.{mod-add-mod}
use Rattle.std.proofs.lemmas.List.{get_or_append_left, get_or-append_right, get_or-set_same, get_or-map}
use Rattle.std.proofs.lemmas.Bool.{cases_eq}
use Rattle.memory.specs.Shape.{Shape, size, sector_at}
use Rattle.memory.specs.Page.{put, page, laid, joint, merged, cover, written}
use Rattle.memory.specs.Cycle.{sector_erase, effect, sector_start}
use Rattle.memory.proofs.Blocks.{get_or-block}
use Rattle.memory.proofs.Covers.{next, laid_off, cover_off, length_merged, get_or-merged}
use Rattle.memory.proofs.Pages.{Real, length-page, page-fits, sector-fits, page_and_sector, in_its_sector}
use Rattle.memory.proofs.Off.{written_off}
use Rattle.port.specs.Laws.{place, Lays}

-- the last item for a place is the one that lies there
laid_last :
    {A : Type 0} (z : ℕ) (places : List A) (a : ℕ) (xs : List A) (j : ℕ) (d : A) → 0 < z → length places ≡ z → j < length xs
    → ((l : ℕ) → j < l → l < length xs → (a + l) % z ≡ (a + j) % z → ⊥)
    → get_or (laid z places a xs) ((a + j) % z) d ≡ get_or xs j d
laid_last z places a [] j d p e h n = absurd (omega arith)
laid_last z places a (x ∷ xs) zero d p e h n =
    laid_off z (set places (a % z) x) (suc a) xs ((a + 0) % z) d
    (λ k l w. n (suc k) (omega arith) (omega arith) (ap (λ y. y % z) (next a k) ∙ sym w))
    ∙ ap (λ y. get_or (set places (a % z) x) (y % z) d) (add-zero a)
    ∙ get_or-set_same places (a % z) x d (subst (λ y. a % z < y) (sym e) (mod-lt a p))
laid_last z places a (x ∷ xs) (suc j) d p e h n =
    ap (λ y. get_or (laid z (set places (a % z) x) (suc a) xs) (y % z) d) (next a j)
    ∙ laid_last z (set places (a % z) x) (suc a) xs j d p (length-set places (a % z) x ∙ e) (omega arith)
    (λ l u v w. n (suc l) (omega arith) (omega arith) (ap (λ y. y % z) (next a l) ∙ w ∙ sym (ap (λ y. y % z) (next a j))))

cover_last :
    (z a : ℕ) (sent : List ℕ) (j : ℕ) → 0 < z → j < length sent
    → ((l : ℕ) → j < l → l < length sent → place z a l ≡ place z a j → ⊥)
    → get_or (cover z (a % z) sent) ((a + j) % z) None ≡ Some (get_or sent j 0)
unfolding cover
cover_last z a sent j p h n =
    ap (λ y. get_or (laid z (replicate z None) (a % z) (map Some sent)) y None) (sym (mod-add-mod a z j))
    ∙ laid_last z (replicate z None) (a % z) (map Some sent) j None p (length-replicate z None)
    (subst (λ y. j < y) (sym (length-map sent Some)) h)
    (λ l u v w. n l u (subst (λ y. l < y) (length-map sent Some) v)
    (ap (λ y. a / z * z + y) (sym (mod-add-mod a z l) ∙ w ∙ mod-add-mod a z j)))
    ∙ get_or-map Some sent j 0 None h

-- a place within what was put
get_or-put_in : (at : ℕ) (xs image : List ℕ) (r : ℕ) → at + length xs ≤ length image → r < length xs
    → get_or (put at xs image) (at + r) 0 ≡ get_or xs r 0
get_or-put_in at xs image r h l =
    get_or-append_right (take at image) (xs ++ drop (at + length xs) image) at (at + r) 0 (simp length-take (omega arith)) (omega arith)
    ∙ ap (λ y. get_or (xs ++ drop (at + length xs) image) y 0) e
    ∙ get_or_append_left xs (drop (at + length xs) image) 0 r l
  where
    e : at + r - at ≡ r
    e = omega arith

module _ (m : Shape) (R : Real m) (image : List ℕ) (whole : length image ≡ size m) where
  module _ (f : ℕ → ℕ → ℕ) (a : ℕ) (sent : List ℕ) (h : a < length image) where
    abbrev before : List ℕ
    before = page m.bytes (a / m.bytes) image

    inside : a / m.bytes < m.sectors * m.pages
    inside = (page_and_sector m R a (omega arith)).0

    before_long : length before ≡ m.bytes
    before_long = length-page m (a / m.bytes) image whole inside

    at_place : (r : ℕ) → r < m.bytes
        → get_or (written f m.bytes a sent image) (a / m.bytes * m.bytes + r) 0
        ≡ joint f (get_or image (a / m.bytes * m.bytes + r) 0) (get_or (cover m.bytes (a % m.bytes) sent) r None)
    at_place r l =
        let e = page-fits m (a / m.bytes) image whole inside in
        let n = length_merged f before (cover m.bytes (a % m.bytes) sent) in
        let b = before_long in
        get_or-put_in (a / m.bytes * m.bytes) (merged f before (cover m.bytes (a % m.bytes) sent)) image r (omega arith) (omega arith)
        ∙ get_or-merged f before (cover m.bytes (a % m.bytes) sent) r (omega arith)
        ∙ ap (λ x. joint f x (get_or (cover m.bytes (a % m.bytes) sent) r None)) (get_or-block (a / m.bytes * m.bytes) m.bytes image r l)

    spared : (i : ℕ) → ((j : ℕ) → j < length sent → place m.bytes a j ≡ i → ⊥) → get_or (written f m.bytes a sent image) i 0 ≡ get_or image i 0
    spared i n = ⊎_elim same (written_off m R.bytes R.pages image whole f a sent i h) (cases_eq (i / m.bytes) (a / m.bytes))
      where
        same : i / m.bytes ≡ a / m.bytes → get_or (written f m.bytes a sent image) i 0 ≡ get_or image i 0
        same e =
            let w : a / m.bytes * m.bytes + i % m.bytes ≡ i = ap (λ x. x * m.bytes + i % m.bytes) (sym e) ∙ div-add-mod' i m.bytes in
            let l : i % m.bytes < m.bytes = mod-lt i R.bytes in
            ap (λ x. get_or (written f m.bytes a sent image) x 0) (sym w)
            ∙ at_place (i % m.bytes) l
            ∙ ap (λ x. joint f (get_or image (a / m.bytes * m.bytes + i % m.bytes) 0) x)
            (cover_off m.bytes (a % m.bytes) sent (i % m.bytes) l
            (λ j u v. n j u (ap (λ x. a / m.bytes * m.bytes + x) (sym (v ∙ mod-add-mod a m.bytes j)) ∙ w)))
            ∙ ap (λ x. get_or image x 0) w

    pub lays : Lays f m.bytes a sent image (written f m.bytes a sent image)
    lays = (
      λ j u n. at_place ((a + j) % m.bytes) (mod-lt _ R.bytes)
          ∙ ap (λ x. joint f (get_or image (place m.bytes a j) 0) x) (cover_last m.bytes a sent j R.bytes u n),
      spared,
    )

  pub erases : (a i : ℕ) → a < length image → sector_at m i ≡ sector_at m a → get_or (effect m (sector_erase a) image) i 0 ≡ 255
  erases a i h e =
      let n = length-replicate {A = ℕ} (m.pages * m.bytes) 255 in
      let s = sector-fits m (sector_at m a) image whole (page_and_sector m R a (omega arith)).1 in
      let b : (sector_start m a ≤ i) × (i < sector_start m a + m.pages * m.bytes) =
      subst (λ k. (k * m.pages * m.bytes ≤ i) × (i < k * m.pages * m.bytes + m.pages * m.bytes)) e (in_its_sector m R i) in
      let w : sector_start m a + (i - sector_start m a) ≡ i = omega arith in
      ap (λ x. get_or (effect m (sector_erase a) image) x 0) (sym w)
      ∙ get_or-put_in (sector_start m a) (replicate (m.pages * m.bytes) 255) image (i - sector_start m a) (omega arith) (omega arith)
      ∙ get_or-replicate (m.pages * m.bytes) (i - sector_start m a) 255 0 (omega arith)
