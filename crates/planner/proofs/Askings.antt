-- How many bytes are asked for, added up.
use Rattle.std.proofs.Common.{◌≡◌, ℕ, zero, suc, ◌+◌, ◌-◌, ◌*◌, ◌<◌, ◌≤◌, Bool, true, false, cond, ◌⊎◌, List, Ok, Err, Result, sym, refl, ap, ◌∙◌, subst, inl, inr, add-zero, add-suc, add_assoc, add-one, suc-mul, ap₂, arith}
use Rattle.std.proofs.lemmas.Bool.{cases_eq, cond-false, cond-true}
use Rattle.memory.specs.Protection.{free}
use Rattle.memory.proofs.Free.{free_at}
use Rattle.part.specs.Meaning.{Meaning, protected_at}
use Rattle.least.specs.Fewest.{fewest}
use Rattle.planner.specs.declared.chosen.Treatment.{Treatment}
use Rattle.planner.specs.declared.chosen.Treatment.TheVariants.{Kept, Erased}
use Rattle.planner.specs.declared.fault.PlanFault.{PlanFault}
use Rattle.planner.specs.declared.fault.PlanFault.TheVariants.{Outside, Busy, Protected, StepsShort, DataShort}
use Rattle.planner.specs.Wanted.{covered, touched}
use Rattle.planner.specs.Asking.{bytes_below, bytes_on, for_barred, for_bulk, for_costs, for_guarded, for_marks, for_page, for_pages, for_sectors, for_steps, planning, planning_to}
use Rattle.planner.specs.Survey.{by_sectors, erases_all, kept_from, off_from, on_all, on_from, sector_treatment}

-- the bytes of those of n pages from page q on that a write does not touch
abbrev bytes_off : ℕ → List ℕ → ℕ → ℕ → ℕ
bytes_off address bytes q zero = 0
bytes_off address bytes q (suc n) = bytes_off address bytes q n + cond (touched address bytes (q + n)) 0 64

-- the bytes of all pages
abbrev whole : Meaning → ℕ
whole m = 64 * (m.shape.sectors * m.shape.pages)

module _ (address : ℕ) (bytes : List ℕ) (q : ℕ) where
  pub on_more : (n : ℕ) → bytes_on address bytes q (n + 1) ≡ bytes_on address bytes q n + cond (touched address bytes (q + n)) 64 0
  on_more n = ap (bytes_on address bytes q) (add-one n)

  pub on_next : (p : ℕ) → q ≤ p → bytes_on address bytes q (p + 1 - q) ≡ bytes_on address bytes q (p - q) + cond (touched address bytes p) 64 0
  on_next p h =
      let more : p + 1 - q ≡ p - q + 1 = omega arith in
      let here : q + (p - q) ≡ p = omega arith in
      ap (bytes_on address bytes q) more
      ∙ (on_more (p - q) ∙ ap (λ x. bytes_on address bytes q (p - q) + cond (touched address bytes x) 64 0) here)

  either : (t : Bool) → cond t 64 0 + cond t 0 64 ≡ 64
  either true = refl
  either false = refl

  -- together they are all
  pub on_and_off : (n : ℕ) → bytes_on address bytes q n + bytes_off address bytes q n ≡ 64 * n
  on_and_off zero = refl
  on_and_off (suc n) = omega (arith, on_and_off n, either (touched address bytes (q + n)))

  -- those of pages after pages
  pub on_add : (a n : ℕ) → bytes_on address bytes q (a + n) ≡ bytes_on address bytes q a + bytes_on address bytes (q + a) n
  on_add a zero = omega (arith, ap (bytes_on address bytes q) (add-zero a))
  on_add a (suc n) =
      omega (arith, on_add a n, ap (bytes_on address bytes q) (add-suc a n), ap {B = ℕ} (λ (x : ℕ). cond (touched address bytes x) 64 0) (add_assoc q a n))

  pub on_front : (n j : ℕ) → j ≤ n → bytes_on address bytes q j ≤ bytes_on address bytes q n
  on_front n j h =
      let all : j + (n - j) ≡ n = omega arith in omega (arith, on_add j (n - j), ap (bytes_on address bytes q) all)

-- the look at an erase, that ends where its cost reaches a limit
module _ (m : Meaning) (address : ℕ) (bytes : List ℕ) (limit cost : ℕ × ℕ) (q : ℕ) where
  abbrev looked_below : ℕ → ℕ
  looked_below n = bytes_below m address bytes limit cost q n

  pub below_next :
      (p : ℕ) → q ≤ p → fewest.leq limit (fewest.plus cost (off_from m address bytes q (p - q))) ≡ false
      → looked_below (p + 1 - q) ≡ looked_below (p - q) + cond (touched address bytes p) 0 64
  below_next p h e =
      let more : p + 1 - q ≡ p - q + 1 = omega arith in
      let here : q + (p - q) ≡ p = omega arith in
      ap looked_below (more ∙ add-one (p - q))
      ∙ ap (λ (x : ℕ). looked_below (p - q) + x) (cond-false _ _ _ e ∙ ap {B = ℕ} (λ (x : ℕ). cond (touched address bytes x) 0 64) here)

  lower : (b : Bool) (x y z : ℕ) → x ≤ y → x + cond b 0 z ≤ y + z
  lower true x y z h = omega arith
  lower false x y z h = omega arith

  pub below_off : (n : ℕ) → looked_below n ≤ bytes_off address bytes q n
  below_off zero = omega arith
  below_off (suc n) =
      lower (fewest.leq limit (fewest.plus cost (off_from m address bytes q n))) (looked_below n) (bytes_off address bytes q n)
      (cond (touched address bytes (q + n)) 0 64) (below_off n)

  pub below_front : (n j : ℕ) → j ≤ n → looked_below j ≤ looked_below n
  below_front zero j h = subst (λ x. looked_below x ≤ 0) (none j h) (omega arith)
    where
      none : (i : ℕ) → i ≤ zero → zero ≡ i
      none i l = omega arith
  below_front (suc n) j h = go (cases_eq j (suc n)) (λ l. below_front n j l)
    where
      go : (j ≡ suc n) ⊎ (j ≡ suc n → ⊥) → (j ≤ n → looked_below j ≤ looked_below n) → looked_below j ≤ looked_below (suc n)
      go (inl e) ih = subst (λ x. looked_below x ≤ looked_below (suc n)) (sym e) (omega arith)
      go (inr d) ih = omega (arith, ih (omega arith))

-- the steps of pages
module _ (address : ℕ) (bytes : List ℕ) (treatment : Treatment) (q : ℕ) where
  pub steps_next :
      (p : ℕ) → q ≤ p
      → for_pages address bytes treatment q (p + 1 - q) ≡ for_pages address bytes treatment q (p - q) + for_page address bytes treatment p
  steps_next p h =
      let more : p + 1 - q ≡ p - q + 1 = omega arith in
      let here : q + (p - q) ≡ p = omega arith in
      ap (for_pages address bytes treatment q) (more ∙ add-one (p - q))
      ∙ ap (λ (x : ℕ). for_pages address bytes treatment q (p - q) + for_page address bytes treatment x) here

pub step_most : (address : ℕ) (bytes : List ℕ) (treatment : Treatment) (q : ℕ) → for_page address bytes treatment q ≤ 64
step_most address bytes Kept q = go (touched address bytes q)
  where
    go : (t : Bool) → cond t 64 0 ≤ 64
    go true = omega arith
    go false = omega arith
step_most address bytes Erased q = go (covered address bytes q)
  where
    go : (t : Bool) → cond t 0 64 ≤ 64
    go true = omega arith
    go false = omega arith

pub steps_most : (address : ℕ) (bytes : List ℕ) (treatment : Treatment) (q n : ℕ) → for_pages address bytes treatment q n ≤ 64 * n
steps_most address bytes treatment q zero = omega arith
steps_most address bytes treatment q (suc n) = omega (arith, steps_most address bytes treatment q n, step_most address bytes treatment (q + n))

-- and of sectors
module _ (m : Meaning) (address : ℕ) (bytes : List ℕ) where
  pub marks_more :
      (mark : ℕ → Treatment) (n : ℕ)
      → for_marks m address bytes mark (n + 1)
      ≡ for_marks m address bytes mark n + for_pages address bytes (mark n) (n * m.shape.pages) m.shape.pages
  marks_more mark n = ap (for_marks m address bytes mark) (add-one n)

  pub marks_same :
      (f g : ℕ → Treatment) (n : ℕ) → ((k : ℕ) → k < n → f k ≡ g k) → for_marks m address bytes f n ≡ for_marks m address bytes g n
  marks_same f g zero h = refl
  marks_same f g (suc n) h =
      ap₂ (λ (x y : ℕ). x + y) (marks_same f g n (λ k l. h k (omega arith)))
      (ap (λ (t : Treatment). for_pages address bytes t (n * m.shape.pages) m.shape.pages) (h n (omega arith)))

  marks_most : (mark : ℕ → Treatment) (n : ℕ) → for_marks m address bytes mark n ≤ 64 * (n * m.shape.pages)
  marks_most mark zero = omega arith
  marks_most mark (suc n) =
      omega (arith, marks_most mark n, steps_most address bytes (mark n) (n * m.shape.pages) m.shape.pages, suc-mul n m.shape.pages)

  pub for_steps_most : for_steps m address bytes ≤ whole m
  for_steps_most = go (erases_all m address bytes)
    where
      go : (b : Bool) → cond b (for_pages address bytes Erased 0 (m.shape.sectors * m.shape.pages)) (for_marks m address bytes (sector_treatment m address bytes) m.shape.sectors) ≤ whole m
      go true = steps_most address bytes Erased 0 (m.shape.sectors * m.shape.pages)
      go false = marks_most (sector_treatment m address bytes) m.shape.sectors

-- none where there is no room
pub unless_full : (f : Bool) (n : ℕ) → cond f 0 n ≤ n
unless_full true n = omega arith
unless_full false n = omega arith

-- the look for protected bytes
module _ (m : Meaning) (address : ℕ) (bytes : List ℕ) where
  pub guarded_on :
      (k n : ℕ) → n ≡ m.shape.pages → protected_at m k ≡ true
      → for_guarded m address bytes k + bytes_on address bytes (k * n) n ≡ for_guarded m address bytes (k + 1)
  guarded_on k n e h =
      ap (λ (x : ℕ). for_guarded m address bytes k + bytes_on address bytes (k * x) x) e
      ∙ (ap (λ (x : ℕ). for_guarded m address bytes k + x) (sym (cond-true _ _ _ h)) ∙ ap (for_guarded m address bytes) (sym (add-one k)))

  pub guarded_off : (k : ℕ) → protected_at m k ≡ false → for_guarded m address bytes k ≡ for_guarded m address bytes (k + 1)
  guarded_off k h =
      sym (add-zero _)
      ∙ (ap (λ (x : ℕ). for_guarded m address bytes k + x) (sym (cond-false _ _ _ h)) ∙ ap (for_guarded m address bytes) (sym (add-one k)))

  pub guarded_front : (n j : ℕ) → j ≤ n → for_guarded m address bytes j ≤ for_guarded m address bytes n
  guarded_front zero j h = subst (λ x. for_guarded m address bytes x ≤ 0) (none j h) (omega arith)
    where
      none : (i : ℕ) → i ≤ zero → zero ≡ i
      none i l = omega arith
  guarded_front (suc n) j h = go (cases_eq j (suc n)) (λ l. guarded_front n j l)
    where
      go : (j ≡ suc n) ⊎ (j ≡ suc n → ⊥) → (j ≤ n → for_guarded m address bytes j ≤ for_guarded m address bytes n)
          → for_guarded m address bytes j ≤ for_guarded m address bytes (suc n)
      go (inl e) ih = subst (λ x. for_guarded m address bytes x ≤ for_guarded m address bytes (suc n)) (sym e) (omega arith)
      go (inr d) ih = omega (arith, ih (omega arith))

  some : (b : Bool) (x : ℕ) → cond b x 0 ≤ x
  some true x = omega arith
  some false x = omega arith

  guarded_most : (n : ℕ) → for_guarded m address bytes n ≤ 64 * (n * m.shape.pages)
  guarded_most zero = omega arith
  guarded_most (suc n) =
      omega (arith, guarded_most n, some (protected_at m n) (bytes_on address bytes (n * m.shape.pages) m.shape.pages), on_and_off address bytes (n * m.shape.pages) m.shape.pages, suc-mul n m.shape.pages)

  guarded_none : (n : ℕ) → ((k : ℕ) → k < n → protected_at m k ≡ false) → for_guarded m address bytes n ≡ 0
  guarded_none zero h = refl
  guarded_none (suc n) h =
      ap₂ (λ (x y : ℕ). x + y) (guarded_none n (λ k l. h k (omega arith))) (cond-false (protected_at m n) _ 0 (h n (omega arith)))

-- either the protected bytes are looked for, or the cost of erasing all
one_of : (f : Bool) (a b w : ℕ) → a ≤ w → b ≤ w → (f ≡ true → a ≡ 0) → a + cond f b 0 ≤ w
one_of true a b w h k z = omega (arith, k, z refl)
one_of false a b w h k z = omega (arith, h)

module _ (m : Meaning) (address : ℕ) (bytes : List ℕ) where
  pub sectors_more :
      (n : ℕ)
      → for_sectors m address bytes (n + 1)
      ≡ for_sectors m address bytes n + for_costs m address bytes (n * m.shape.pages) m.shape.pages
  sectors_more n = ap (for_sectors m address bytes) (add-one n)

  sectors_most : (n : ℕ) → for_sectors m address bytes n ≤ 64 * (n * m.shape.pages)
  sectors_most zero = omega arith
  sectors_most (suc n) =
      let q : ℕ = n * m.shape.pages in
      omega (
        arith,
        sectors_most n,
        on_and_off address bytes q m.shape.pages,
        below_off m address bytes (kept_from m address bytes q m.shape.pages) (fewest.plus (1, 0) (on_from m address bytes q m.shape.pages)) q m.shape.pages,
        suc-mul n m.shape.pages,
      )

  first_most : for_barred m address bytes + for_bulk m address bytes ≤ whole m
  first_most =
      let n : ℕ = m.shape.sectors * m.shape.pages in
      let limit : ℕ × ℕ = by_sectors m address bytes in
      let cost : ℕ × ℕ = fewest.plus (1, 0) (on_all m address bytes) in
      one_of (free (protected_at m) m.shape.sectors) (for_barred m address bytes) (bytes_below m address bytes limit cost 0 n) (whole m)
      (guarded_most m address bytes m.shape.sectors) (omega (arith, on_and_off address bytes 0 n, below_off m address bytes limit cost 0 n))
      (λ t. guarded_none m address bytes m.shape.sectors (λ k l. free_at (protected_at m) m.shape.sectors k t l))

  pub planning_most : planning m address bytes ≤ 3 * whole m
  planning_most = omega (arith, first_most, sectors_most m.shape.sectors, for_steps_most m address bytes)

  -- a refused plan asks for no more
  pub planning_to_most : (r : Result (ℕ × ℕ) PlanFault) → planning_to m address bytes r ≤ planning m address bytes
  planning_to_most (Ok cost) = omega arith
  planning_to_most (Err (Outside a)) = omega arith
  planning_to_most (Err Busy) = omega arith
  planning_to_most (Err (Protected a)) = omega arith
  planning_to_most (Err (StepsShort cost)) = omega arith
  planning_to_most (Err (DataShort cost)) = omega arith

-- what is asked of a part whose meaning stays: for the choice too, and for the steps
module _ (m n : Meaning) (address : ℕ) (bytes : List ℕ) (e : n ≡ m) where
  pub asked_choice :
      for_barred m address bytes + (for_sectors n address bytes n.shape.sectors + for_bulk n address bytes)
      ≡ for_barred m address bytes + (for_sectors m address bytes m.shape.sectors + for_bulk m address bytes)
  asked_choice = ap (λ (x : Meaning). for_barred m address bytes + (for_sectors x address bytes x.shape.sectors + for_bulk x address bytes)) e

  pub asked_all :
      for_barred m address bytes + (for_sectors m address bytes m.shape.sectors + for_bulk m address bytes) + for_steps n address bytes
      ≡ planning m address bytes
  asked_all =
      ap
      (λ (x : Meaning). for_barred m address bytes + (for_sectors m address bytes m.shape.sectors + for_bulk m address bytes) + for_steps x address bytes)
      e
