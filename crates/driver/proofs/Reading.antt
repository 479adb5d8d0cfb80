-- The frames of a read.
use Rattle.std.specs.Prelude.{◌≡◌, ℕ, zero, suc, ◌+◌, ◌-◌, ◌<◌, ◌≤◌, min, cond, List, [], ◌∷◌, ◌++◌, take, drop, ◌==◌, ◌≢◌, refl}
use Rattle.std.proofs.Common.{sym, ap, subst, ◌∙◌, ⊎_elim, arith, take-add}
use Rattle.std.proofs.lemmas.List.{drop-drop}
use Rattle.std.proofs.lemmas.Bool.{cond-true, cond-false, eq-eqb, ne_eqb, cases_lt, cases_eq}
use Rattle.memory.specs.Page.{block}
use Rattle.memory.specs.Cycle.{Cycle}
use Rattle.port.specs.Chip.{Chip}
use Rattle.port.specs.Machine.{Frame}
use Rattle.driver.specs.Frames.{read_frame, reads_in, reads}
use Rattle.driver.specs.Carries.{Carries, Harmless, none, step, status_reads}
use Rattle.driver.proofs.Hearing.{after_read, carries-read, no_status}

reads_none : (turns room a n : ℕ) → n ≡ 0 → reads_in turns room a n ≡ []
unfolding reads_in
reads_none zero room a n e = refl
reads_none (suc t) room a n e = cond-true _ _ _ (eq-eqb _ _ e)

-- any bounds that are enough agree
agree : (t u room a n : ℕ) → 0 < room → n ≤ t → n ≤ u → reads_in t room a n ≡ reads_in u room a n
unfolding reads_in
agree zero u room a n r h k = sym (reads_none u room a n (omega arith))
agree (suc t) zero room a n r h k = reads_none (suc t) room a n (omega arith)
agree (suc t) (suc u) room a n r h k = ⊎_elim
    (λ e. reads_none (suc t) room a n e ∙ sym (reads_none (suc u) room a n e))
    (λ d. ap (λ x. cond (n == 0) [] (read_frame a (min room n) ∷ x)) (agree t u room (a + room) (n - room) r (omega arith) (omega arith)))
    (cases_eq n 0)

some : (t room a n : ℕ) → (n ≢ 0) → reads_in (suc t) room a n ≡ read_frame a (min room n) ∷ reads_in t room (a + room) (n - room)
unfolding reads_in
some t room a n d = cond-false _ _ _ (ne_eqb _ _ d)

-- one more frame
pub reads_more : (room a n m : ℕ) → 0 < room → 0 < n → m ≡ min room n → reads room a n ≡ read_frame a m ∷ reads room (a + m) (n - m)
reads_more room a n m r h e =
    agree n (suc n) room a n r (omega arith) (omega arith)
    ∙ some n room a n (λ z. omega arith)
    ∙ ap (λ x. read_frame a x ∷ reads_in n room (a + room) (n - room)) (sym e)
    ∙ ap (λ x. read_frame a m ∷ x) (⊎_elim whole last (cases_lt n room))
  where
    whole : n < room → reads_in n room (a + room) (n - room) ≡ reads room (a + m) (n - m)
    whole l = reads_none n room (a + room) (n - room) (omega arith) ∙ sym (reads_none (n - m) room (a + m) (n - m) (omega arith))

    last : room ≤ n → reads_in n room (a + room) (n - room) ≡ reads room (a + m) (n - m)
    last l =
        let k : room ≡ m = omega arith in
        ap (λ x. reads_in n room (a + x) (n - x)) k ∙ agree n (n - m) room (a + m) (n - m) r (omega arith) (omega arith)

pub reads-done : (room a n : ℕ) → n ≡ 0 → reads room a n ≡ []
reads-done room a n e = reads_none n room a n e

-- they leave the chip as it is, and carry out nothing
abbrev Still : Chip → List Frame → Type 0
Still c fs = Carries c fs c []

-- what is left of n bytes after one frame
left_over : (P : List Frame → Type 0) (t room a n : ℕ) → P [] → (room ≤ n → P (reads_in t room (a + room) (n - room))) → P (reads_in t room (a + room) (n - room))
left_over P t room a n z f =
    ⊎_elim (λ l. subst P (sym (reads_none t room (a + room) (n - room) (omega arith))) z) f (cases_lt n room)

still_first : (c : Chip) (a m : ℕ) (fs : List Frame) → a < 16777216 → Still c fs → Still c (read_frame a m ∷ fs)
still_first c a m fs l q =
    let P : Chip → Type 0 = λ x. Carries x fs c [] in
    let Q : List Cycle → Type 0 = λ x. Carries c (read_frame a m ∷ fs) c (x ++ []) in
    subst Q (carries-read c a m l) (step 0 (subst P (sym (after_read 0 c a m l)) q))

still_in : (t room a n : ℕ) (c : Chip) → a + n ≤ 16777216 → Still c (reads_in t room a n)
unfolding reads_in
still_in zero room a n c h = none
still_in (suc t) room a n c h = ⊎_elim
    (λ e. subst (Still c) (sym (reads_none (suc t) room a n e)) none)
    (λ d. subst (Still c) (sym (some t room a n d))
    (still_first c a (min room n) _ (omega arith) (left_over (Still c) t room a n none (λ l. still_in t room (a + room) (n - room) c (omega arith)))))
    (cases_eq n 0)

pub reads_carry : (room a n : ℕ) (c : Chip) → a + n ≤ 16777216 → Carries c (reads room a n) c []
reads_carry room a n c h = still_in n room a n c h

harmless_in : (t room a n : ℕ) (c : Chip) → a + n ≤ 16777216 → Harmless c (reads_in t room a n)
unfolding reads_in
harmless_in zero room a n c h = tt
harmless_in (suc t) room a n c h = ⊎_elim
    (λ e. subst (Harmless c) (sym (reads_none (suc t) room a n e)) tt)
    (λ d. subst (Harmless c) (sym (some t room a n d)) (
      (λ k. after_read k c a (min room n) (omega arith)),
      left_over (Harmless c) t room a n tt (λ l. harmless_in t room (a + room) (n - room) c (omega arith)),
    ))
    (cases_eq n 0)

pub reads-harmless : (room a n : ℕ) (c : Chip) → a + n ≤ 16777216 → Harmless c (reads room a n)
reads-harmless room a n c h = harmless_in n room a n c h

abbrev Unpolled : List Frame → Type 0
Unpolled fs = status_reads fs ≡ 0

unpolled_first : (a m : ℕ) (fs : List Frame) → a < 16777216 → Unpolled fs → Unpolled (read_frame a m ∷ fs)
unpolled_first a m fs l q = let s = no_status a m l in omega arith

unpolled_in : (t room a n : ℕ) → a + n ≤ 16777216 → Unpolled (reads_in t room a n)
unfolding reads_in
unpolled_in zero room a n h = refl
unpolled_in (suc t) room a n h = ⊎_elim
    (λ e. ap status_reads (reads_none (suc t) room a n e))
    (λ d. subst Unpolled (sym (some t room a n d))
    (unpolled_first a (min room n) _ (omega arith) (left_over Unpolled t room a n refl (λ l. unpolled_in t room (a + room) (n - room) (omega arith)))))
    (cases_eq n 0)

pub reads_no_status : (room a n : ℕ) → a + n ≤ 16777216 → status_reads (reads room a n) ≡ 0
reads_no_status room a n h = unpolled_in n room a n h

-- two blocks, one after the other
pub block_more : (a m n : ℕ) (image : List ℕ) → block a m image ++ block (a + m) n image ≡ block a (m + n) image
block_more a m n image = ap (λ x. take m (drop a image) ++ take n x) (sym (drop-drop m a image)) ∙ sym (take-add m n (drop a image))
