-- What each frame that a driver sends asks of the chip (`hears`), and what comes of it.
use Rattle.std.specs.Prelude.{◌≡◌, ℕ, ◌%◌, ◌<◌, Bool, true, false, cond, List, [], ◌∷◌, length, ◌==◌, bit_and, nat_lt, refl}
use Rattle.std.proofs.Common.{ap, ◌∙◌, arith}
use Rattle.std.proofs.lemmas.Nat.{and_mask, and_mod, and_le_r}
use Rattle.std.proofs.lemmas.Bool.{cond-true, cond-false, eq-eqb, lt-ltb, cases_Bool, eqb-true, eqb-false, ne_eqb}
use Rattle.std.proofs.lemmas.Bool.Decides.{nat_tests}
use Rattle.memory.specs.Image.{rolled}
use Rattle.port.specs.declared.instruction.Operation.TheVariants.{ReadStatus, Identify, Read}
use Rattle.port.specs.Instructions.{table}
use Rattle.port.specs.Build.{built, listed, status_frame}
use Rattle.port.specs.Chip.{Chip}
use Rattle.port.specs.Asks.{identify, read, unknown, heard, ordered}
use Rattle.port.specs.Machine.{hears, act, after, reply, answer, shown, waited, identity}
use Rattle.port.proofs.Building.{understood}
use Rattle.port.proofs.Hearing.{status-heard, status-ordered}
use Rattle.driver.specs.Frames.{identify_frame, read_frame}
use Rattle.driver.specs.Carries.{carried_out, asks_status}

nothing : (d : List ℕ) → false ≡ true → 0 < length d
nothing d e = absurd (Rattle.std.proofs.lemmas.Bool.false≢true e)

-- a status read
pub after-status : (k : ℕ) (c : Chip) → after k c status_frame ≡ waited c
after-status k c = ap (act k c) (status-heard c)

pub answer-status : (w : ℕ) (c : Chip) → answer w c status_frame ≡ shown w c ∷ []
answer-status w c = ap (λ o. reply w c o 1) (status-heard c)

pub one-status : asks_status (ordered (built ReadStatus 0 []) 1) ≡ 1
one-status = ap asks_status status-ordered

-- bit 0 of the byte shown
even : (w : ℕ) → bit_and w 2 % 2 ≡ 0
even w =
    let m = and_mod w 2 1 in
    let l = and_le_r (w % 2) 0 in omega arith

pub wip : (r : ℕ) (c : Chip) → c.status % 4 ≡ 0 → r ≡ shown r c → (bit_and r 1 == 0) ≡ (c.busy == 0)
wip r c s e =
    let m = and_mask r 1 in
    let v = even r in grind (arith, nat_tests)

-- a read alters nothing, and gives the bytes where the chip is idle and the address is inside
read-ordered : (a n : ℕ) → a < 16777216 → ordered (built Read a []) n ≡ read a
unfolding table listed built
read-ordered a n h = understood Read a n [] h (nothing [])

read_acts : (x y : Bool) (k : ℕ) (c : Chip) (a : ℕ) → act k c (cond x (cond y (read a) unknown) unknown) ≡ c
read_acts true true k c a = refl
read_acts true false k c a = refl
read_acts false y k c a = refl

read-carries : (x y : Bool) (c : Chip) (a : ℕ) → carried_out c (cond x (cond y (read a) unknown) unknown) ≡ []
read-carries true true c a = refl
read-carries true false c a = refl
read-carries false y c a = refl

pub after_read : (k : ℕ) (c : Chip) (a n : ℕ) → a < 16777216 → after k c (read_frame a n) ≡ c
after_read k c a n h =
    ap (λ o. act k c (heard c.busy (length c.image) o)) (read-ordered a n h) ∙ read_acts (c.busy == 0) (nat_lt a (length c.image)) k c a

pub carries-read : (c : Chip) (a n : ℕ) → a < 16777216 → carried_out c (hears c (read_frame a n)) ≡ []
carries-read c a n h =
    ap (λ o. carried_out c (heard c.busy (length c.image) o)) (read-ordered a n h) ∙ read-carries (c.busy == 0) (nat_lt a (length c.image)) c a

pub no_status : (a n : ℕ) → a < 16777216 → asks_status (ordered (built Read a []) n) ≡ 0
no_status a n h = ap asks_status (read-ordered a n h)

pub answer-read : (w : ℕ) (c : Chip) (a n : ℕ) → a < 16777216 → c.busy ≡ 0 → a < length c.image → answer w c (read_frame a n) ≡ rolled c.image a n
answer-read w c a n h b l =
    ap (λ o. reply w c (heard c.busy (length c.image) o) n) (read-ordered a n h)
    ∙ ap (λ o. reply w c o n) (cond-true _ _ _ (eq-eqb _ _ b) ∙ cond-true _ _ _ (lt-ltb _ _ l))

pub length-read : (a : ℕ) → length (built Read a []) ≡ 4
unfolding table listed built
length-read a = refl

pub length-status : length (built ReadStatus 0 []) ≡ 1
unfolding table listed built
length-status = refl

pub length-identify : length (built Identify 0 []) ≡ 1
unfolding table listed built
length-identify = refl

-- identification, of an idle chip
identify-ordered : ordered (built Identify 0 []) 3 ≡ identify
unfolding table listed built
identify-ordered = refl

identify_acts : (x : Bool) (k : ℕ) (c : Chip) → act k c (cond x identify unknown) ≡ c
identify_acts true k c = refl
identify_acts false k c = refl

pub after-identify : (k : ℕ) (c : Chip) → after k c identify_frame ≡ c
after-identify k c = ap (λ o. act k c (heard c.busy (length c.image) o)) identify-ordered ∙ identify_acts (c.busy == 0) k c

pub answer-identify : (w : ℕ) (c : Chip) → c.busy ≡ 0 → answer w c identify_frame ≡ identity c
answer-identify w c b =
    ap (λ o. reply w c (heard c.busy (length c.image) o) 3) identify-ordered ∙ ap (λ o. reply w c o 3) (cond-true _ _ _ (eq-eqb _ _ b))
