-- The two results that have no rule, as the bench chip fixes them.
use Rattle.std.specs.Prelude.{◌≡◌, ℕ, zero, suc, ◌+◌, ◌%◌, Bool, true, false, cond, List, [], ◌∷◌, replicate, bit_and, slice_index, refl}
use Rattle.std.proofs.Common.{sym, ap, subst, arith}
use Rattle.std.proofs.lemmas.Nat.{and_mod, and_le_r}
use Rattle.std.proofs.lemmas.Bool.Decides.{nat_tests}
use Rattle.memory.specs.Cycle.{effect}
use Rattle.port.specs.Chip.{Chip, shape}
use Rattle.port.specs.Asks.{Ask, enable, disable, status, identify, read, cycle, unknown}
use Rattle.port.specs.Machine.{reply, shown, act, after, answer, hears, done, takes, Frame, Runs, none, step}

-- a chip is what its own busy count makes of it
either : (b : Bool) (k : ℕ) (c : Chip) (l : List ℕ) → cond b (done k c l) c ≡ cond b (done (cond b (done k c l) c).busy c l) c
either true k c l = refl
either false k c l = refl

settled : (k : ℕ) (c : Chip) (o : Ask) → act k c o ≡ act (act k c o).busy c o
settled k c enable = refl
settled k c disable = refl
settled k c status = refl
settled k c identify = refl
settled k c (read a) = refl
settled k c (cycle y) = either (takes c y) k c (effect (shape c) y c.image)
settled k c unknown = refl

pub settles : (k : ℕ) (c d : Chip) (o : Ask) → d ≡ act k c o → d ≡ act d.busy c o
settles k c d o e = let P : Chip → Type 0 = λ x. x ≡ act x.busy c o in subst P (sym e) (settled k c o)

pub runs_one : (k : ℕ) (c d : Chip) (f : Frame) → d ≡ after k c f → Runs k c (f ∷ []) d
runs_one k c d f e = let P : Chip → Type 0 = λ x. Runs k c (f ∷ []) x in subst P (sym e) (step none)

-- where bits 1 and 0 of the status are 0, bit 1 of the byte shown while busy is 0
low : (st : ℕ) → st % 4 ≡ 0 → bit_and (st + 1) 2 ≡ 0
low st h =
    let m = and_mod (st + 1) 2 2 in
    let l = and_le_r (st + 1) 2 in
    let r : (st + 1) % 4 ≡ 1 = omega arith in
    let e : bit_and ((st + 1) % 4) 2 ≡ 0 = rw r in
    omega arith

byte : (c : Chip) → c.status % 4 ≡ 0 → shown 0 c ≡ shown (shown 0 c) c
byte c h = let l = low c.status h in grind (arith, nat_tests)

many : (c : Chip) (n : ℕ) → c.status % 4 ≡ 0 → replicate n (shown 0 c) ≡ replicate n (shown (slice_index (replicate n (shown 0 c)) 0) c)
many c zero h = refl
many c (suc n) h = ap (replicate (suc n)) (byte c h)

bit1 : (c : Chip) (o : Ask) (n : ℕ) → c.status % 4 ≡ 0 → reply 0 c o n ≡ reply (slice_index (reply 0 c o n) 0) c o n
bit1 c enable n h = refl
bit1 c disable n h = refl
bit1 c status n h = many c n h
bit1 c identify n h = refl
bit1 c (read a) n h = refl
bit1 c (cycle y) n h = refl
bit1 c unknown n h = refl

pub shows : (c : Chip) (o : Ask) (n : ℕ) (l : List ℕ) → c.status % 4 ≡ 0 → l ≡ reply 0 c o n → l ≡ reply (slice_index l 0) c o n
shows c o n l h e = let P : List ℕ → Type 0 = λ x. x ≡ reply (slice_index x 0) c o n in subst P (sym e) (bit1 c o n h)

-- the same where a test says if the frame was sent at all
pub settles_if : (t : Bool) (k : ℕ) (c d : Chip) (f : Frame) → d ≡ cond t (after k c f) c → d ≡ cond t (after d.busy c f) c
settles_if true k c d f e = settles k c d (hears c f) e
settles_if false k c d f e = e

pub shows_if : (t : Bool) (c : Chip) (f : Frame) (l old : List ℕ) → c.status % 4 ≡ 0 → l ≡ cond t (answer 0 c f) old → l ≡ cond t (answer (slice_index l 0) c f) old
shows_if true c f l old h e = shows c (hears c f) f.wanted l h e
shows_if false c f l old h e = e

pub runs_if : (t : Bool) (k : ℕ) (c d : Chip) (f : Frame) → d ≡ cond t (after k c f) c → Runs k c (cond t (f ∷ []) []) d
runs_if true k c d f e = runs_one k c d f e
runs_if false k c d f e = let P : Chip → Type 0 = λ x. Runs k c [] x in subst P (sym e) none
