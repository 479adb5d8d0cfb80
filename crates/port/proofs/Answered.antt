-- The bytes back, kind by kind.
use Rattle.std.proofs.Common.{◌≡◌, ℕ, zero, suc, ◌+◌, ◌%◌, ◌<◌, ◌≤◌, Bool, true, false, cond, eqb, leb, List, [], ◌∷◌, length, get_or, take, replicate, sym, refl, ap, ◌∙◌, subst, arith}
use lib.Bits.{bit_and}
use lib.ListN.{length-replicate}
use Rattle.std.proofs.lemmas.Nat.{and_mod, and_le_r}
use Rattle.std.proofs.lemmas.List.{length-take-le, get_or-replicate}
use Rattle.std.proofs.lemmas.Bool.{cond-true, cond-false, eq-eqb, ne_eqb, le-leb, lt-leb, leb-true}
use Rattle.std.proofs.lemmas.Bool.Decides.{nat_tests}
use Rattle.memory.specs.Image.{rolled}
use Rattle.memory.proofs.Loops.{rolled_none, rolled_more}
use Rattle.port.specs.Chip.{Chip, Sound}
use Rattle.port.specs.Instructions.{table}
use Rattle.port.specs.Asks.{Ask, enable, disable, status, identify, read, cycle, unknown, heard, ordered}
use Rattle.port.specs.Machine.{Frame, frame, hears, identity, shown, reply, answer}
use Rattle.port.specs.Laws.{Shows}

length-rolled : (image : List ℕ) (a n : ℕ) → length (rolled image a n) ≡ n
length-rolled image a zero = ap length (rolled_none image a 0 refl)
length-rolled image a (suc n) = ap length (rolled_more image a (suc n) n refl) ∙ ap suc (length-rolled image (a + 1) n)

pub length-reply : (w : ℕ) (c : Chip) (o : Ask) (n : ℕ) → length (reply w c o n) ≡ n
length-reply w c enable n = length-replicate n 255
length-reply w c disable n = length-replicate n 255
length-reply w c status n = length-replicate n (shown w c)
length-reply w c identify n = go (leb n 3) refl
  where
    go : (b : Bool) → leb n 3 ≡ b → length (cond b (take n (identity c)) (replicate n 255)) ≡ n
    go true e = length-take-le n (identity c) (leb-true _ _ e)
    go false e = length-replicate n 255
length-reply w c (read a) n = length-rolled c.image a n
length-reply w c (cycle y) n = length-replicate n 255
length-reply w c unknown n = length-replicate n 255

shown_right : (w : ℕ) (c : Chip) → c.status % 4 ≡ 0 → Shows c (shown w c)
shown_right w c h =
    let m = and_mod w 2 1 in
    let z = and_le_r (w % 2) 0 in
    let l = and_le_r w 2 in (grind (arith, nat_tests), grind (arith, nat_tests), λ i. grind (arith, nat_tests))

pub shows : (w : ℕ) (c : Chip) → Sound c → (f : Frame) (i : ℕ) → hears c f ≡ status → i < f.wanted
    → Shows c (get_or (answer w c f) i 0) × (get_or (answer w c f) i 0 ≡ get_or (answer w c f) 0 0)
shows w c S f i e h = (subst (Shows c) (sym (each i h)) (shown_right w c S.steady), each i h ∙ sym (each 0 (omega arith)))
  where
    each : (j : ℕ) → j < f.wanted → get_or (answer w c f) j 0 ≡ shown w c
    each j l = ap (λ o. get_or (reply w c o f.wanted) j 0) e ∙ get_or-replicate f.wanted j (shown w c) 0 l

-- while busy
busy_byte : (w : ℕ) (c : Chip) → 0 < c.busy → shown w c ≡ c.status + (1 + bit_and w 2)
busy_byte w c h = ap (λ n. c.status + n) (cond-false _ _ _ (ne_eqb c.busy 0 (λ z. omega arith)))

pub either : (c : Chip) (f : Frame) → hears c f ≡ status → 0 < c.busy
    → (answer 0 c f ≡ replicate f.wanted (c.status + 1)) × (answer 2 c f ≡ replicate f.wanted (c.status + 3))
either c f e h = (as_shown 0, as_shown 2)
  where
    as_shown : (w : ℕ) → answer w c f ≡ replicate f.wanted (c.status + (1 + bit_and w 2))
    as_shown w = ap (λ o. reply w c o f.wanted) e ∙ ap (replicate f.wanted) (busy_byte w c h)

-- the frame of the identification
heard_identity : (busy size n : ℕ) → heard busy size (ordered (0x9F ∷ []) n) ≡ heard busy size (cond (leb n 3) identify unknown)
unfolding table
heard_identity busy size n = refl

pub identifies : (w : ℕ) (c : Chip) (n : ℕ) → c.busy ≡ 0 → n ≤ 3 → answer w c (frame (0x9F ∷ []) n) ≡ take n (0x20 ∷ 0xDA ∷ c.capacity ∷ [])
identifies w c n z h =
    let t = le-leb n 3 h in
    let e : hears c (frame (0x9F ∷ []) n) ≡ identify =
    heard_identity c.busy (length c.image) n ∙ ap (λ b. heard c.busy (length c.image) (cond b identify unknown)) t ∙ cond-true _ _ _ (eq-eqb _ _ z) in
    ap (λ o. reply w c o n) e ∙ cond-true _ _ _ t

nothing_heard : (b : Bool) → cond b unknown unknown ≡ unknown
nothing_heard true = refl
nothing_heard false = refl

pub identifies_three : (c : Chip) (n : ℕ) → 3 < n → hears c (frame (0x9F ∷ []) n) ≡ unknown
identifies_three c n h =
    heard_identity c.busy (length c.image) n ∙ ap (λ b. heard c.busy (length c.image) (cond b identify unknown)) (lt-leb n 3 h) ∙ nothing_heard (eqb c.busy 0)
