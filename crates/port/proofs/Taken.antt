-- A cycle is carried out exactly if the latch is set and it has what it needs.
use Rattle.std.proofs.Common.{◌≡◌, ℕ, zero, suc, ◌+◌, ◌-◌, ◌*◌, ◌/◌, ◌%◌, ◌<◌, true, cond, not, eqb, min, List, [], ◌∷◌, length, get_or, drop, sym, refl, ap, ◌∙◌, mod-lt, div-add-mod', arith, length-drop, length-take}
use lib.Bits.{bit_and}
use Rattle.std.proofs.lemmas.Nat.{div-mul-add}
use Rattle.std.proofs.lemmas.List.{get_or-take, get_or-drop}
use Rattle.std.proofs.lemmas.Bool.{and_parts, and_from, eqb-true, eq-eqb, not-true, not-false, not_from_false}
use Rattle.std.proofs.lemmas.Bool.Decides.{nat_tests}
use Rattle.memory.specs.Page.{page, blank}
use Rattle.memory.specs.Protection.{free}
use Rattle.memory.specs.Cycle.{Cycle, program, alter, preset, sector_erase, bulk_erase}
use Rattle.memory.proofs.Free.{free_at, masked}
use Rattle.memory.proofs.Models.{page-bytes}
use Rattle.port.specs.Chip.{Chip, Sound, shape}
use Rattle.port.specs.Machine.{takes, opens}
use Rattle.port.specs.Laws.{Needs}

-- FFh at each place
ff_at : (xs : List ℕ) (i : ℕ) → blank xs ≡ true → i < length xs → get_or xs i 0 ≡ 255
ff_at [] i b h = absurd (omega arith)
ff_at (x ∷ xs) zero b h = eqb-true _ _ (and_parts (eqb x 255) _ b).0
ff_at (x ∷ xs) (suc i) b h = ff_at xs i (and_parts (eqb x 255) _ b).1 (omega arith)

all_ff : (xs : List ℕ) → ((i : ℕ) → i < length xs → get_or xs i 0 ≡ 255) → blank xs ≡ true
all_ff [] h = refl
all_ff (x ∷ xs) h = and_from _ _ (eq-eqb _ _ (h 0 (omega arith))) (all_ff xs (λ i l. h (suc i) (omega arith)))

-- place j of page q
page_at : (z q j : ℕ) (image : List ℕ) → j < z → get_or (page z q image) j 0 ≡ get_or image (q * z + j) 0
page_at z q j image h = get_or-take z (drop (q * z) image) j 0 h ∙ get_or-drop (q * z) image j 0

length-page : (z q : ℕ) (image : List ℕ) → length (page z q image) ≡ min z (length image - q * z)
length-page z q image = length-take z (drop (q * z) image) ∙ ap (min z) (length-drop (q * z) image)

blank_each : (z q : ℕ) (image : List ℕ) → 0 < z → blank (page z q image) ≡ true → (i : ℕ) → i < length image → i / z ≡ q → get_or image i 0 ≡ 255
blank_each z q image h b i l e =
    let w : q * z + i % z ≡ i = ap (λ x. x * z + i % z) (sym e) ∙ div-add-mod' i z in
    let r : i % z < z = mod-lt i h in
    let n = length-page z q image in
    ap (λ x. get_or image x 0) (sym w) ∙ sym (page_at z q (i % z) image r) ∙ ff_at (page z q image) (i % z) b (omega arith)

each_blank : (z q : ℕ) (image : List ℕ) → ((i : ℕ) → i < length image → i / z ≡ q → get_or image i 0 ≡ 255) → blank (page z q image) ≡ true
each_blank z q image a = all_ff (page z q image) at
  where
    at : (j : ℕ) → j < length (page z q image) → get_or (page z q image) j 0 ≡ 255
    at j l =
        let n = length-page z q image in
        let s : j < z = omega arith in
        page_at z q j image s ∙ a (q * z + j) (omega arith) (div-mul-add q z j s)

-- the four BP bits, looked at as one mask and as bit 6 and bits 4 to 2, agree at every byte
abbrev fielded : ℕ → ℕ
fielded st = cond (eqb (st / 64 % 2) 0) (cond (eqb (st / 4 % 8) 0) 0 1) 1

fields : (st : ℕ) → st < 256 → fielded st ≡ masked st
fields st h =
    let f : free (λ x. not (eqb (fielded x) (masked x))) 256 ≡ true = refl in
    eqb-true _ _ (not-false _ (free_at (λ x. not (eqb (fielded x) (masked x))) 256 st f h))

clear : (st : ℕ) → st < 256 → eqb (bit_and st 0x5C) 0 ≡ true → (st / 64 % 2 ≡ 0) × (st / 4 % 8 ≡ 0)
clear st h e = let f = fields st h in (grind (arith, nat_tests), grind (arith, nat_tests))

unmasked : (st : ℕ) → st < 256 → st / 64 % 2 ≡ 0 → st / 4 % 8 ≡ 0 → eqb (bit_and st 0x5C) 0 ≡ true
unmasked st h a b = let f = fields st h in grind (arith, nat_tests)

some_bytes : (c : Chip) → 0 < (shape c).bytes
some_bytes c = let e = page-bytes c.capacity in omega arith

pub latched_for : (c : Chip) (y : Cycle) → takes c y ≡ true → c.latch ≡ true
latched_for c (program a d) t = (and_parts c.latch _ t).0
latched_for c (alter a d) t = (and_parts c.latch _ t).0
latched_for c (preset a d) t = (and_parts c.latch _ (and_parts (opens c a) _ t).0).0
latched_for c (sector_erase a) t = (and_parts c.latch _ t).0
latched_for c bulk_erase t = (and_parts c.latch _ t).0

open_for : (c : Chip) (a : ℕ) → opens c a ≡ true → Needs c (sector_erase a)
open_for c a t = not-true _ (and_parts c.latch _ t).1

pub needed : (c : Chip) → Sound c → (y : Cycle) → takes c y ≡ true → Needs c y
needed c S (program a d) t = open_for c a t
needed c S (alter a d) t = open_for c a t
needed c S (preset a d) t = let p = and_parts (opens c a) _ t in (open_for c a p.0, blank_each _ _ c.image (some_bytes c) p.1)
needed c S (sector_erase a) t = open_for c a t
needed c S bulk_erase t = clear c.status S.byte (and_parts c.latch _ t).1

opened : (c : Chip) (a : ℕ) → c.latch ≡ true → Needs c (sector_erase a) → opens c a ≡ true
opened c a l n = and_from c.latch _ l (not_from_false _ n)

pub taken : (c : Chip) → Sound c → (y : Cycle) → c.latch ≡ true → Needs c y → takes c y ≡ true
taken c S (program a d) l n = opened c a l n
taken c S (alter a d) l n = opened c a l n
taken c S (preset a d) l n = and_from (opens c a) _ (opened c a l n.0) (each_blank _ _ c.image n.1)
taken c S (sector_erase a) l n = opened c a l n
taken c S bulk_erase l n = and_from c.latch _ l (unmasked c.status S.byte n.0 n.1)
