-- When the status byte protects nothing.
use Rattle.std.proofs.Common.{◌≡◌, ℕ, ◌+◌, ◌-◌, ◌*◌, ◌/◌, ◌%◌, ◌<◌, false, cond, ◌&&◌, eqb, ltb, leb, sym, ap, ◌∙◌, arith, lit<}
use lib.Bits.{bit_and, and_block, and_zero_r}
use Rattle.std.proofs.lemmas.Nat.{and_shr}
use Rattle.std.proofs.lemmas.Bool.{cond-true, eq-eqb}
use Rattle.std.proofs.lemmas.Bool.Decides.{nat_tests}
use Rattle.memory.specs.Protection.{protects, protected_count, block_protect}

-- BP3 is bit 6, and BP2 to BP0 are bits 4 to 2: together 5Ch
split : (status x y : ℕ) → y < 32 → bit_and status (x * 32 + y) ≡ bit_and (status / 32) x * 32 + bit_and (status % 32) y
split status x y h =
    let w : status / 32 * 32 + status % 32 ≡ status = omega arith in
    ap (λ s. bit_and s (x * 32 + y)) (sym w) ∙ and_block 5 (status / 32) x (status % 32) y (omega arith) h

pub none_counted : (status sectors : ℕ) → bit_and status 0x5C ≡ 0 → protected_count status sectors ≡ 0
none_counted status sectors z =
    let a = split status 2 28 (lit< tt) in
    let h : bit_and status 64 ≡ 0 = let b = split status 2 0 (lit< tt) in let c = and_zero_r (status % 32) in omega arith in
    let l : bit_and status 28 ≡ 0 = let b = split status 0 28 (lit< tt) in let c = and_zero_r (status / 32) in omega arith in
    let b : block_protect status ≡ 0 = sym (and_shr status 28 2) ∙ ap (λ x. x / 4) l in
    cond-true _ _ _ (eq-eqb _ _ h) ∙ cond-true _ _ _ (eq-eqb _ _ b)

pub none_protected : (status sectors sector : ℕ) → bit_and status 0x5C ≡ 0 → protects status sectors sector ≡ false
none_protected status sectors sector z =
    let n = none_counted status sectors z in
    let P = protected_count status sectors in
    go P n
  where
    go : (P : ℕ) → P ≡ 0 → cond (eqb (bit_and status 32) 0) (leb (sectors - P) sector && ltb sector sectors) (ltb sector P) ≡ false
    go P e = grind (arith, nat_tests)
