-- Frames put together, and taken apart again.
use Rattle.std.proofs.Common.{◌≡◌, ℕ, zero, suc, ◌+◌, ◌-◌, ◌*◌, ◌/◌, ◌%◌, ◌<◌, ◌≤◌, ◌^◌, true, cond, ◌&&◌, eqb, ltb, leb, List, [], ◌∷◌, ◌++◌, length, drop, set, replicate, Some, sym, refl, ap, ◌∙◌, subst, ap₂, arith, lit≤, length-append}
use borrow.Rule.Slice.PartMut.{put_mid}
use lib.ListN.{length-replicate}
use Rattle.std.proofs.Math.Nat.{div-div-eq-div-mul, pow-succ'}
use Rattle.std.specs.Int.{byte_at, bytes_high_first}
use Rattle.std.proofs.lemmas.List.{append_assoc, drop-drop, take_at, drop_at}
use Rattle.std.proofs.lemmas.Bool.{cond-true, le-leb, lt-ltb}
use Rattle.port.specs.declared.instruction.Operation.{Operation}
use Rattle.port.specs.declared.instruction.Operation.TheVariants.{WriteEnable, WriteDisable, ReadStatus, Identify, Read, FastRead, Program, Alter, Preset, SectorErase, BulkErase}
use Rattle.port.specs.declared.instruction.Instruction.{Instruction}
use Rattle.port.specs.Instructions.{table, allows}
use Rattle.port.specs.Asks.{meant, read, cycle, unknown, shaped_by, address_in, data_in}
use Rattle.memory.specs.Cycle.{sector_erase}
use Rattle.port.specs.Build.{Understood, listed, built, high_first, carried_by, headed}

pub length-high_first : (n a : ℕ) → length (high_first n a) ≡ n
length-high_first zero a = refl
length-high_first (suc n) a = length-append (high_first n (a / 256)) _ ∙ (let e = length-high_first n (a / 256) in omega arith)

-- the bytes of an address, as the library has them
byte_up : (k a : ℕ) → byte_at (suc k) a ≡ byte_at k (a / 256)
byte_up zero a = refl
byte_up (suc k) a = ap (λ n. a / n % 256) (pow-succ' 256 (suc k)) ∙ ap (λ n. n % 256) (sym (div-div-eq-div-mul a 256 (256 ^ suc k)))

one_lower : (k a : ℕ) → bytes_high_first (suc k) a ≡ bytes_high_first k (a / 256) ++ (a % 256 ∷ [])
one_lower zero a = refl
one_lower (suc k) a = ap₂ (λ x xs. x ∷ xs) (byte_up k a) (one_lower k a)

high_first_is : (k a : ℕ) → bytes_high_first k a ≡ high_first k a
high_first_is zero a = refl
high_first_is (suc k) a = one_lower k a ∙ ap (λ xs. xs ++ (a % 256 ∷ [])) (high_first_is k (a / 256))

lowest_bytes : (m k n a : ℕ) → n ≡ m + k → drop m (bytes_high_first n a) ≡ bytes_high_first k a
lowest_bytes zero k n a e = let f : n ≡ k = omega arith in ap (λ i. bytes_high_first i a) f
lowest_bytes (suc m) k zero a e = absurd (omega arith)
lowest_bytes (suc m) k (suc n) a e = lowest_bytes m k n a (omega arith)

pub lowest_first : (k a : ℕ) → k ≤ 8 → drop (8 - k) (bytes_high_first 8 a) ≡ high_first k a
lowest_first k a h = lowest_bytes (8 - k) k 8 a (omega arith) ∙ high_first_is k a

-- no instruction has a longer address
listed_most : (o : Operation) → (listed o).address_bytes ≤ 3
unfolding table listed
listed_most WriteEnable = lit≤ tt
listed_most WriteDisable = lit≤ tt
listed_most ReadStatus = lit≤ tt
listed_most Identify = lit≤ tt
listed_most Read = lit≤ tt
listed_most FastRead = lit≤ tt
listed_most Program = lit≤ tt
listed_most Alter = lit≤ tt
listed_most Preset = lit≤ tt
listed_most SectorErase = lit≤ tt
listed_most BulkErase = lit≤ tt

pub address_most : (o : Operation) (i : Instruction) → i ≡ listed o → i.address_bytes ≤ 3
address_most o i e = subst (λ (x : Instruction). x.address_bytes ≤ 3) (sym e) (listed_most o)

-- a part written after a front
after_front : (p q ys : List ℕ) (a k : ℕ) → length p ≡ a → put_mid a k (p ++ q) ys ≡ (p ++ ys) ++ drop k q
after_front p q ys a k e =
    ap₂ (λ x y. x ++ (ys ++ drop k y)) (take_at p q a e) (drop_at p q a e) ∙ sym (append_assoc p ys (drop k q))

-- the four parts of a frame, written one after the other
pub four_parts : (xs ys zs ws : List ℕ) (code a b k l m n : ℕ) → 0 < length xs → 1 + length ys ≡ a → a + length zs ≡ b → k ≡ length ys → l ≡ length zs → m ≡ length ws → b + length ws ≡ n
    → put_mid b m (put_mid a l (put_mid 1 k (set xs 0 code) ys) zs) ws ≡ code ∷ ((ys ++ (zs ++ ws)) ++ drop n xs)
four_parts [] ys zs ws code a b k l m n s ea eb ek el em en = absurd (omega arith)
four_parts (x ∷ t) ys zs ws code a b k l m n s ea eb ek el em en =
    ap (λ v. put_mid b m (put_mid a l v zs) ws) (after_front (code ∷ []) t ys 1 k refl)
    ∙ ap (λ v. put_mid b m v ws) (after_front (code ∷ ys) (drop k t) zs a l (omega arith))
    ∙ after_front ((code ∷ ys) ++ zs) (drop l (drop k t)) ws b m (length-append (code ∷ ys) zs ∙ omega arith)
    ∙ ap₂ ◌++◌ (append_assoc (code ∷ ys) zs ws) rest
  where
    rest : drop m (drop l (drop k t)) ≡ drop n (x ∷ t)
    rest =
        let e : n ≡ suc (k + l + m) = omega arith in
        drop-drop m l (drop k t) ∙ drop-drop (l + m) k t ∙ ap (λ i. drop i t) (omega arith) ∙ sym (ap (λ i. drop i (x ∷ t)) e)

pub length-headed : (i : Instruction) (a : ℕ) (sent : List ℕ) → length (headed i a sent) ≡ 1 + i.address_bytes + i.dummy_bytes + length sent
length-headed i a sent =
    let h = length-high_first i.address_bytes a in
    let r : length (replicate {A = ℕ} i.dummy_bytes 0) ≡ i.dummy_bytes = length-replicate i.dummy_bytes 0 in
    let e = length-append (replicate i.dummy_bytes 0) sent in
    let f = length-append (high_first i.address_bytes a) (replicate i.dummy_bytes 0 ++ sent) in omega arith

pub built_is : (o : Operation) (i : Instruction) (a : ℕ) (s : List ℕ) → i ≡ listed o → built o a s ≡ headed i a (carried_by i.has_data s)
unfolding built
built_is o i a s e = ap (λ (x : Instruction). headed x a (carried_by x.has_data s)) (sym e)

pub length-built : (o : Operation) (i : Instruction) (a : ℕ) (s : List ℕ) → i ≡ listed o
    → length (built o a s) ≡ 1 + i.address_bytes + i.dummy_bytes + length (carried_by i.has_data s)
length-built o i a s e = ap length (built_is o i a s e) ∙ length-headed i a (carried_by i.has_data s)

pub length-enable : length (built WriteEnable 0 []) ≡ 1
unfolding table listed built
length-enable = refl

-- the address in its three bytes
back-again : (a : ℕ) → a < 16777216 → a / 256 / 256 % 256 * 65536 + a / 256 % 256 * 256 + a % 256 ≡ a
back-again a h = omega arith

-- a frame with three bytes of address and data
pub page-frame : (i : Instruction) (b2 b1 b0 wanted : ℕ) (sent : List ℕ) → i.has_data ≡ true → i.address_bytes + i.dummy_bytes ≡ 3 → 0 < length sent
    → shaped_by (Some i) (length (b2 ∷ b1 ∷ b0 ∷ sent)) wanted (address_in (b2 ∷ b1 ∷ b0 ∷ sent)) (data_in (b2 ∷ b1 ∷ b0 ∷ sent))
    ≡ cond (allows i.back wanted) (meant i.operation (b2 * 65536 + b1 * 256 + b0) sent) unknown
page-frame i b2 b1 b0 wanted sent c z h =
    let rest = b2 ∷ b1 ∷ b0 ∷ sent in
    let l : leb 3 (length rest) ≡ true = le-leb _ _ (omega arith) in
    let f : cond i.has_data (ltb (i.address_bytes + i.dummy_bytes) (length rest)) (eqb (length rest) (i.address_bytes + i.dummy_bytes)) ≡ true =
    cond-true _ _ _ c ∙ lt-ltb _ _ (omega arith) in
    ap (λ t. cond (t && allows i.back wanted) (meant i.operation (address_in rest) (data_in rest)) unknown) f
    ∙ ap₂ (λ x y. cond (allows i.back wanted) (meant i.operation x y) unknown) (cond-true _ _ _ l) (cond-true _ _ _ l)

pub understood : Understood
unfolding table listed built
understood WriteEnable a w s h d = refl
understood WriteDisable a w s h d = refl
understood ReadStatus a w s h d = refl
understood Identify a w s h d = refl
understood Read a w s h d = ap (λ x. read x) (back-again a h)
understood FastRead a w s h d = ap (λ x. read x) (back-again a h)
understood Program a w s h d = page-frame (listed Program) _ _ _ w s refl refl (d refl) ∙ ap (λ x. cond (eqb w 0) (meant Program x s) unknown) (back-again a h)
understood Alter a w s h d = page-frame (listed Alter) _ _ _ w s refl refl (d refl) ∙ ap (λ x. cond (eqb w 0) (meant Alter x s) unknown) (back-again a h)
understood Preset a w s h d = page-frame (listed Preset) _ _ _ w s refl refl (d refl) ∙ ap (λ x. cond (eqb w 0) (meant Preset x s) unknown) (back-again a h)
understood SectorErase a w s h d = ap (λ x. cond (eqb w 0) (cycle (sector_erase x)) unknown) (back-again a h)
understood BulkErase a w s h d = refl
