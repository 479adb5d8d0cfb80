-- Pairs as they are spelled and as they are read.
use Rattle.std.proofs.Common.{◌≡◌, ℕ, ◌+◌, ◌*◌, ◌<◌, ◌≤◌, List, [], ◌∷◌, ◌++◌, length, get_or, drop, Some, None, Option, sym, refl, ap, ◌∙◌, subst, arith}
use Rattle.std.proofs.Math.Nat.{suc-ne-zero}
use Rattle.std.proofs.lemmas.Bool.Decides.{nat_tests}
use Rattle.listing.specs.Hex.{glyph, Pair, pair}
use Rattle.listing.specs.Scan.{digit_of, joined, pair_of}

pub digit-read : (h : ℕ) → h < 16 → digit_of (glyph h) ≡ Some h
digit-read h l = grind (arith, nat_tests)

pub digit-spelled : (b h : ℕ) → digit_of b ≡ Some h → (h < 16) × (b ≡ glyph h)
digit-spelled b h e = grind (arith, nat_tests)

-- a text that begins with a pair of the value v
pub record Leads (s : List ℕ) (v : ℕ) : Type 0 where
  pub word : List ℕ
  pub left : List ℕ
  pub spelled : Pair word v
  pub text : s ≡ word ++ left

pub pair_read : {w : List ℕ} {v : ℕ} → Pair w v → (s : List ℕ) → pair_of (w ++ s) ≡ Some v
unfolding pair_of
pair_read (pair h l p q) s =
    ap (λ x. joined x (digit_of (glyph l))) (digit-read h p) ∙ ap (joined (Some h)) (digit-read l q)

pub pair_size : {w : List ℕ} {v : ℕ} → Pair w v → length w ≡ 2
pair_size (pair h l p q) = refl

pub pair_left : {w : List ℕ} {v : ℕ} → Pair w v → (s : List ℕ) → drop 2 (w ++ s) ≡ s
pair_left (pair h l p q) s = refl

-- and what follows the byte after it
pub pair_past : {w : List ℕ} {v : ℕ} → Pair w v → (s : List ℕ) → drop 3 (w ++ s) ≡ drop 1 s
pair_past (pair h l p q) s = refl

-- the first digit of a pair is no `;`, no `>` and no space, and no 0Ah
pub pair_first : {w : List ℕ} {v : ℕ} → Pair w v → (s : List ℕ) → (48 ≤ get_or (w ++ s) 0 0) × (get_or (w ++ s) 0 0 ≡ 59 → ⊥) × (get_or (w ++ s) 0 0 ≡ 62 → ⊥)
pair_first (pair h l p q) s = grind (arith, nat_tests)

join_spelled : (a b v : ℕ) (x y : Option ℕ) → digit_of a ≡ x → digit_of b ≡ y → joined x y ≡ Some v → Pair (a ∷ b ∷ []) v
join_spelled a b v None y d e j = absurd (suc-ne-zero 0 cc)
join_spelled a b v (Some h) None d e j = absurd (suc-ne-zero 0 cc)
join_spelled a b v (Some h) (Some l) d e j =
    let p = digit-spelled a h d in
    let q = digit-spelled b l e in
    let r : h * 16 + l ≡ v = cc in
    let P : ℕ → Type 0 = λ x. Pair (x ∷ b ∷ []) v in
    let Q : ℕ → Type 0 = λ y. Pair (glyph h ∷ y ∷ []) v in
    let R : ℕ → Type 0 = λ n. Pair (glyph h ∷ glyph l ∷ []) n in
    subst P (sym p.1) (subst Q (sym q.1) (subst R r (pair h l p.0 q.0)))

lone : (x : Option ℕ) (v : ℕ) → joined x None ≡ Some v → ⊥
lone None v j = suc-ne-zero 0 cc
lone (Some h) v j = suc-ne-zero 0 cc

pub pair-spelled : (s : List ℕ) (v : ℕ) → pair_of s ≡ Some v → Leads s v
unfolding pair_of
pair-spelled [] v e = absurd (suc-ne-zero 0 cc)
pair-spelled (a ∷ []) v e = absurd (lone (digit_of a) v e)
pair-spelled (a ∷ b ∷ s) v e =
    record { word = a ∷ b ∷ []; left = s; spelled = join_spelled a b v (digit_of a) (digit_of b) refl refl e; text = refl }

pub pair-here : (a b v : ℕ) (s : List ℕ) → pair_of (a ∷ b ∷ s) ≡ Some v → Pair (a ∷ b ∷ []) v
unfolding pair_of
pair-here a b v s e = join_spelled a b v (digit_of a) (digit_of b) refl refl e

pub pair_alone : (a v : ℕ) → pair_of (a ∷ []) ≡ Some v → ⊥
unfolding pair_of
pair_alone a v e = lone (digit_of a) v e

no_low : (x : Option ℕ) → joined x None ≡ None
no_low None = refl
no_low (Some h) = refl

pub pair_short : (s : List ℕ) → length s < 2 → pair_of s ≡ None
unfolding pair_of
pair_short [] h = refl
pair_short (a ∷ []) h = no_low (digit_of a)
pair_short (a ∷ b ∷ s) h = absurd (omega arith)
