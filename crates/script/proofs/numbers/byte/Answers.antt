use Rattle.std.proofs.Common.{◌≡◌, ℕ, ◌/◌, ◌%◌, ◌≤◌, List, [], ◌∷◌, length, Ok, Err, Some, None, MatchResult, is_ok, Option, Result, Bool, true, false, if◌then◌else◌, ◌==◌, slice_index_or, refl, sym, ◌∙◌, arith, rules}
use Rattle.std.specs.Result.{IsErrAnd}
use Rattle.std.proofs.lemmas.Bool.Decides.{nat_tests}
use Rattle.hex.specs.Hex.{hex_digit_value, decode_pairs, decode_sized}
use Rattle.hex.specs.declared.error.FromHexError.{FromHexError}
use Rattle.hex.specs.declared.error.FromHexError.TheVariants.{OddLength, InvalidStringLength}
use Rattle.script.specs.declared.fault.Fault.{Fault}
use Rattle.script.specs.declared.fault.Fault.TheVariants.{Byte}
use Rattle.script.specs.Spelling.{digit_of, paired, byte_of}
use Rattle.script.proofs.numbers.byte.Goals as goal

same_digit : (c : ℕ) → hex_digit_value c ≡ digit_of c
same_digit c = grind (arith, nat_tests)

two : (a b : ℕ) (x y : Option ℕ) → hex_digit_value a ≡ x → hex_digit_value b ≡ y
    → MatchResult (decode_pairs 0 (a ∷ b ∷ [])) (λ bs. paired x y ≡ Ok (slice_index_or bs 0 0)) (λ _. paired x y ≡ Err Byte)
unfolding decode_pairs
two a b None y p q = simp p refl
two a b (Some h) None p q = simp (p, q) refl
two a b (Some h) (Some l) p q = simp (p, q) refl

-- three digits or more are too many
far : (n : ℕ) → 3 ≤ n → (n % 2 == 1) ≡ false → (n / 2 == 1) ≡ false
far n h e = grind (arith, nat_tests)

refused : (odd fits : Bool) (r : Result (List ℕ) FromHexError) → (odd ≡ false → fits ≡ false)
    → MatchResult (if odd then Err OddLength else if fits then r else Err InvalidStringLength) (λ bs. ◌≡◌ {A = Result ℕ Fault} (Err Byte) (Ok (slice_index_or bs 0 0))) (λ _. ◌≡◌ {A = Result ℕ Fault} (Err Byte) (Err Byte))
refused true fits r h = refl
refused false fits r h = rw (h refl) refl

one_byte : (w : List ℕ) → MatchResult (decode_sized w 1) (λ bs. byte_of w ≡ Ok (slice_index_or bs 0 0)) (λ _. byte_of w ≡ Err Byte)
unfolding byte_of
one_byte [] = refl
one_byte (a ∷ []) = refl
one_byte (a ∷ b ∷ []) = two a b _ _ (same_digit a) (same_digit b)
one_byte (a ∷ b ∷ c ∷ cs) = refused _ _ _ (far (length (a ∷ b ∷ c ∷ cs)) (omega arith))

-- what did not decode is no byte
told : (w : List ℕ) (r : Result (List ℕ) FromHexError) (s : Result (List ℕ) Fault) (Q : FromHexError → Fault → Type 0)
    → MatchResult r (λ bs. byte_of w ≡ Ok (slice_index_or bs 0 0)) (λ _. byte_of w ≡ Err Byte)
    → MatchResult r (λ bs. s ≡ Ok bs) (λ e. IsErrAnd s (Q e))
    → is_ok s ≡ false → Err Byte ≡ byte_of w
told w (Ok bs) s Q h m e = absurd (cc)
told w (Err f) s Q h m e = sym h

pub returns-in_err-byte : goal.returns-in_err-byte
returns-in_err-byte c =
    let h = one_byte c.args.word.now in
    let e = c.from_hex.ensures in
    let m : c.from_residual.result ≡ Err Byte = search rules in
    m ∙ told c.args.word.now c.from_hex.result c.map_err.result _ (rw (sym c.from_hex.ensures) at h) c.map_err.ensures.cases (search rules)

pub returns : goal.returns
returns c =
    let h = one_byte c.args.word.now in
    let e = c.from_hex.ensures in
    let k : c.from_hex.result ≡ Ok c.in_ok-byte.field-0 = search rules in
    sym (rw (sym e ∙ k) at h)
