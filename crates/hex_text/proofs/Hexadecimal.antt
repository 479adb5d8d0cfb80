-- Bytes spelled as pairs of uppercase hexadecimal digits: what `{:02X}` writes of a byte, one byte more and a run of them, and that
-- all of it is ASCII. Nothing here cites the first two lemmas: they are for who writes bytes by `{:02X}`, one by one.
use Rattle.std.proofs.Common.{◌≡◌, ℕ, ◌+◌, ◌-◌, ◌*◌, ◌<◌, ◌≤◌, ◌/◌, ◌%◌, ◌^◌, ◌++◌, List, [], ◌∷◌, Some, Option, option_map, true, false, length, get_or, take, drop, arith, refl, suc, Result, Ok, Err, sym, ap, ap₂, ◌∙◌}
use Rattle.std.specs.Fmt.{digit_glyph, padded_integral, radix_digits, format_spec}
use Rattle.std.specs.Str.{IsAscii, IsUtf8}
use Rattle.std.proofs.lemmas.Grind.{flat_map-append}
use Rattle.std.proofs.lemmas.Str.{IsUtf8-from_ascii}
use Rattle.std.specs.Result.{MatchResult, IsOk}
use Rattle.std.proofs.lemmas.Fmt.{hex_byte}
use Rattle.std.proofs.lemmas.List.{take_all, take_more, take-take, drop-take, take-append-drop, flat_map_more}
use Rattle.std.proofs.lemmas.Str.Ascii.{IsAscii-nil, IsAscii-cons}
use Rattle.hex_text.specs.HexText.{pair, spaced}

-- what `{:02X}` writes of a byte
pub hex_text : (o : Option (List ℕ)) (n : ℕ) → n < 256 → o ≡ Some (radix_digits 16 true n)
    → option_map (padded_integral (format_spec 32 0 4 2 (2 ^ 64 - 1)) false []) o ≡ Some (pair n)
hex_text o n small e = rw e (ap Some (hex_byte true n small))

-- one more byte
pub spaced_more : (bytes : List ℕ) (i : ℕ) → i < length bytes → spaced (take i bytes) ++ 32 ∷ pair (get_or bytes i 0) ≡ spaced (take (i + 1) bytes)
spaced_more bytes i h = flat_map_more (λ b. 32 ∷ pair b) [] (take i bytes) (get_or bytes i 0) ∙ ap spaced (sym (take_more bytes i 0 h))

glyph_ascii : (d : ℕ) → d < 16 → digit_glyph true d < 128
glyph_ascii d h = grind arith

-- a pair before ASCII
pair_before : (b : ℕ) (bs : List ℕ) → b < 256 → IsAscii bs → IsAscii (pair b ++ bs)
pair_before b bs h k = IsAscii-cons (digit_glyph true (b / 16)) (digit_glyph true (b % 16) ∷ bs) (glyph_ascii (b / 16) (omega arith)) (IsAscii-cons (digit_glyph true (b % 16)) bs (glyph_ascii (b % 16) (omega arith)) k)

pub pair_ascii : (b : ℕ) → b < 256 → IsAscii (pair b)
pair_ascii b h = pair_before b [] h IsAscii-nil

pub spaced_ascii : (bytes : List ℕ) → ((i : ℕ) → get_or bytes i 0 < 256) → IsAscii (spaced bytes)
spaced_ascii [] h = IsAscii-nil
spaced_ascii (b ∷ bs) h = IsAscii-cons 32 (pair b ++ spaced bs) (omega arith) (pair_before b (spaced bs) (h 0) (spaced_ascii bs (λ i. h (suc i))))

-- what refuses only bytes that are no UTF-8 takes ASCII
pub ok_of : {T E : Type 0} (P : T → Type 0) (Q : E → Type 0) (bs : List ℕ) (r : Result T E) → MatchResult r P (λ e. (¬ (IsUtf8 bs)) × Q e) → IsAscii bs → IsOk r
ok_of P Q bs (Ok x) m a = refl
ok_of P Q bs (Err e) m a = absurd (m.0 (IsUtf8-from_ascii bs a))

-- all of them
pub spelled : (bytes text : List ℕ) (i : ℕ) → i ≤ length bytes → length bytes ≤ i → take (i * 3) text ≡ spaced (take i bytes) → take (length bytes * 3) text ≡ spaced bytes
spelled bytes text i h l e =
    let n : i ≡ length bytes = omega arith in
    ap (λ k. take (k * 3) text) (sym n) ∙ e ∙ ap spaced (take_all i bytes l)

-- those before a place, and a run from there
pub spaced_run : (bytes text : List ℕ) (at end : ℕ) → at ≤ end → text ≡ spaced (take (end - at) (drop at bytes)) → spaced (take at bytes) ++ text ≡ spaced (take end bytes)
spaced_run bytes text at end h e =
    let n : at + (end - at) ≡ end = omega arith in
    ap (λ x. spaced (take at bytes) ++ x) e
    ∙ sym (flat_map-append (λ b. 32 ∷ pair b) (take at bytes) (take (end - at) (drop at bytes)))
    ∙ ap spaced (ap₂ ◌++◌ (sym (take-take at (at + (end - at)) bytes (omega arith))) (sym (drop-take at (end - at) bytes)) ∙ take-append-drop at (take (at + (end - at)) bytes))
    ∙ ap (λ k. spaced (take k bytes)) n
