-- Numbers and bytes as a script spells them.
use Rattle.std.specs.Prelude.{ℕ, ◌+◌, ◌-◌, ◌*◌, ◌^◌, Bool, cond, ◌&&◌, List, [], ◌∷◌, ◌++◌, length, replicate, Some, None, Ok, Err, Option, Result, nat_le, nat_lt, ◌==◌}
use Rattle.std.specs.List.{position_or_len, before_first, after_first}
use Rattle.std.specs.Str.{all_ascii_digits}
use Rattle.script.specs.declared.bytes.Copies.{Copies}
use Rattle.script.specs.declared.fault.Fault.{Fault}
use Rattle.script.specs.declared.fault.Fault.TheVariants.{Number, Large, Byte, Bytes}
use Rattle.script.specs.Results.{after}

abbrev pub within : ℕ → ℕ → ℕ → Bool
within low high c = nat_le low c && nat_le c high

-- the number that digits write, after those of n
abbrev pub read_on : ℕ → List ℕ → ℕ
read_on n [] = n
read_on n (c ∷ cs) = read_on (10 * n + (c - 48)) cs

-- one digit or more, of a number that a `usize` holds
unfoldable pub decimal_of : List ℕ → Result ℕ Fault
decimal_of word =
    cond (nat_lt 0 (length word) && all_ascii_digits word)
    (cond (nat_lt (read_on 0 word) (2 ^ 64)) (Ok (read_on 0 word)) (Err Large))
    (Err Number)

-- a hexadecimal digit, in either case
abbrev pub digit_of : ℕ → Option ℕ
digit_of c =
    cond (within 48 57 c) (Some (c - 48))
    (cond (within 65 70 c) (Some (c - 65 + 10)) (cond (within 97 102 c) (Some (c - 97 + 10)) None))

abbrev pub paired : Option ℕ → Option ℕ → Result ℕ Fault
paired None low = Err Byte
paired (Some high) None = Err Byte
paired (Some high) (Some low) = Ok (high * 16 + low)

-- the byte that two digits spell
unfoldable pub byte_of : List ℕ → Result ℕ Fault
byte_of [] = Err Byte
byte_of (a ∷ []) = Err Byte
byte_of (a ∷ b ∷ []) = paired (digit_of a) (digit_of b)
byte_of (a ∷ b ∷ c ∷ cs) = Err Byte

abbrev pub is_star : ℕ → Bool
is_star b = b == 42

abbrev pub copies : ℕ → ℕ → Copies
copies n b = record { count = n; value = b }

-- `N*BB` is N copies of a byte, and `BB` one
unfoldable pub copies_of : List ℕ → Result Copies Fault
copies_of word =
    cond (nat_lt (position_or_len is_star word) (length word))
    (after (decimal_of (before_first is_star word)) (λ n. after (byte_of (after_first is_star word)) (λ b. Ok (copies n b))))
    (after (byte_of word) (λ b. Ok (copies 1 b)))

-- the bytes that words spell, after those that stand there: no more than the largest chip has
unfoldable pub spelled : List ℕ → List (List ℕ) → Result (List ℕ) Fault
spelled bytes [] = Ok bytes
spelled bytes (word ∷ words) =
    after (copies_of word) (λ c. cond (nat_le (length bytes + c.count) 16777216) (spelled (bytes ++ replicate c.count c.value) words) (Err Bytes))
