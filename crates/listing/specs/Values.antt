-- The bytes that pairs spell.
use Rattle.std.specs.Prelude.{◌≡◌, ℕ, ◌+◌, cond, List, [], ◌∷◌, ◌++◌, length, drop, Ok, Err, Result, ◌==◌, nat_le}
use Rattle.listing.specs.declared.fault.ListingFault.{ListingFault}
use Rattle.listing.specs.declared.fault.ListingFault.TheVariants.{Malformed, TextShort}
use Rattle.listing.specs.Hex.{Pairs}
use Rattle.listing.specs.Scan.{pair_of, on_pair}

abbrev pub before : ℕ → Result (List ℕ) ℕ → Result (List ℕ) ℕ
before v (Ok bs) = Ok (v ∷ bs)
before v (Err at) = Err at

-- after a pair of the value v, with `at` bytes before it ended: the end, or a space and more
abbrev pub after : ℕ → ℕ → List ℕ → Result (List ℕ) ℕ → Result (List ℕ) ℕ
after v at [] r = Ok (v ∷ [])
after v at (c ∷ s) r = cond (c == 32) (before v r) (Err at)

-- the values of the pairs, or how many bytes stand before the first that breaks them; `at` bytes stand before s
unfoldable pub values : ℕ → List ℕ → Result (List ℕ) ℕ
values at [] = Err at
values at (a ∷ []) = on_pair (pair_of (a ∷ [])) (Err at) (λ v. Ok (v ∷ []))
values at (a ∷ b ∷ []) = on_pair (pair_of (a ∷ b ∷ [])) (Err at) (λ v. Ok (v ∷ []))
values at (a ∷ b ∷ c ∷ s) = on_pair (pair_of (a ∷ b ∷ c ∷ s)) (Err at) (λ v. after v (at + 2) (c ∷ s) (values (at + 3) s))

abbrev pub good : Result (List ℕ) ℕ → List ℕ
good (Ok bs) = bs
good (Err at) = []

-- how many there are, after n others
abbrev pub tallied : ℕ → Result (List ℕ) ℕ → Result ℕ ListingFault
tallied n (Ok bs) = Ok (n + length bs)
tallied n (Err at) = Err (Malformed 1 (at + 1))

-- they are the values that the grammar gives the text
abbrev pub Spelled : List ℕ → Type 0
Spelled s = ((bs : List ℕ) → Pairs s bs → values 0 s ≡ Ok bs) × ((bs : List ℕ) → values 0 s ≡ Ok bs → Pairs s bs)

-- bytes to be written at the start of a buffer of n bytes: how many, or the length that it lacks
abbrev pub fitted : List ℕ → ℕ → Result ℕ ListingFault
fitted bs n = cond (nat_le (length bs) n) (Ok (length bs)) (Err (TextShort (length bs)))

-- and what the buffer then holds
abbrev pub over : List ℕ → List ℕ → List ℕ
over bs was = cond (nat_le (length bs) (length was)) (bs ++ drop (length bs) was) was

-- the same of the values of pairs, which may be broken
abbrev pub read_answer : Result (List ℕ) ℕ → ℕ → Result ℕ ListingFault
read_answer (Ok bs) n = fitted bs n
read_answer (Err at) n = Err (Malformed 1 (at + 1))

abbrev pub read_into : Result (List ℕ) ℕ → List ℕ → List ℕ
read_into (Ok bs) was = over bs was
read_into (Err at) was = was
