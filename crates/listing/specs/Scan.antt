-- The reader's way through a line, on what is left of the text.
-- A byte past the text counts as 0, which no place outside a note lets stand.
use Rattle.std.specs.Prelude.{ℕ, ◌+◌, ◌-◌, ◌*◌, ◌<◌, ◌≤◌, Bool, cond, not, ◌&&◌, List, [], ◌∷◌, take, drop, Some, None, Ok, Err, Option, Result, ◌==◌, nat_le, slice_index}
use Rattle.listing.specs.declared.fault.ListingFault.{ListingFault}
use Rattle.listing.specs.declared.fault.ListingFault.TheVariants.{Malformed}
use Rattle.listing.specs.declared.extent.Extent.{Extent}
use Rattle.listing.specs.declared.extent.Extent.TheVariants.{Note, Frame, Counted}
use Rattle.listing.specs.Parts.{note, frame, count, Spot, spot}

-- the value of an uppercase hexadecimal digit
abbrev pub digit_of : ℕ → Option ℕ
digit_of b = cond (nat_le 48 b && nat_le b 57) (Some (b - 48)) (cond (nat_le 65 b && nat_le b 70) (Some (b - 55)) None)

abbrev pub joined : Option ℕ → Option ℕ → Option ℕ
joined None l = None
joined (Some h) None = None
joined (Some h) (Some l) = Some (h * 16 + l)

-- the value of the pair that a text begins with
unfoldable pub pair_of : List ℕ → Option ℕ
pair_of s = joined (digit_of (slice_index s 0)) (digit_of (slice_index s 1))

-- more pairs follow a pair: a space that no `>` follows
abbrev pub goes_on : List ℕ → Bool
goes_on s = slice_index s 0 == 32 && not (slice_index s 1 == 62)

abbrev pub on_pair : {X : Type 0} → Option ℕ → X → (ℕ → X) → X
on_pair None x f = x
on_pair (Some v) x f = f v

-- each gives what the line holds, or how many bytes stand before the place where it cannot go on;
-- `at` bytes of the line stand before s
abbrev pub at_end : ℕ → List ℕ → Result Extent ℕ
at_end at s = cond (slice_index s 0 == 10) (Ok (Counted at)) (Err at)

abbrev pub at_count : ℕ → List ℕ → Result Extent ℕ
at_count at s = on_pair (pair_of s) (Err at) (λ v. cond (v == 0) (Err at) (at_end (at + 2) (drop 2 s)))

abbrev pub at_mark : ℕ → List ℕ → Result Extent ℕ
at_mark at s = cond (slice_index s 0 == 32) (at_count (at + 1) (drop 1 s)) (Err at)

-- after the last pair of a frame
unfoldable pub closing : ℕ → List ℕ → Result Extent ℕ
closing at s =
    cond (slice_index s 0 == 10) (Ok (Frame at))
    (cond (slice_index s 0 == 32) (at_mark (at + 2) (drop 2 s)) (Err at))

-- where a pair has to stand
unfoldable pub pairs : ℕ → List ℕ → Result Extent ℕ
pairs at [] = Err at
pairs at (a ∷ []) = on_pair (pair_of (a ∷ [])) (Err at) (λ _. closing (at + 2) [])
pairs at (a ∷ b ∷ []) = on_pair (pair_of (a ∷ b ∷ [])) (Err at) (λ _. closing (at + 2) [])
pairs at (a ∷ b ∷ c ∷ s) =
    on_pair (pair_of (a ∷ b ∷ c ∷ s)) (Err at)
    (λ _. cond (goes_on (c ∷ s)) (pairs (at + 3) s) (closing (at + 2) (c ∷ s)))

unfoldable pub inside : ℕ → List ℕ → Result Extent ℕ
inside at [] = Err at
inside at (b ∷ s) = cond (b == 10) (Ok (Note at)) (inside (at + 1) s)

abbrev pub scan : List ℕ → Result Extent ℕ
scan s = cond (slice_index s 0 == 59) (inside 0 s) (pairs 0 s)

-- the refusal where the line l cannot go on
abbrev pub refused : {X : Type 0} → ℕ → Result X ℕ → Result X ListingFault
refused l (Ok x) = Ok x
refused l (Err at) = Err (Malformed l (at + 1))

-- the line lies in a text of n bytes, 0Ah too
abbrev pub Sized : Extent → ℕ → Type 0
Sized (Note e) n = e < n
Sized (Frame e) n = e < n
Sized (Counted e) n = (e < n) × (5 ≤ e)

abbrev pub size_of : Extent → ℕ
size_of (Note e) = e
size_of (Frame e) = e
size_of (Counted e) = e

-- the items of a line that stands at the start of s
abbrev pub spots_by : ℕ → List ℕ → Extent → List Spot
spots_by l s (Note e) = spot (note (take e s)) l 1 ∷ []
spots_by l s (Frame e) = spot (frame (take e s)) l 1 ∷ []
spots_by l s (Counted e) = spot (frame (take (e - 5) s)) l 1 ∷ spot (count (take 2 (drop (e - 2) s))) l (e - 1) ∷ []
