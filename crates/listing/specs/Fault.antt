-- The rows of the refusals of a listing.
use Rattle.std.specs.Prelude.{◌≡◌, ℕ, ◌^◌, ◌≤◌, [], ◌∷◌, Some, None, Option}
use Rattle.memory.specs.Row.{Row, rowed}
use Rattle.memory.specs.Reports.{reported}
use Rattle.memory.specs.declared.report.Report.{Report}
use Rattle.listing.specs.declared.fault.ListingFault.{ListingFault}
use Rattle.listing.specs.declared.fault.ListingFault.TheVariants.{Malformed, TextShort}

-- the place where a line cannot go on
abbrev pub malformed_at : ℕ → ℕ → Row
malformed_at l c = rowed 4 12 (l ∷ c ∷ [])

-- the length that a buffer lacks
abbrev pub short_of : ℕ → Row
short_of n = rowed 4 14 (n ∷ [])

abbrev pub row : ListingFault → Row
row (Malformed l c) = malformed_at l c
row (TextShort n) = short_of n

-- a row as it is reported: there is no report of a length that a report's values do not hold
abbrev pub Told : Row → Option Report → Type 0
Told r (Some report) = reported report ≡ r
Told r None = ((n : ℕ) × (r ≡ short_of n) × (2 ^ 64 ≤ n))
