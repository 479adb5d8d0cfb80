-- What the reader, the writer and the rewriting promise.
use Rattle.std.specs.Prelude.{◌≡◌, ℕ, ◌+◌, ◌<◌, ◌≤◌, ◌⊎◌, List, [], ◌∷◌, ◌++◌, length, drop, Some, None, Ok, Err, Option, Result}
use Rattle.listing.specs.declared.fault.ListingFault.{ListingFault}
use Rattle.listing.specs.declared.item.Line.{Line}
use Rattle.listing.specs.Fault.{row, malformed_at, short_of}
use Rattle.listing.specs.Parts.{Spot, spots_of, Exchange}
use Rattle.listing.specs.Grammar.{LineText, Stops, Reads, ended, failed}
use Rattle.listing.specs.Writing.{listing, Noteless}

-- the line l at the start of `was` gives the items of `r`, and `left` is what follows it, from line m on
pub record Taken (l m : ℕ) (was left : List ℕ) (r : Line) : Type 0 where
  pub text : List ℕ
  pub exchanges : List Exchange
  pub reads : LineText l text (spots_of r) exchanges
  pub split : was ≡ text ++ 10 ∷ left
  pub next : m ≡ l + 1

-- the reader stays where it was
abbrev pub Stays : ℕ → ℕ → List ℕ → List ℕ → Type 0
Stays l m was left = (m ≡ l) × (left ≡ was)

-- a call of the reader at line l with `was` left, which leaves line m and `left`
abbrev pub Next : ℕ → ℕ → List ℕ → List ℕ → Result (Option Line) ListingFault → Type 0
Next l m was left (Ok None) = (was ≡ []) × Stays l m was left
Next l m was left (Ok (Some r)) = Taken l m was left r
Next l m was left (Err f) = ((c : ℕ) × Stops was c × (row f ≡ malformed_at l c) × Stays l m was left)

-- the text cannot be read to its end, and the refusal is the place where it fails
abbrev pub Refuses : List ℕ → ListingFault → Type 0
Refuses t f = ((l : ℕ) × (c : ℕ) × (is : List Spot) × (xs : List Exchange) × Reads 1 t is xs (failed l c) × (row f ≡ malformed_at l c))

-- the text reads to its end as these exchanges, the lines of which are n bytes long
pub record Measured (t : List ℕ) (n : ℕ) : Type 0 where
  pub items : List Spot
  pub exchanges : List Exchange
  pub reads : Reads 1 t items exchanges ended
  pub size : n ≡ length (listing exchanges)

-- the lines of a text that reads to its end fit a buffer of n bytes
abbrev pub HasRoom : List ℕ → ℕ → Type 0
HasRoom t n = ((m : ℕ) × Measured t m × (m ≤ n))

-- they are written over the start of the buffer
abbrev pub Copied : List ℕ → List ℕ → List ℕ → Type 0
Copied t was left = ((is : List Spot) (xs : List Exchange) → Reads 1 t is xs ended → left ≡ listing xs ++ drop (length (listing xs)) was)

-- a text that was read is written again into a buffer that held `was` and then holds `left`
pub record Rewritten (t was left : List ℕ) (n : ℕ) : Type 0 where
  pub items : List Spot
  pub exchanges : List Exchange
  pub reads : Reads 1 t items exchanges ended
  pub size : n ≡ length (listing exchanges)
  pub buffer : left ≡ listing exchanges ++ drop n was
  -- without notes it is the same text
  pub same : Noteless items → listing exchanges ≡ t
  -- and what was written reads as the same exchanges
  pub items-again : List Spot
  pub again : Reads 1 (listing exchanges) items-again exchanges ended

-- a text that was read and whose lines do not fit the buffer
pub record Unfit (t was : List ℕ) (f : ListingFault) : Type 0 where
  pub needed : ℕ
  pub measured : Measured t needed
  pub short : length was < needed
  pub refusal : row f ≡ short_of needed

-- a call that writes a text again; refused, it leaves the buffer as it was
abbrev pub Rewrites : List ℕ → List ℕ → List ℕ → Result ℕ ListingFault → Type 0
Rewrites t was left (Ok n) = Rewritten t was left n
Rewrites t was left (Err f) = (Refuses t f ⊎ Unfit t was f) × (left ≡ was)
