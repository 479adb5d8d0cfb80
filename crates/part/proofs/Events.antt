-- What one list of events did, and another after it.
use Rattle.std.proofs.Common.{◌≡◌, ◌+◌, List, [], ◌∷◌, ◌++◌, refl, ap, arith}
use Rattle.part.specs.Meaning.{Event, asked, carried, polled, cycles, polls}

pub cycles-++ : (l m : List Event) → cycles (l ++ m) ≡ cycles l ++ cycles m
cycles-++ [] m = refl
cycles-++ (asked n ∷ l) m = cycles-++ l m
cycles-++ (carried y ∷ l) m = ap (λ x. y ∷ x) (cycles-++ l m)
cycles-++ (polled ∷ l) m = cycles-++ l m

pub polls-++ : (l m : List Event) → polls (l ++ m) ≡ polls l + polls m
polls-++ [] m = omega arith
polls-++ (asked n ∷ l) m = polls-++ l m
polls-++ (carried y ∷ l) m = polls-++ l m
polls-++ (polled ∷ l) m = let e = polls-++ l m in omega arith
