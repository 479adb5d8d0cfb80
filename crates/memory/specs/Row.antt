-- How a refusal is told: every error enum of the product has one definition that gives each case its row.
use Rattle.std.specs.Prelude.{ℕ, List}

pub record Row : Type 0 where
  -- who refuses: 1 attach, plan, run and above, 2 a part, 3 a port, 4 a listing
  pub layer : ℕ
  -- the number of the cause, as docs/refusals.md lists them
  pub number : ℕ
  -- what is returned with it
  pub values : List ℕ

abbrev pub rowed : ℕ → ℕ → List ℕ → Row
rowed l n vs = record { layer = l; number = n; values = vs }
