-- How many polls a caller may ask for.
use Rattle.std.specs.Prelude.{ℕ, Bool, ◌&&◌, nat_le, nat_lt}

-- a limit of 1 to 4,096 polls
abbrev pub allowed : ℕ → Bool
allowed limit = nat_lt 0 limit && nat_le limit 4096
