-- A linear congruential sequence, and the numbers that are picked by it.
use Rattle.std.specs.Prelude.{ℕ, ◌+◌, ◌*◌, ◌/◌, ◌%◌, ◌^◌, max}

-- the number that follows in the sequence; of a larger one than the modulus only the rest counts
abbrev pub next : ℕ → ℕ
next last = (last % 2 ^ 31 * 1103515245 + 12345) % 2 ^ 31

-- the number below n that a number of the sequence picks, by all but its lowest ten bits; 0 where none is below n
abbrev pub picked : ℕ → ℕ → ℕ
picked last n = last / 1024 % max n 1
