-- Which sectors the status byte protects.
use Rattle.std.specs.Prelude.{ℕ, zero, suc, ◌-◌, ◌/◌, ◌%◌, ◌^◌, min, Bool, true, cond, not, ◌&&◌, ◌==◌, bit_and, nat_le, nat_lt}

-- bits 4 to 2, BP2 to BP0, as a number
abbrev pub block_protect : ℕ → ℕ
block_protect status = bit_and (status / 4) 7

-- how many of the sectors: all if BP3 (bit 6) is set, else none for 0, else 2 to the power n - 1, at most all
abbrev pub protected_count : ℕ → ℕ → ℕ
protected_count status sectors =
    cond (bit_and status 64 == 0)
    (cond (block_protect status == 0) 0 (min sectors (2 ^ (block_protect status - 1)))) sectors

-- they count from the top sector if TB (bit 5) is 0, else from sector 0
abbrev pub protects : ℕ → ℕ → ℕ → Bool
protects status sectors sector =
    cond (bit_and status 32 == 0)
    (nat_le (sectors - protected_count status sectors) sector && nat_lt sector sectors) (nat_lt sector (protected_count status sectors))

-- no sector below n is protected
abbrev pub free : (ℕ → Bool) → ℕ → Bool
free prot zero = true
free prot (suc n) = not (prot n) && free prot n

-- a status byte at rest: bit 7 (SRWD) is 1, and bits 1 and 0 are 0
abbrev pub at_rest : ℕ → Bool
at_rest status = nat_le 128 status && status % 4 == 0
