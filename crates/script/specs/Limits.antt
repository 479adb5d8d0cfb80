-- How much a script may ask for.
use Rattle.std.specs.Prelude.{ℕ, Bool, length, nat_le}
use Rattle.calls.specs.declared.call.Call.{Call}
use Rattle.calls.specs.Requests.{buffer}

-- how many bytes a call has
abbrev pub bytes_of : Call → ℕ
bytes_of call = length (buffer call)

-- they are no more than the largest chip has
abbrev pub is_short : Call → Bool
is_short call = nat_le (bytes_of call) 16777216
