use Rattle.std.proofs.Common.{◌≡◌, ◌+◌, ◌-◌, ◌%◌, ◌++◌, length, take}
use Rattle.memory.specs.Image.{rolled}
use Rattle.memory.proofs.bytes.roll.Given as goal

abbrev pub invariant-loop-byte : goal.invariant-loop-byte
invariant-loop-byte l =
    (l.at ≡ (l.from + l.byte-index) % length l.bytes)
    × (take l.byte-index l.into ++ rolled l.bytes (l.from + l.byte-index) (length l.into - l.byte-index) ≡ rolled l.bytes l.from (length l.into))
