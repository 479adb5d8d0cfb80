use Rattle.std.proofs.Common.{◌≡◌, ◌*◌, length, take}
use Rattle.hex_text.specs.HexText.{spaced}
use Rattle.hex_text.proofs.spell.spell.Given as goal

abbrev pub invariant-loop-i : goal.invariant-loop-i
invariant-loop-i l = (length l.text ≡ length l.initial.text) × (take (l.i * 3) l.text ≡ spaced (take l.i l.bytes))
