use Rattle.std.proofs.Common.{◌≡◌, ◌+◌, map, length, drop, Some}
use Rattle.memory.specs.Page.{laid, cover}
use Rattle.memory.proofs.page.lay.Given as goal

abbrev pub invariant-loop-i : goal.invariant-loop-i
invariant-loop-i l = (length l.places ≡ 64) × (laid 64 l.places (l.at + l.i) (map Some (drop l.i l.sent)) ≡ cover 64 l.at l.sent)
