use Rattle.std.proofs.Common.{◌≡◌, ◌++◌, take, drop}
use Rattle.memory.specs.Page.{merged}
use Rattle.memory.specs.Image.{rule}
use Rattle.memory.proofs.page.merge.Given as goal

abbrev pub invariant-loop-i : goal.invariant-loop-i
invariant-loop-i l = take l.i l.bytes ++ merged (rule l.kind) (drop l.i l.bytes) (drop l.i l.sent) ≡ merged (rule l.kind) l.initial.bytes l.sent
