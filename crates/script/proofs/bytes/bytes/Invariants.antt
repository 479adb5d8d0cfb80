use Rattle.std.proofs.Common.{◌≡◌, ◌≤◌, [], drop, vec_items, vec_len}
use Rattle.script.specs.Spelling.{spelled}
use Rattle.script.specs.Words.{texts}
use Rattle.script.proofs.bytes.bytes.Given as goal

-- the words to come go on to spell what all of them spell
abbrev pub invariant-loop-word : goal.invariant-loop-word
invariant-loop-word l = (vec_len l.bytes ≤ 16777216) × (spelled (vec_items l.bytes) (texts (drop l.word-index l.words)) ≡ spelled [] (texts l.words))
