-- The line that is shown for a call and what came of it.
use Rattle.std.specs.Prelude.{ℕ, List, [], ◌∷◌, ◌++◌, Some, None, Option, vec_items, codes, decimal}
use Rattle.hex_text.specs.HexText.{spaced}
use Rattle.memory.specs.Reports.{shown_row}
use Rattle.writing.specs.declared.fault.WriteFault.TheVariants as writes
use Rattle.writing.specs.WriteRows as of_write
use Rattle.calls.specs.declared.call.Call.{Call}
use Rattle.calls.specs.declared.call.Call.TheVariants.{Close, Open, Read, Write}
use Rattle.calls.specs.declared.call.Answer.{Answer}
use Rattle.calls.specs.declared.call.Answer.TheVariants.{Done, Written, Refused, Abandoned}
use Rattle.calls.specs.declared.call.Entry.{Entry}
use Rattle.calls.specs.Refusals.{row}

abbrev pub call_text : Call → List ℕ
call_text (Close sector) = codes "close " ++ decimal sector
call_text (Open sector) = codes "open " ++ decimal sector
call_text (Read address into) = codes "read " ++ decimal address
call_text (Write address bytes limit) = codes "write " ++ decimal address

-- a refusal is its row, and so is an abandoned write
abbrev pub answer_text : Answer → List ℕ
answer_text Done = codes "done"
answer_text (Written cost) = codes "done " ++ (decimal cost.0 ++ (32 ∷ decimal cost.1))
answer_text (Refused refusal) = codes "refused " ++ shown_row (row refusal)
answer_text (Abandoned cycles) = codes "abandoned " ++ shown_row (of_write.row (writes.Abandoned cycles))

abbrev pub outcome_text : Option Answer → List ℕ
outcome_text None = codes "not made"
outcome_text (Some answer) = answer_text answer

-- only a done read shows bytes
abbrev pub read_text : Call → Option Answer → List ℕ
read_text (Close sector) answer = []
read_text (Open sector) answer = []
read_text (Read address into) None = []
read_text (Read address into) (Some Done) = spaced (vec_items into)
read_text (Read address into) (Some (Written cost)) = []
read_text (Read address into) (Some (Refused refusal)) = []
read_text (Read address into) (Some (Abandoned cycles)) = []
read_text (Write address bytes limit) answer = []

abbrev pub line_text : Entry → List ℕ
line_text e = call_text e.call ++ (codes ": " ++ (outcome_text e.answer ++ (read_text e.call e.answer ++ (10 ∷ []))))
