-- The rows of refusals and of answers, and how a call's result becomes its answer.
use Rattle.std.specs.Prelude.{ℕ, cond, ◌==◌, Some, None, Option, Ok, Err, Result}
use Rattle.memory.specs.Row.{Row}
use Rattle.memory.specs.Reports.{reported}
use Rattle.memory.specs.declared.report.Report.{Report}
use Rattle.part.specs.declared.fault.PartFault.{PartFault}
use Rattle.part.specs.Rows as of_part
use Rattle.writing.specs.declared.fault.WriteFault.{WriteFault}
use Rattle.writing.specs.declared.fault.WriteFault.TheVariants as writes
use Rattle.writing.specs.WriteRows as of_write
use Rattle.calls.specs.declared.call.Refusal.{Refusal}
use Rattle.calls.specs.declared.call.Refusal.TheVariants.{Part, Write}
use Rattle.calls.specs.declared.call.Answer.{Answer}
use Rattle.calls.specs.declared.call.Answer.TheVariants.{Done, Written, Refused, Abandoned}
use Rattle.calls.specs.Requests.{Outcome, done, refused, abandoned}

abbrev pub row : Refusal → Row
row (Part fault) = of_part.row fault
row (Write fault) = of_write.row fault

-- the row of an answer; a done call has none
abbrev pub answer_row : Answer → Option Row
answer_row Done = None
answer_row (Written cost) = None
answer_row (Refused refusal) = Some (row refusal)
answer_row (Abandoned cycles) = Some (of_write.row (writes.Abandoned cycles))

-- the row of a report, if there is one
abbrev pub told : Option Report → Option Row
told None = None
told (Some report) = Some (reported report)

-- what came of a call by the row of its answer: done where there is none, abandoned by number 8, refused by any other
abbrev pub came_of : Option Row → Outcome
came_of None = done
came_of (Some r) = cond (r.number == 8) abandoned refused

-- of a close, an open or a read
abbrev pub part_answer : Result (Unit {0}) PartFault → Answer
part_answer (Ok u) = Done
part_answer (Err fault) = Refused (Part fault)

abbrev pub write_answer : Result (ℕ × ℕ) WriteFault → Answer
write_answer (Ok cost) = Written cost
write_answer (Err (writes.Limit limit)) = Refused (Write (writes.Limit limit))
write_answer (Err (writes.Outside address)) = Refused (Write (writes.Outside address))
write_answer (Err (writes.StillBusy polls)) = Refused (Write (writes.StillBusy polls))
write_answer (Err (writes.Protected address)) = Refused (Write (writes.Protected address))
write_answer (Err (writes.StepsShort cost)) = Refused (Write (writes.StepsShort cost))
write_answer (Err (writes.DataShort cost)) = Refused (Write (writes.DataShort cost))
write_answer (Err (writes.Abandoned cycles)) = Abandoned cycles
