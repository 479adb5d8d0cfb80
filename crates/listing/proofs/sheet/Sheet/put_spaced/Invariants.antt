use Rattle.std.proofs.Common.{take}
use Rattle.listing.specs.Sheets.{Wrote}
use Rattle.listing.specs.Writing.{spaced_text}
use Rattle.listing.proofs.sheet.Sheet.put_spaced.Given as goal

abbrev pub invariant-loop-byte : goal.invariant-loop-byte
invariant-loop-byte l = Wrote l.initial.self l.self (spaced_text (take l.byte-index l.bytes))
