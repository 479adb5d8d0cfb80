use Rattle.std.proofs.Common.{length}
use Rattle.listing.proofs.Progress.{Progress}
use Rattle.listing.proofs.rewrite.rewritten_len.Given as goal

abbrev pub invariant-loop-line : goal.invariant-loop-line
invariant-loop-line l = Progress l.text l.reader.line l.reader.rest.now l.needed

abbrev pub decreases-loop-line : goal.decreases-loop-line
decreases-loop-line l = length l.reader.rest.now
