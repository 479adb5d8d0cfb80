use Rattle.std.proofs.Common.{◌≡◌, length}
use Rattle.listing.proofs.Progress.{Copying}
use Rattle.listing.proofs.rewrite.copy_kept.Given as goal

abbrev pub invariant-loop-line : goal.invariant-loop-line
invariant-loop-line l =
    Copying l.text l.fn.into l.sheet.into.now l.reader.line l.reader.rest.now l.sheet.at
    × (l.sheet.into.ghost_name ≡ l.initial.sheet.into.ghost_name)

abbrev pub decreases-loop-line : goal.decreases-loop-line
decreases-loop-line l = length l.reader.rest.now
