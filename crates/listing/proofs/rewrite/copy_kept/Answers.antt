use Rattle.std.proofs.Common.{sym, ◌∙◌, rules}
use Rattle.listing.proofs.Progress.{copying_room, copying_more, copying_over, next_some}
use Rattle.listing.proofs.rewrite.copy_kept.Goals as goal

pub keep-requires : goal.keep-requires
keep-requires c =
    let t = next_some c.in-Ok-Some.field-0-is c.in-Ok-Some.ensures in
    copying_room c.loop-line.invariant.0 t

pub loop-line-preserved : goal.loop-line-preserved
loop-line-preserved c =
    let t = next_some c.in-Ok-Some.field-0-is c.in-Ok-Some.ensures in
    (copying_more c.loop-line.invariant.0 t c.keep.ensures.buffer c.keep.ensures.place, c.keep.ensures.same ∙ c.loop-line.invariant.1)

pub returns-in-loop-line : goal.returns-in-loop-line
returns-in-loop-line c = λ is xs r.
    let n = c.loop-line.invariant.1 ∙ c.new-sheet.ensures.same in
    let b = copying_over c.next_line.new.self.line c.next_line.new.self.rest.now c.next_line.result c.loop-line.invariant.0 c.next_line.ensures (λ _ e. cc) is xs r in search (rules, sym n, b)

pub returns-in-loop-line-2 : goal.returns-in-loop-line-2
returns-in-loop-line-2 c = λ is xs r.
    let n = c.loop-line.invariant.1 ∙ c.new-sheet.ensures.same in
    let b = copying_over c.next_line.new.self.line c.next_line.new.self.rest.now c.next_line.result c.loop-line.invariant.0 c.next_line.ensures (λ _ e. cc) is xs r in search (rules, sym n, b)
