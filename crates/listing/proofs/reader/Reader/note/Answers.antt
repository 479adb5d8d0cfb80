use Rattle.std.proofs.Common.{length, Err, sym, ap, ◌∙◌}
use Rattle.std.proofs.lemmas.Result.{err_from_is_err_and}
use Rattle.listing.specs.Scan.{refused}
use Rattle.listing.proofs.Drops.{lacked, had}
use Rattle.listing.proofs.Turns.{noted, inside_position}
use Rattle.listing.proofs.reader.Reader.note.Goals as goal

pub returns-in_err-end : goal.returns-in_err-end
returns-in_err-end c =
    let t = c.args.self.now.rest.now in
    let p = err_from_is_err_and c.from_residual.result c.from_residual.ensures.1 in
    let n = lacked c.line_end.result c.stuck.result c.in_err-end.field-0.0 c.in_err-end.ensures.value in
    rw (p.1, p.2) (ap Err (n.1 ∙ c.stuck.ensures) ∙ sym (ap (refused c.args.self.now.line) (inside_position t c.line_end.result c.line_end.ensures ∙ ap (noted (length t)) n.0)))

pub returns : goal.returns
returns c =
    let t = c.args.self.now.rest.now in
    let n = had c.line_end.result c.stuck.result c.in_ok-end.end c.in_ok-end.ensures.value in
    sym (ap (refused c.args.self.now.line) (inside_position t c.line_end.result c.line_end.ensures ∙ ap (noted (length t)) n))
