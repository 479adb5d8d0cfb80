use Rattle.std.proofs.Common.{◌<◌, length, refl, arith}
use Rattle.std.proofs.lemmas.Bool.Decides.{nat_tests}
use Rattle.std.proofs.lemmas.Result.{err_from_is_err_and}
use Rattle.listing.proofs.Lined.{line_found, line_refused, found_within, taken}
use Rattle.listing.proofs.reader.Reader.next_line.Goals as goal

pub returns-in_err-extent : goal.returns-in_err-extent
returns-in_err-extent c =
    let some : 0 < length c.args.self.now.rest.now = grind (arith, nat_tests) in
    let h = line_refused some c.in_err-extent.ensures in
    let p = err_from_is_err_and c.from_residual.result c.from_residual.ensures.1 in
    rw (p.1, p.2) (h.0, h.1, h.2, (refl, refl))

pub items-line-requires : goal.items-line-requires
items-line-requires c = let some : 0 < length c.args.self.now.rest.now = grind (arith, nat_tests) in (line_found some c.in_ok-extent.ensures).sized

pub overflow_add-self : goal.overflow_add-self
overflow_add-self c =
    let some : 0 < length c.args.self.now.rest.now = grind (arith, nat_tests) in
    let w = found_within (line_found some c.in_ok-extent.ensures) in omega arith

pub slice_bounds-self-count : goal.slice_bounds-self-count
slice_bounds-self-count c =
    let some : 0 < length c.args.self.now.rest.now = grind (arith, nat_tests) in
    let w = found_within (line_found some c.in_ok-extent.ensures) in omega arith

pub slice_bounds-self-start : goal.slice_bounds-self-start
slice_bounds-self-start c =
    let some : 0 < length c.args.self.now.rest.now = grind (arith, nat_tests) in
    let w = found_within (line_found some c.in_ok-extent.ensures) in omega arith

pub returns : goal.returns
returns c =
    let some : 0 < length c.args.self.now.rest.now = grind (arith, nat_tests) in
    taken c.args.self.now.line c.len.result c.args.self.now.rest.now c.in_ok-extent.extent c.items-line.result (line_found some c.in_ok-extent.ensures) c.items-line.ensures c.len.ensures
