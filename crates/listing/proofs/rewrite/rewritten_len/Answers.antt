use Rattle.std.proofs.Common.{ℕ, ◌+◌, List, sym, subst, arith}
use Rattle.std.proofs.lemmas.Result.{err_from_is_err_and}
use Rattle.listing.proofs.Progress.{Progress, progress_start, progress_more, progress_end, progress_fails, kept-fits, next_some, next_none}
use Rattle.listing.proofs.Single.{unambiguous}
use Rattle.listing.proofs.rewrite.rewritten_len.Goals as goal

pub loop-line-init : goal.loop-line-init
loop-line-init c =
    let t = c.args.text.now in
    let P : ℕ → Type 0 = λ l. Progress t l c.new-reader.result.rest.now 0 in
    let Q : List ℕ → Type 0 = λ s. Progress t 1 s 0 in
    subst P (sym c.new-reader.ensures.line) (subst Q (sym c.new-reader.ensures.rest) (progress_start t))

pub returns-in_err-line : goal.returns-in_err-line
returns-in_err-line c =
    let h = c.in_err-line.ensures in
    let p = err_from_is_err_and c.from_residual.result c.from_residual.ensures.1 in
    rw (p.1, p.2) (record { measured = progress_fails c.in_err-line.field-0.0 h.0 c.loop-line.invariant h.1 h.2; unambiguous = unambiguous })

pub kept_len-needed-requires : goal.kept_len-needed-requires
kept_len-needed-requires c = let k = kept-fits c.loop-line.invariant (next_some c.in-Some.is c.in_ok-line.ensures) in omega arith

pub overflow_add-needed : goal.overflow_add-needed
overflow_add-needed c = let k = kept-fits c.loop-line.invariant (next_some c.in-Some.is c.in_ok-line.ensures) in omega arith

pub loop-line-preserved : goal.loop-line-preserved
loop-line-preserved c =
    let P : ℕ → Type 0 = λ n. Progress c.args.text.now c.next_line.new.self.line c.next_line.new.self.rest.now (c.loop-line.needed + n) in
    subst P (sym c.kept_len-needed.ensures) (progress_more c.loop-line.invariant (next_some c.in-Some.is c.in_ok-line.ensures))

pub returns : goal.returns
returns c =
    let e = next_none c.loop-line.reader.line c.next_line.new.self.line c.next_line.new.self.rest.now c.in_default.is c.in_ok-line.ensures in
    record { measured = progress_end c.loop-line.invariant e; unambiguous = unambiguous }
