use Rattle.std.proofs.Common.{rules, arith, ◌≡◌, ℕ, ◌+◌, max, [], ◌∷◌, length, is_ok, None, Err, sym, ap, ◌∙◌, ⊎_elim, eq-zero-or-pos}
use Rattle.std.specs.Str.Iter.{lines_rest}
use Rattle.std.specs.Str.Lines.{lines}
use Rattle.std.proofs.lemmas.Iterator.Splits.{YieldsList-from_lines}
use Rattle.std.proofs.lemmas.Result.{err_from_is_err_and}
use Rattle.script.specs.Lines.{line_ends}
use Rattle.script.specs.Meaning.{lines_said}
use Rattle.script.specs.Views.{progress, said_by}
use Rattle.script.proofs.LineEnds.{ends_after, ends_few}
use Rattle.script.proofs.LinesToCome.{next_line, no_line, none_there, ok_said, line_read, told, finished, reads_err, reads_same}
use Rattle.script.proofs.read.read_lines.Goals as goal

pub loop-number-init : goal.loop-number-init
loop-number-init c =
    let text = c.args.text.now in
    let it = c.into_iter-number-iterator in
    let rest : lines_rest it.result.b ≡ text = ap (λ z. lines_rest z.b) it.ensures.into_iter_gives ∙ ap lines_rest c.zip-number-items.ensures.second ∙ c.lines.ensures.rest in
    let start : it.result.a.start ≡ 1 = ap (λ z. z.a.start) it.ensures.into_iter_gives ∙ ap (λ r. r.start) c.zip-number-items.ensures.first in
    let ends : line_ends (lines_rest it.result.b) ≡ line_ends text = ap line_ends rest in
    let last : ℕ = max (length (lines text)) 1 in (
      omega (arith, start),
      λ some. omega (arith, start, ends),
      (lines text, YieldsList-from_lines text rest, ap (λ s. lines_said last s it.result.a.start (lines text)) c.new-reading.ensures ∙ ap (λ n. lines_said last None n (lines text)) start),
    )

pub loop-number-preserved : goal.loop-number-preserved
loop-number-preserved c =
    let n = c.in-Some.ensures.steps.0 in
    let l = c.in-Some.ensures.steps.1 in
    let i = c.loop-number.invariant in
    let s = progress c.loop-number.reading in
    let t = progress c.take_line.new.reading in
    let start = c.loop-number.number-iterator.a.start in
    let k = next_line c.in-Some.line i.2.0 i.2.1 l in
    let last : ℕ = max (length (lines c.args.text.now)) 1 in
    let said = ok_said t c.take_line.result _ c.take_line.ensures (sym c.map_err.ensures.variant ∙ ap (λ r. is_ok r) c.in_ok-map_err.was) in
    let number : c.next.new.self.a.start ≡ start + 1 = n.1 ∙ ap (λ m. m + 1) n.0 in (
      search rules,
      λ some. let e = ends_after _ _ _ l.0.2 some in let b = i.1 l.0.0 in omega (arith, e, b, n.0, n.1),
      (
        k.0,
        k.2,
        ap (λ m. lines_said last t m k.0) number ∙ sym (line_read last start s t c.in-Some.line.now k.0 said) ∙ ap (λ v. lines_said last s start v) (sym k.1) ∙ i.2.2,
      ),
    )

pub returns-in_err-map_err-clause-script : goal.returns-in_err-map_err-clause-script
returns-in_err-map_err-clause-script c =
    let p = err_from_is_err_and c.from_residual.result c.from_residual.ensures.1 in
    let n = c.in-Some.ensures.steps.0 in
    let i = c.loop-number.invariant in
    let s = progress c.loop-number.reading in
    let line = c.in-Some.line.now in
    let k = next_line {t = c.next.new.self.b} c.in-Some.line i.2.0 i.2.1 c.in-Some.ensures.steps.1 in
    let last : ℕ = max (length (lines c.args.text.now)) 1 in
    reads_err said_by c.from_residual.result p.0 _ p.1
    (λ h. sym i.2.2 ∙ ap (λ v. lines_said last s c.loop-number.number-iterator.a.start v) k.1 ∙ ap (λ m. lines_said last s m (line ∷ k.0)) (sym n.0)
    ∙ told last c.in-Some.number s (progress c.take_line.new.reading) line k.0 c.take_line.result c.map_err.result _ c.take_line.ensures c.map_err.ensures.cases (λ fault e q. search rules)
    c.in_err-map_err.field-0.0 c.in_err-map_err.was (λ z. h (ap (λ w. w.fault) p.2 ∙ z))
    ∙ ap Err (sym p.2))

pub returns-clause-script : goal.returns-clause-script
returns-clause-script c =
    let i = c.loop-number.invariant in
    let text = c.args.text.now in
    let s = progress c.loop-number.reading in
    let start = c.loop-number.number-iterator.a.start in
    let last : ℕ = max (length (lines text)) 1 in
    let none : i.2.0 ≡ [] = ⊎_elim (λ a. none_there i.2.0 i.2.1 (⊎_elim (λ z. z) (λ some. absurd (omega (arith, i.1 some, ends_few text, a.1.0, c.requires))) (eq-zero-or-pos (length (lines_rest c.loop-number.number-iterator.b))))) (λ b. no_line i.2.0 i.2.1 b.1) c.in-None.ensures.steps in
    reads_same said_by c.map_err-2.result _ _
    (finished last start s said_by c.finish.result c.map_err-2.result _ c.finish.ensures c.map_err-2.ensures.cases (λ fault e q. search rules))
    (sym i.2.2 ∙ ap (λ v. lines_said last s start v) none)
