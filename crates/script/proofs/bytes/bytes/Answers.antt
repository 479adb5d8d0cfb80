use Rattle.std.proofs.Common.{◌≡◌, ◌+◌, [], Err, drop, refl, sym, ap, ◌∙◌, rules, arith, vec_items, vec_len}
use Rattle.std.proofs.lemmas.Result.{err_from_is_err_and}
use Rattle.script.specs.Spelling.{spelled}
use Rattle.script.specs.Words.{texts}
use Rattle.script.proofs.Steps.{gives_err}
use Rattle.script.proofs.Spelled.{nothing, texts-drop, none_left, word_wrong, word_far, word_read, lengthened}
use Rattle.script.proofs.bytes.bytes.Goals as goal

pub returns-in_err-count-clause-spelled : goal.returns-in_err-count-clause-spelled
returns-in_err-count-clause-spelled c =
    let p = err_from_is_err_and c.from_residual.result c.from_residual.ensures.1 in
    let at = texts-drop c.args.words.now c.loop-word.word-index nothing c.loop-word-test.true in
    let e : spelled [] (texts c.args.words.now) ≡ Err c.in_err-count.field-0.0 =
    sym c.loop-word.invariant.1 ∙ ap (spelled (vec_items c.loop-word.bytes)) at ∙ word_wrong _ _ _ _ c.in_err-count.ensures.value in
    gives_err vec_items c.from_residual.result p.0 _ p.1 (λ h. e ∙ ap Err (sym p.2))

pub returns-then-count-len-clause-spelled : goal.returns-then-count-len-clause-spelled
returns-then-count-len-clause-spelled c =
    let at = texts-drop c.args.words.now c.loop-word.word-index nothing c.loop-word-test.true in
    λ h. sym c.loop-word.invariant.1 ∙ ap (spelled (vec_items c.loop-word.bytes)) at ∙ word_far _ _ _ c.in_ok-count.field-0 c.in_ok-count.ensures.value (omega (arith, c.loop-word.bytes.ok.0))

pub returns-clause-spelled : goal.returns-clause-spelled
returns-clause-spelled c = sym c.loop-word.invariant.1 ∙ none_left _ _ _ c.loop-word-test.false

pub loop-word-preserved : goal.loop-word-preserved
loop-word-preserved c =
    let count = c.in_ok-count in
    let old = vec_items c.loop-word.bytes in
    let at = texts-drop c.args.words.now c.loop-word.word-index nothing c.loop-word-test.true in
    let longer = lengthened old (vec_items c.resize.new.self) (c.len-in-loop-word.result + count.field-0.count) (vec_len c.loop-word.bytes) count.field-0.count count.field-0.value count.field-0.value c.in_ok-resize.ensures.items (omega (arith, c.loop-word.bytes.ok.0)) (omega (arith, c.loop-word.bytes.ok.0)) refl in (
      search rules,
      ap (λ z. spelled z (texts (drop (c.loop-word.word-index + 1) c.args.words.now))) longer
          ∙ sym (word_read old _ _ count.field-0 count.ensures.value (omega (arith, c.loop-word.bytes.ok.0, c.loop-word.invariant.0)))
          ∙ sym (ap (spelled old) at) ∙ c.loop-word.invariant.1,
    )
