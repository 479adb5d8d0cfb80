use Rattle.std.proofs.Common.{max, ap, ◌∙◌}
use Rattle.std.proofs.lemmas.Iterator.Splits.{YieldsList-from_lines}
use Rattle.std.proofs.lemmas.Iterator.Consumers.{count_from_yields_List}
use Rattle.script.proofs.read.last_line.Goals as goal

pub returns-clause-value : goal.returns-clause-value
returns-clause-value c =
    let text = c.args.text.now in
    c.max.ensures ∙ ap (λ m. max m 1) (count_from_yields_List c.lines.result c.count.result c.count.ensures.ran (YieldsList-from_lines text c.lines.ensures.rest))
