use Rattle.std.proofs.Common.{◌∙◌, ap, arith}
use Rattle.script.proofs.LineEnds.{of_line_in}
use Rattle.script.proofs.read.read_script.Goals as goal

pub returns-then-text-gt-MOST_TEXT-clause-line : goal.returns-then-text-gt-MOST_TEXT-clause-line
returns-then-text-gt-MOST_TEXT-clause-line c =
    let l = ap (λ e. e.line) c.on.ensures ∙ c.line_at.ensures in
    let h = of_line_in 1048576 c.args.text.now in
    (omega (arith, l), omega (arith, l, h))
