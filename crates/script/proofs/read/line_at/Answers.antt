use Rattle.std.proofs.Common.{rules, tests, ap, ◌+◌, ◌∙◌, take, nat_eq}
use Rattle.std.proofs.lemmas.Iterator.{YieldsList-from_slice, YieldsList-from_take}
use Rattle.std.proofs.lemmas.Iterator.Consumers.{YieldsList-from_filter, YieldsList-at, count_from_yields_List}
use Rattle.std.proofs.lemmas.List.Sums.{length-filter}
use Rattle.script.proofs.read.line_at.Goals as goal

-- as many as pass the filter are counted
pub returns : goal.returns
returns c =
    let t = c.args.text.now in
    ap (λ n. 1 + n)
    (count_from_yields_List _ _ c.count.ensures.ran
    (YieldsList-from_filter _ (λ b. nat_eq b 10)
    (YieldsList-at c.filter.ensures.source (YieldsList-from_take c.args.at (YieldsList-at c.take.ensures.source (YieldsList-from_slice t c.iter.ensures.rest)) c.take.ensures.count))
    c.filter.ensures.closure (λ x r q k. search (rules, tests)))
    ∙ length-filter (λ b. nat_eq b 10) (take c.args.at t))
