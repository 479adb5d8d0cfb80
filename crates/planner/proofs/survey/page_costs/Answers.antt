use Rattle.std.proofs.Common.{replicate, sym, ap, ◌∙◌}
use Rattle.std.proofs.lemmas.Bool.{cond-true}
use Rattle.least.specs.Fewest.{fewest}
use Rattle.least.specs.Window.{window}
use Rattle.least.specs.Plan.{window_cost}
use Rattle.planner.proofs.Surveys.{kept_off}
use Rattle.planner.proofs.survey.page_costs.Goals as goal

pub returns-then-not-touches-clause-kept : goal.returns-then-not-touches-clause-kept
returns-then-not-touches-clause-kept g c =
    let m = g.P.Part.meaning c.args.part.now in
    sym (kept_off m c.args.q c.requires.1 c.args.write.address c.args.write.bytes.now c.requires.0 (sym c.if-not-touches.ensures))

pub returns-clause-preset : goal.returns-clause-preset
returns-clause-preset g c =
    c.page_cost-2.ensures.value
    ∙ (ap (λ n. window_cost fewest (window 64 (replicate 64 255) n)) c.both_pages.ensures.new ∙ sym (cond-true _ _ _ (sym c.if-not-touches.ensures)))
