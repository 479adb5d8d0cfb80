use Rattle.std.proofs.Common.{sym, ◌∙◌}
use Rattle.planner.proofs.Surveys.{preset_off_lem}
use Rattle.planner.proofs.survey.rest_cost.Goals as goal

pub returns-clause-value : goal.returns-clause-value
returns-clause-value g c =
    let m = g.P.Part.meaning c.args.part.now in
    c.page_cost.ensures.value
    ∙ preset_off_lem m c.args.q c.requires.1 c.args.write.address c.args.write.bytes.now c.requires.0 c.read_page-page.result c.read_page-page.ensures.bytes (sym c.if-touches.ensures)
