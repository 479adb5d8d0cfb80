use Rattle.std.proofs.Common.{arith}
use Rattle.listing.proofs.Planned.{step-lines}
use Rattle.listing.proofs.plan_text.Listed.len.Goals as goal

pub returns : goal.returns
returns c =
    let k = step-lines c.args.self.now.«data».now c.args.self.now.step.now c.of-row.result c.from.result c.sent.result.now c.args.self.now.listed c.of-row.ensures c.from.ensures c.sent.ensures in record { exact = omega arith; most = omega arith }
