use Rattle.least.proofs.Answered.{writes_answered}
use Rattle.least.proofs.least_cost.answered.Goals as goal

pub returns : goal.returns
returns c = writes_answered
