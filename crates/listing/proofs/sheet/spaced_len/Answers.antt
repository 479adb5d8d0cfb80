use Rattle.std.proofs.Common.{sym}
use Rattle.listing.proofs.Laying.{spaced-size}
use Rattle.listing.proofs.sheet.spaced_len.Goals as goal

pub returns-clause-exact : goal.returns-clause-exact
returns-clause-exact c = sym (spaced-size c.args.bytes.now)
