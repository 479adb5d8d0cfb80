use Rattle.listing.proofs.Spelling.{spelled}
use Rattle.listing.proofs.pairs.read_pairs.Goals as goal

pub returns-in_err-count-clause-spelled : goal.returns-in_err-count-clause-spelled
returns-in_err-count-clause-spelled c = spelled c.args.pairs.now

pub returns-in_err-check_room-clause-spelled : goal.returns-in_err-check_room-clause-spelled
returns-in_err-check_room-clause-spelled c = spelled c.args.pairs.now

pub returns-clause-spelled : goal.returns-clause-spelled
returns-clause-spelled c = spelled c.args.pairs.now
