use Rattle.std.proofs.Common.{sym}
use Rattle.listing.specs.Scan.{pair_of}
use Rattle.listing.proofs.Digits.{pair_short}
use Rattle.listing.proofs.bytes.read_pair.Goals as goal

pub returns-in_default-clause-value : goal.returns-in_default-clause-value
returns-in_default-clause-value c = sym (pair_short c.args.text.now c.in_default.len_below)

pub returns-in-len2-up-clause-value : goal.returns-in-len2-up-clause-value
unfolding pair_of
returns-in-len2-up-clause-value c = c.byte.ensures
