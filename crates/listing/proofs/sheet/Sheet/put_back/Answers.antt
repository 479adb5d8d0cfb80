use Rattle.std.proofs.Common.{arith}
use Rattle.listing.specs.Writing.{pair_text}
use Rattle.listing.proofs.Laying.{back_none, back_some}
use Rattle.listing.proofs.Sheets.{room_next, wrote_join, wrote_none}
use Rattle.listing.proofs.sheet.Sheet.put_back.Goals as goal

pub put_pair-requires : goal.put_pair-requires
put_pair-requires c = room_next (pair_text c.args.back) (back_some c.args.back (λ e. omega arith)) c.requires c.put.ensures

pub returns-then-back-gt0 : goal.returns-then-back-gt0
returns-then-back-gt0 c = wrote_join (back_some c.args.back (λ e. omega arith)) c.requires c.put.ensures c.put_pair.ensures

pub returns-else-back-gt0 : goal.returns-else-back-gt0
returns-else-back-gt0 c = wrote_none c.args.self.now (back_none c.args.back (omega arith))
