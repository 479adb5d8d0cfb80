use Rattle.listing.specs.Parts.{part_of, count_of}
use Rattle.listing.specs.Writing.{kept_count}
use Rattle.listing.proofs.Keeping.{kept_other, frame-kept}
use Rattle.listing.proofs.Sheets.{room_next, wrote_join, wrote_none}
use Rattle.listing.proofs.rewrite.keep.Goals as goal

pub keep_count-requires : goal.keep_count-requires
keep_count-requires c =
    let is = count_of c.args.line.count in
    room_next (kept_count is) (frame-kept (part_of c.args.line.first.item) c.kept.result c.in-Some.pairs is c.in-Some.is c.kept.ensures) c.requires c.put.ensures

pub returns-in-Some : goal.returns-in-Some
returns-in-Some c =
    let is = count_of c.args.line.count in
    wrote_join (frame-kept (part_of c.args.line.first.item) c.kept.result c.in-Some.pairs is c.in-Some.is c.kept.ensures) c.requires c.put.ensures c.keep_count.ensures

pub returns-in_default : goal.returns-in_default
returns-in_default c =
    wrote_none c.args.sheet.now (kept_other (part_of c.args.line.first.item) c.kept.result (count_of c.args.line.count) c.in_default.is c.kept.ensures)
