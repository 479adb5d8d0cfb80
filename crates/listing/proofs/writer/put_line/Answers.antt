use Rattle.listing.proofs.Sheets.{code_room, rest_room, back_room, end_room, line_wrote}
use Rattle.listing.proofs.writer.put_line.Goals as goal

pub put_pair-requires : goal.put_pair-requires
put_pair-requires c = let f = c.args.frame in code_room c.args.sheet.now f.code f.back f.rest.now c.requires

pub put_spaced-requires : goal.put_spaced-requires
put_spaced-requires c = let f = c.args.frame in rest_room c.args.sheet.now f.code f.back f.rest.now c.requires c.put_pair.ensures

pub put_back-requires : goal.put_back-requires
put_back-requires c = let f = c.args.frame in back_room c.args.sheet.now f.code f.back f.rest.now c.requires c.put_pair.ensures c.put_spaced.ensures

pub put-requires : goal.put-requires
put-requires c = let f = c.args.frame in end_room c.args.sheet.now f.code f.back f.rest.now c.requires c.put_pair.ensures c.put_spaced.ensures c.put_back.ensures

pub returns : goal.returns
returns c = let f = c.args.frame in line_wrote c.args.sheet.now f.code f.back f.rest.now c.requires c.put_pair.ensures c.put_spaced.ensures c.put_back.ensures c.put.ensures
