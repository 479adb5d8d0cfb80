use Rattle.std.proofs.Common.{le_of_eq}
use Rattle.planner.proofs.Calls.{bulk_asks, bulk_is, marks_ask, sectors_are}
use Rattle.planner.proofs.Lookings.{looked_most}
use Rattle.planner.proofs.Sendings.{sent_as}
use Rattle.planner.proofs.emit.put_choice.Goals as goal

pub returns-in-All-clause-looked : goal.returns-in-All-clause-looked
returns-in-All-clause-looked g c =
    looked_most g.P.Part _ _ _ _ c.put_bulk.ensures.looked
    (le_of_eq
    (bulk_asks (g.P.Part.meaning c.args.part.now) c.requires.fitting.sound c.args.write.address c.args.write.bytes.now c.args.choice.now c.requires.chosen c.in-All.is))

pub returns-in-Sectors-clause-looked : goal.returns-in-Sectors-clause-looked
returns-in-Sectors-clause-looked g c =
    looked_most g.P.Part _ _ _ _ c.put_sectors.ensures.looked
    (le_of_eq
    (marks_ask (g.P.Part.meaning c.args.part.now) c.requires.fitting.sound c.args.write.address c.args.write.bytes.now c.args.choice.now c.requires.chosen c.in-Sectors.marks c.in-Sectors.is))

pub returns-in-All-clause-sent : goal.returns-in-All-clause-sent
returns-in-All-clause-sent g c =
    sent_as _ _ _ _
    (bulk_is (g.P.Part.meaning c.args.part.now) c.requires.fitting.sound c.args.write.address c.args.write.bytes.now c.args.choice.now c.requires.chosen c.in-All.is)
    c.put_bulk.ensures.sent

pub returns-in-Sectors-clause-sent : goal.returns-in-Sectors-clause-sent
returns-in-Sectors-clause-sent g c =
    sent_as _ _ _ _
    (sectors_are (g.P.Part.meaning c.args.part.now) c.requires.fitting.sound c.args.write.address c.args.write.bytes.now c.args.choice.now c.requires.chosen c.in-Sectors.marks c.in-Sectors.is)
    c.put_sectors.ensures.sent
