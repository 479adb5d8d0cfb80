use Rattle.std.proofs.Common.{length, ap, arith}
use Rattle.listing.proofs.Laying.{line-size, back_none, back_some}
use Rattle.listing.proofs.writer.Frame.line_len.Goals as goal

pub returns-then-self-eq0-clause-exact : goal.returns-then-self-eq0-clause-exact
returns-then-self-eq0-clause-exact c =
    let f = c.args.self.now in
    let e = line-size f.code f.rest.now f.back in
    let b = ap length (back_none f.back c.if-self-eq0.true) in omega arith

pub returns-else-self-eq0-clause-exact : goal.returns-else-self-eq0-clause-exact
returns-else-self-eq0-clause-exact c =
    let f = c.args.self.now in
    let e = line-size f.code f.rest.now f.back in
    let b = ap length (back_some f.back c.if-self-eq0.false) in omega arith
