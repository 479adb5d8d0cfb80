use Rattle.std.proofs.Common.{◌≡◌, ◌+◌, ◌++◌, length, drop, sym, ap, ◌∙◌, ap₂, arith}
use Rattle.std.proofs.lemmas.Bool.Decides.{nat_tests}
use Rattle.port.specs.Build.{built, headed, carried_by}
use Rattle.port.proofs.Building.{address_most, understood, built_is, length-built}
use Rattle.port.proofs.build.build.Goals as goal

pub lay_out-requires-clause-address : goal.lay_out-requires-clause-address
lay_out-requires-clause-address c = let a = address_most c.args.operation c.of-row.result c.of-row.ensures in omega arith

pub returns-then-not-is_inside-clause-result : goal.returns-then-not-is_inside-clause-result
returns-then-not-is_inside-clause-result c =
    let l = length-built c.args.operation c.of-row.result c.args.address c.args.data.now c.of-row.ensures in
    let n = ap length c.carried-sent.ensures in grind (arith, nat_tests)

pub returns-then-not-is_inside-clause-understood : goal.returns-then-not-is_inside-clause-understood
returns-then-not-is_inside-clause-understood c = understood

pub returns : goal.returns
returns c =
    let i = c.of-row.result in
    let s = c.args.data.now in
    let into = c.args.into.now in
    let f = built c.args.operation c.args.address s in
    let b = built_is c.args.operation i c.args.address s c.of-row.ensures in
    let l = length-built c.args.operation i c.args.address s c.of-row.ensures in
    let t : c.carried-sent.result.now ≡ carried_by i.has_data s = c.carried-sent.ensures in
    let n = ap length t in
    let e : 1 + i.address_bytes + i.dummy_bytes + length c.carried-sent.result.now ≡ 0 + length f = omega arith in
    record {
      result = grind (arith, nat_tests);
      bytes = c.lay_out.ensures ∙ ap₂ (λ x y. x ++ drop y into) (ap (headed i c.args.address) t ∙ sym b) e;
      understood = understood;
    }
