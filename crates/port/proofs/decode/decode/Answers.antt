use Rattle.std.proofs.Common.{◌-◌, ◌≤◌, length, get_or, drop, sym, ◌∙◌, ap₂, arith, length-drop, rules}
use Rattle.std.proofs.lemmas.List.{take_rest}
use Rattle.port.specs.Instructions.{table, lookup}
use Rattle.port.specs.Asks.{shaped_by}
use Rattle.port.proofs.Frames.{ordered_is, address_long, data_long}
use Rattle.port.proofs.decode.decode.Goals as goal

pub returns-in-len4-up-clause-said : goal.returns-in-len4-up-clause-said
returns-in-len4-up-clause-said c =
    let s = c.args.sent.now in
    let n : 4 ≤ length s = search rules in
    let l : 3 ≤ length (drop 1 s) = simp length-drop (omega arith) in
    c.order_by_code-in-len4-up.ensures.said
    ∙ ap₂ (shaped_by (lookup table (get_or s 0 0)) (length s - 1) c.args.wanted) (c.address_of.ensures ∙ sym (address_long s l)) (take_rest s 4 ∙ sym (data_long s l))
    ∙ sym (ordered_is s c.args.wanted (omega arith))
