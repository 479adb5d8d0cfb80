use Rattle.std.proofs.Common.{◌-◌, length, take, drop, ap, ◌∙◌}
use Rattle.std.specs.Int.{bytes_high_first}
use Rattle.std.proofs.lemmas.List.{take_rest}
use Rattle.port.proofs.Building.{lowest_first}
use Rattle.port.proofs.build.write_address.Goals as goal

pub returns : goal.returns
returns c =
    let n = length c.args.into.now in
    let a = c.args.address in
    c.copy_from_slice.ensures.after ∙ ap (λ xs. take (8 - (8 - n)) (drop (8 - n) xs)) c.to_be_bytes-bytes.ensures
    ∙ take_rest (bytes_high_first 8 a) (8 - n) ∙ lowest_first n a c.requires
