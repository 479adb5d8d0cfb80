use Rattle.std.proofs.Common.{sym, subst, arith}
use Rattle.std.specs.Str.{IsAscii}
use Rattle.hex_text.proofs.Hexadecimal.{pair_ascii, ok_of}
use Rattle.hex_text.proofs.spell.pair.Goals as goal

pub unwrap-requires : goal.unwrap-requires
unwrap-requires c =
    let small = c.ranges.byte in
    ok_of _ _ _ _ c.from_utf8.ensures.cases (subst IsAscii (sym c.digits.ensures) (pair_ascii _ (omega arith)))
