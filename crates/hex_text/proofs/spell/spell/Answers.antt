use Rattle.std.proofs.Common.{sym, subst, rules}
use Rattle.std.specs.Str.{IsAscii}
use Rattle.hex_text.proofs.Hexadecimal.{ok_of, spaced_ascii, spelled}
use Rattle.hex_text.proofs.spell.spell.Goals as goal

pub unwrap-requires : goal.unwrap-requires
unwrap-requires c =
    let bytes = c.args.bytes.now in
    let full = spelled bytes c.loop-i.text c.loop-i.i c.loop-i.auto.i-end c.loop-i-test.false c.loop-i.invariant.1 in
    ok_of _ _ _ _ c.from_utf8.ensures.cases (subst IsAscii (sym full) (spaced_ascii bytes (λ i. search rules)))
