use Rattle.std.proofs.Common.{◌≡◌, ◌+◌, ◌≤◌, length, take, arith, rules, ap, ◌∙◌}
use Rattle.std.proofs.lemmas.List.{take_all}
use Rattle.std.proofs.Output.{has_written_append, has_written_of_eq}
use Rattle.hex_text.specs.HexText.{spaced}
use Rattle.hex_text.proofs.Hexadecimal.{spaced_run}
use Rattle.hex_text.proofs.spaced.SpacedDisplay.fmt.Goals as goal

pub loop-at-preserved : goal.loop-at-preserved
loop-at-preserved g c = λ plain.
    let bytes = c.args.self.now.0.now in
    let w = c.loop-at.invariant plain in
    let m = c.min-end.ensures in
    let e : c.min-end.result ≡ c.loop-at.at + 32 = omega arith in
    let s = spaced_run bytes _ c.loop-at.at c.min-end.result (omega arith) c.spell.ensures ∙ ap (λ n. spaced (take n bytes)) e in
    has_written_of_eq _ _ _ _ _ s (has_written_append _ _ _ _ _ _ w (c.write_str.ensures.writes w.plain (search rules)))

pub returns-in_ok-write_str-clause-writes : goal.returns-in_ok-write_str-clause-writes
returns-in_ok-write_str-clause-writes g c = λ plain ok.
    let bytes = c.args.self.now.0.now in
    let w = c.loop-at.invariant plain in
    let m = c.min-end.ensures in
    let e : length bytes ≤ c.min-end.result = omega arith in
    let s = spaced_run bytes _ c.loop-at.at c.min-end.result (omega arith) c.spell.ensures ∙ ap spaced (take_all _ bytes e) in
    has_written_of_eq _ _ _ _ _ s (has_written_append _ _ _ _ _ _ w (c.write_str.ensures.writes w.plain (search rules)))
