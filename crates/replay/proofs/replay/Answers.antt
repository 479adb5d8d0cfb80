use Rattle.std.proofs.Common.{◌++◌, length, string_bytes, ap, ◌∙◌, arith}
use Rattle.std.proofs.lemmas.Grind.{common_steps}
use Rattle.std.proofs.lemmas.Result.{on_ok_weaker}
use Rattle.listing.proofs.Progress.{next_some, next_none}
use Rattle.replay.proofs.Playing.{given_playable}
use Rattle.replay.proofs.Replaying.{sofar_start, sofar_more, sofar_end, sofar_fails, place_told}
use Rattle.replay.proofs.replay.Goals as goal

pub loop-line-init : goal.loop-line-init
loop-line-init c = record {
  room = grind (arith, common_steps);
  played = sofar_start c.args.text.now c.new-reader.result.rest.now c.args.chip.now (string_bytes c.args.out.now) c.new-reader.result.line c.new-reader.ensures.rest c.new-reader.ensures.line;
}

pub play-requires : goal.play-requires
play-requires c =
    let v = ap length c.deref_mut.ensures.value in
    let i = c.loop-line.invariant.room in
    let t = next_some c.in-Ok-Some.field-0-is c.in-Ok-Some.ensures in
    given_playable t (omega arith)

pub loop-line-preserved : goal.loop-line-preserved
loop-line-preserved c =
    let t = next_some c.in-Ok-Some.field-0-is c.in-Ok-Some.ensures in
    record {
      room = grind (arith, common_steps);
      played = sofar_more c.play.new.chip (string_bytes c.play.new.out) c.loop-line.invariant.played t c.play.ensures.number (c.play.ensures.chip _ t.text t.exchanges t.reads) (c.in_ok-play-in-Ok-Some.ensures.out _ t.text t.exchanges t.reads);
    }

pub returns-in-Ok-None : goal.returns-in-Ok-None
returns-in-Ok-None c =
    sofar_end c.loop-line.invariant.played (next_none c.loop-line.reader.line c.next_line.new.self.line c.next_line.new.self.rest.now c.in-Ok-None.field-0-is c.in-Ok-None.ensures)

pub returns-in-Err-Malformed : goal.returns-in-Err-Malformed
returns-in-Err-Malformed c =
    let h = c.in-Err-Malformed.ensures in
    let e = c.in-Err-Malformed in
    let told = place_told e.field-0 c.number.result e.line e.column _ _ c.loop-line.reader.line h.0 e.field-0-is e.line-is e.column-is h.2 c.number.ensures in
    on_ok_weaker c.writeln.result
    (λ b. sofar_fails h.0 (string_bytes c.writeln.new.self) c.loop-line.invariant.played h.1 (b ∙ ap (λ x. string_bytes c.loop-line.out ++ x) told))
    c.writeln.ensures.bytes
