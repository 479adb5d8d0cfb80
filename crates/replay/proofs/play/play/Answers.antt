use Rattle.std.proofs.Common.{◌≡◌, ℕ, List, [], ◌∷◌, length, take, replicate, string_bytes, ◌∙◌, rules}
use Rattle.std.proofs.lemmas.List.{length-take-le}
use Rattle.std.proofs.lemmas.Result.{on_ok_weaker}
use Rattle.listing.specs.Parts.{exchange}
use Rattle.replay.specs.Playable.{ForAsked}
use Rattle.replay.proofs.Playing.{read_whole, frameless_line, asks_read}
use Rattle.replay.proofs.Replaying.{chip_unplayed, lines_unplayed, chip_framed, lines_framed}
use Rattle.replay.proofs.play.play.Goals as goal

pub returns-in_default-clause-chip : goal.returns-in_default-clause-chip
returns-in_default-clause-chip c = λ l text xs r. chip_unplayed _ _ xs (frameless_line c.args.line c.in_default.not-Frame r)

pub returns-in_default-clause-out : goal.returns-in_default-clause-out
returns-in_default-clause-out c = λ l text xs r. lines_unplayed _ _ _ xs (frameless_line c.args.line c.in_default.not-Frame r)

pub unreachable-requires : goal.unreachable-requires
unreachable-requires c =
    let r = read_whole c.in-Frame.pairs c.requires c.in-Frame.is c.read_pairs.ensures.spelled in
    c.in_default-read_pairs.not-Ok r.0 (c.read_pairs.ensures.answer ∙ r.1)

pub returns : goal.returns
returns c =
    let zeros : List ℕ = replicate 255 0 in
    let n = c.from-count.result in
    let back = length-take-le n zeros (search rules) ∙ c.from-count.ensures ∙ c.wanted.ensures in
    let x = exchange (take c.in-Ok.n c.read_pairs.new.into) (length (take n zeros)) in
    let asks : ForAsked c.args.line (λ xs. xs ≡ x ∷ []) = λ l text xs r. asks_read c.args.line c.in-Frame.pairs c.args.room.now c.read_pairs.new.into c.in-Ok.n _ c.in-Frame.is c.read_pairs.ensures.spelled c.in-Ok.ensures.answer c.read_pairs.ensures.buffer back r in
    record {
      room = search rules;
      number = c.play_frame.ensures.number;
      chip = λ l text xs r. chip_framed _ _ _ x xs c.play_frame.ensures.chip (asks l text xs r);
      out = on_ok_weaker c.play_frame.result (λ h. λ l text xs r. lines_framed _ _ _ (string_bytes c.args.out.now) x xs h (asks l text xs r)) c.play_frame.ensures.out;
    }
