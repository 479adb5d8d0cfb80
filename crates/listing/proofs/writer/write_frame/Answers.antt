use Rattle.std.proofs.Common.{◌≡◌, ◌≤◌, length, sym, ◌∙◌, arith, rules}
use Rattle.listing.specs.Values.{over}
use Rattle.listing.specs.Writing.{line_text, exchange_of}
use Rattle.listing.proofs.Keeping.{bytes-read}
use Rattle.listing.proofs.Laying.{put_start, over-fits}
use Rattle.listing.proofs.Sheets.{sheet_text}
use Rattle.listing.proofs.writer.write_frame.Goals as goal

pub returns-in_err-check_room-clause-reads : goal.returns-in_err-check_room-clause-reads
returns-in_err-check_room-clause-reads c = let f = c.args.frame in λ h k. bytes-read f.code f.back f.rest.now (omega arith) k c.line_len-needed.ensures.bytes

pub returns-in_err-check_room-clause-alone : goal.returns-in_err-check_room-clause-alone
returns-in_err-check_room-clause-alone c = let f = c.args.frame in bytes-read f.code f.back f.rest.now (omega arith) (omega arith) c.line_len-needed.ensures.bytes

pub returns-clause-buffer : goal.returns-clause-buffer
returns-clause-buffer c =
    let l = c.args.into.now in
    let w = line_text (exchange_of c.args.frame) in
    let h : length w ≤ length l = omega arith in
    let t = sheet_text c.new-sheet.ensures.place c.new-sheet.ensures.buffer c.put_line.ensures in
    let n = c.put_line.ensures.same ∙ c.new-sheet.ensures.same in
    let b : c.put_line.new.sheet.into.now ≡ over w l = t.1 ∙ put_start w l ∙ sym (over-fits w l h) in search (rules, sym n, b)

pub returns-clause-reads : goal.returns-clause-reads
returns-clause-reads c = let f = c.args.frame in λ h k. bytes-read f.code f.back f.rest.now (omega arith) k c.line_len-needed.ensures.bytes

pub returns-clause-alone : goal.returns-clause-alone
returns-clause-alone c = let f = c.args.frame in bytes-read f.code f.back f.rest.now (omega arith) (omega arith) c.line_len-needed.ensures.bytes
