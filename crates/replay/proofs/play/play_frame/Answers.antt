use Rattle.std.proofs.Common.{◌≡◌, ◌+◌, ◌++◌, length, OnOk, string_bytes, nat_le, List, ℕ, sym, ◌∙◌, subst}
use Rattle.replay.proofs.Refusing.{refused_line}
use Rattle.replay.proofs.play.play_frame.Goals as goal

pub returns-in-Err-clause-out : goal.returns-in-Err-clause-out
returns-in-Err-clause-out c =
    let e = sym c.in-Err.is ∙ c.transfer.ensures.result in
    let l = refused_line (nat_le (length c.args.sent.now + length c.args.back.now) 320) c.in-Err.fault _ c.report.result _ c.number.result e c.report.ensures c.number.ensures in
    let P : List ℕ → Type 0 = λ w. OnOk c.writeln-in-Err.result (string_bytes c.writeln-in-Err.new.self ≡ string_bytes c.args.out.now ++ w) in
    subst P l c.writeln-in-Err.ensures.bytes
