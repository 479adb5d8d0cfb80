use Rattle.std.proofs.Common.{◌≡◌, ℕ, List, length, take, Some, Option, ap, ◌∙◌, arith}
use Rattle.std.proofs.lemmas.List.{take_at}
use Rattle.std.proofs.lemmas.Bool.{cond-true, le-leb}
use Rattle.port.specs.Build.{built}
use Rattle.listing.proofs.Planned.{some_bytes}
use Rattle.listing.proofs.plan_text.put_frame.Goals as goal

same_some : (m n : ℕ) → ◌≡◌ {A = Option ℕ} (Some m) (Some n) → m ≡ n
same_some m n e = cc

pub put_bytes-requires-clause-some : goal.put_bytes-requires-clause-some
put_bytes-requires-clause-some c =
    let f : List ℕ = built c.args.operation c.args.address c.args.data.now in
    let n : c.in-Some.n ≡ length f = same_some _ _ (c.in-Some.ensures.result ∙ cond-true _ _ _ (le-leb _ _ c.requires.short)) in
    let s : take c.in-Some.n c.build.new.into ≡ f = ap (take c.in-Some.n) c.in-Some.ensures.bytes ∙ take_at f _ c.in-Some.n (omega arith) in
    let b = some_bytes c.args.operation c.args.address c.args.data.now in
    let l = ap length s in omega arith
