use Rattle.std.proofs.Common.{◌≡◌, ◌+◌, ◌-◌, length, sym, refl, ap, ◌∙◌, arith}
use Rattle.memory.specs.Page.{put}
use Rattle.memory.proofs.Loops.{put_mid_lem}
use Rattle.listing.proofs.sheet.Sheet.put.Goals as goal

pub returns : goal.returns
returns c =
    let at = c.args.self.now.at in
    let into = c.args.self.now.into.now in
    let n = length c.args.bytes.now in
    let e : at + n - at ≡ n = omega arith in
    let s = c.copy_from_slice.ensures.after in
    record {
      same = refl;
      place = refl;
      buffer = put_mid_lem at (at + n - at) c.copy_from_slice.new.self into (ap length s ∙ sym e) ∙ ap (λ x. put at x into) s;
    }
