use Rattle.std.proofs.Common.{◌≡◌, ◌-◌, Bool, true, false, cond, refl, ap}
use Rattle.part.specs.Plain.{plainly}
use Rattle.part.proofs.Playing.{played_poll}
use Rattle.part.proofs.plain_part.PlainImagePart.poll.Goals as goal

-- the one poll that can be due
none_due : (b : Bool) → 0 ≡ cond b 1 0 - 1
none_due true = refl
none_due false = refl

pub returns-clause-trace : goal.returns-clause-trace
returns-clause-trace c =
    let m = plainly c.args.self.now in
    (played_poll _ _ (ap (λ d. record { shape = m.shape; image = m.image; guarded = m.guarded; due = d }) (none_due c.args.self.now.busy)), refl)
