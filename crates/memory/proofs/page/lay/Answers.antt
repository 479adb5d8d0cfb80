use Rattle.std.proofs.Common.{map, replicate, Some, None, refl, ap, add-zero}
use Rattle.memory.specs.Page.{laid, cover}
use Rattle.memory.proofs.page.lay.Goals as goal

pub loop-i-init : goal.loop-i-init
unfolding cover
loop-i-init c = (refl, ap (λ a. laid 64 (replicate 64 None) a (map Some c.args.sent.now)) (add-zero c.args.at))
