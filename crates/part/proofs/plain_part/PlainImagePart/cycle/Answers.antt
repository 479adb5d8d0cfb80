use Rattle.std.proofs.Common.{◌≡◌, length, vec_items, refl, sym, ap, ◌∙◌}
use Rattle.std.proofs.lemmas.Result.{err_from_is_err_and}
use Rattle.std.proofs.lemmas.Bool.{eqb-true}
use Rattle.memory.specs.Shape.{Shape, size}
use Rattle.memory.specs.Cycle.{cycle_of}
use Rattle.memory.specs.Image.{bytes_of, shape_of}
use Rattle.part.specs.Meaning.{none, protected_at}
use Rattle.part.specs.Outline.{guards}
use Rattle.part.specs.Plain.{plainly}
use Rattle.part.specs.Verdict.{idle, clean_at}
use Rattle.part.proofs.Playing.{alike, played_cycle}
use Rattle.part.proofs.Refusals.{outlines_cycle, done_all, all_passed, accepted, carried_in, unrefused}
use Rattle.part.proofs.plain_part.PlainImagePart.cycle.Goals as goal

pub returns-in_err-check_cycle-clause-trace : goal.returns-in_err-check_cycle-clause-trace
returns-in_err-check_cycle-clause-trace c = let p = err_from_is_err_and c.from_residual.result c.from_residual.ensures.1 in rw p.1 (none, refl)

pub returns-then-not-is_clean_for-clause-trace : goal.returns-then-not-is_clean_for-clause-trace
returns-then-not-is_clean_for-clause-trace c = (none, refl)

pub returns-clause-trace : goal.returns-clause-trace
returns-clause-trace c =
    let p = c.args.self.now in
    let m = plainly p in
    let n = length c.args.data.now in
    let y = cycle_of c.args.kind c.args.address c.args.data.now in
    let v = sym (unrefused _ c.in_ok-check_cycle.ensures.value ∙ outlines_cycle c.outline.result m c.args.kind c.args.address n c.outline.ensures) in
    let d = done_all m.shape (protected_at m) (idle m) c.args.kind c.args.address n (clean_at m c.args.address) v (sym c.if-not-is_clean_for.ensures) in
    let passes = all_passed m.shape (protected_at m) (idle m) c.args.kind c.args.address n _ v in
    let w : length (vec_items p.image.bytes) ≡ size (shape_of p.image) = sym p.image.bytes.ok.0 ∙ p.image.sized in
    let s = c.carry.ensures.shape in
    let i = c.carry.ensures.bytes ∙ carried_in m.shape m.image c.args.kind c.args.address c.args.data.now w passes.inside in
    let k = ap (λ (x : Shape). guards p.status.bits x.sectors) s in (
      played_cycle m _ y 1 refl (eqb-true _ _ passes.idle) (accepted m c.args.kind c.args.address c.args.data.now d)
          (alike (shape_of c.carry.new.self) m.shape (bytes_of c.carry.new.self) _ (guards p.status.bits c.carry.new.self.geometry.sectors) _ 1 1 s i k refl),
      refl,
    )
