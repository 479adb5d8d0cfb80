use Rattle.std.proofs.Common.{◌≡◌, length, vec_items, refl, sym, ◌∙◌, arith}
use Rattle.std.proofs.lemmas.Bool.{eqb-true}
use Rattle.std.proofs.lemmas.Result.{err_from_is_err_and}
use Rattle.memory.specs.Shape.{size}
use Rattle.memory.specs.Image.{shape_of}
use Rattle.memory.proofs.Rolled.{rolled-within}
use Rattle.part.specs.Meaning.{none, read}
use Rattle.part.specs.Plain.{plainly}
use Rattle.part.specs.Verdict.{idle}
use Rattle.part.proofs.Refusals.{outlines_read, read-inside, unrefused}
use Rattle.part.proofs.plain_part.PlainImagePart.read.Goals as goal

pub returns-in_err-check_read-clause-trace : goal.returns-in_err-check_read-clause-trace
returns-in_err-check_read-clause-trace c = let p = err_from_is_err_and c.from_residual.result c.from_residual.ensures.1 in rw p.1 (none, refl)

pub returns-clause-bytes : goal.returns-clause-bytes
returns-clause-bytes c = λ _.
    let p = c.args.self.now in
    let n = length c.args.into.now in
    let v = unrefused _ c.in_ok-check_read.ensures ∙ outlines_read c.outline.result (plainly p) c.args.address n c.outline.ensures in
    let i = read-inside (shape_of p.image) (idle (plainly p)) c.args.address n (sym v) in
    let w : length (vec_items p.image.bytes) ≡ size (shape_of p.image) = sym p.image.bytes.ok.0 ∙ p.image.sized in
    c.read.ensures ∙ rolled-within (vec_items p.image.bytes) c.args.address n (omega (arith, i.0))

pub returns-clause-trace : goal.returns-clause-trace
returns-clause-trace c =
    let p = c.args.self.now in
    let n = length c.args.into.now in
    let v = unrefused _ c.in_ok-check_read.ensures ∙ outlines_read c.outline.result (plainly p) c.args.address n c.outline.ensures in
    let i = read-inside (shape_of p.image) (idle (plainly p)) c.args.address n (sym v) in (read (eqb-true _ _ i.1) none, refl)
