use Rattle.std.proofs.Common.{◌≡◌, ◌+◌, ◌-◌, ◌*◌, ◌/◌, ◌%◌, length, take, drop, ap, ◌∙◌, arith, length-drop, length-take}
use Rattle.memory.specs.Image.{rule}
use Rattle.memory.specs.Page.{page, cover, merged, put}
use Rattle.memory.proofs.Covers.{length_merged}
use Rattle.memory.proofs.Loops.{put_mid_lem}
use Rattle.memory.proofs.page.write.Goals as goal

pub returns-clause-after : goal.returns-clause-after
returns-clause-after c =
    let a = c.page_start-start.result in
    let s : a ≡ c.args.address / 64 * 64 = c.page_start-start.ensures in
    let image = c.args.image.now in
    let n : a + 64 - a ≡ 64 = omega arith in
    let f = rule c.args.kind in
    let m : c.merge.new.bytes ≡ merged f (page 64 (c.args.address / 64) image) (cover 64 (c.args.address % 64) c.args.sent.now) =
    c.merge.ensures ∙ ap (λ x. merged f (take x (drop a image)) c.lay-cover.result) n
    ∙ ap (λ x. merged f (take 64 (drop x image)) c.lay-cover.result) s
    ∙ ap (λ x. merged f (page 64 (c.args.address / 64) image) x) c.lay-cover.ensures in
    let l : length c.merge.new.bytes ≡ a + 64 - a =
    ap length m ∙ length_merged f (page 64 (c.args.address / 64) image) (cover 64 (c.args.address % 64) c.args.sent.now)
    ∙ simp (length-take, length-drop) (omega arith) in
    put_mid_lem a (a + 64 - a) c.merge.new.bytes image l ∙ ap (λ x. put a x image) m ∙ ap (λ x. put x (merged f (page 64 (c.args.address / 64) image) (cover 64 (c.args.address % 64) c.args.sent.now)) image) s
