use Rattle.std.proofs.Common.{◌≡◌, ℕ, ◌+◌, ◌-◌, List, ◌∷◌, ◌++◌, length, take, drop, set, replicate, ap, ◌∙◌, ap₂, arith, length-append, length-drop, length-set, length-take}
use borrow.Rule.Slice.PartMut.{put_mid}
use lib.ListN.{length-replicate}
use Rattle.port.specs.Build.{high_first}
use Rattle.port.proofs.Building.{four_parts, length-high_first}
use Rattle.port.proofs.build.lay_out.Goals as goal

pub returns : goal.returns
returns c =
    let na : ℕ = c.args.row.address_bytes in
    let nd : ℕ = c.args.row.dummy_bytes in
    let nl : ℕ = length c.args.data.now in
    let h : ℕ = c.head-head.result in
    let e : h ≡ 1 + na + nd = c.head-head.ensures in
    let ys : List ℕ = c.write_address.new.into in
    let zs : List ℕ = c.fill.new.bytes in
    let ws : List ℕ = c.copy_from_slice.new.self in
    let into : List ℕ = c.args.into.now in
    let first : List ℕ = set into 0 c.args.row.code in
    let n1 : length (take (1 + na - 1) (drop 1 first)) ≡ na = simp (length-take, length-drop, length-set) (omega arith) in
    let y : ys ≡ high_first na c.args.address = c.write_address.ensures ∙ ap (λ n. high_first n c.args.address) n1 in
    let ly : length ys ≡ na = ap length y ∙ length-high_first na c.args.address in
    let n2 : length (take (h - (1 + na)) (drop (1 + na) (put_mid 1 (1 + na - 1) first ys))) ≡ nd =
    simp (length-take, length-drop, length-append, length-set) (omega arith) in
    let z : zs ≡ replicate nd 0 = c.fill.ensures.after ∙ ap (λ n. replicate n 0) n2 in
    let lz : length zs ≡ nd = ap length z ∙ length-replicate nd 0 in
    let w : ws ≡ c.args.data.now = c.copy_from_slice.ensures.after in
    let lw : length ws ≡ nl = ap length w in
    four_parts into ys zs ws c.args.row.code (1 + na) h (1 + na - 1) (h - (1 + na)) (h + nl - h) (h + nl)
    (omega arith) (omega arith) (omega arith) (omega arith) (omega arith) (omega arith) (omega arith)
    ∙ ap₂ (λ u v. c.args.row.code ∷ ((u ++ v) ++ drop (h + nl) into)) y (ap₂ ◌++◌ z w)
    ∙ ap (λ x. c.args.row.code ∷ ((high_first na c.args.address ++ (replicate nd 0 ++ c.args.data.now)) ++ drop (x + nl) into)) e
