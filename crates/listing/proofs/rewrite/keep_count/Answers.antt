use Rattle.std.proofs.Common.{[], ◌∷◌, ◌++◌, refl}
use Rattle.listing.proofs.Keeping.{count_kept}
use Rattle.listing.proofs.Sheets.{room_first, room_next, wrote_join}
use Rattle.listing.proofs.rewrite.keep_count.Goals as goal
use Rattle.listing.proofs.rewrite.keep_count.Goals.{in-Some, in_default}

pub put-requires-in-Some : goal.put-requires-in-Some
put-requires-in-Some c =
    let w = c.text.result.now in
    let e = count_kept c.args.count c.in-Some.count w c.in-Some.is c.text.ensures in
    room_first c.put.new.self w (10 ∷ []) refl (room_next (w ++ 10 ∷ []) e c.requires c.put.ensures)

pub put-requires-2 : goal.put-requires-2
put-requires-2 c = elim c.match-count.branch [
  | in-Some w ↦ (
      let t = w.text.result.now in
      let e = count_kept c.args.count w.in-Some.count t w.in-Some.is w.text.ensures in
      rw w.sheet-is (room_next (10 ∷ []) refl (room_next (t ++ 10 ∷ []) e c.requires w.put.ensures) w.put-in-Some.ensures))
  | in_default w ↦ rw w.sheet-is (rw w.in_default.is at c.requires)
]

pub returns : goal.returns
returns c = elim c.match-count.branch [
  | in-Some w ↦ (
      let t = w.text.result.now in
      let e = count_kept c.args.count w.in-Some.count t w.in-Some.is w.text.ensures in
      let r = room_next (t ++ 10 ∷ []) e c.requires w.put.ensures in
      wrote_join e c.requires w.put.ensures (wrote_join refl r w.put-in-Some.ensures (rw w.sheet-is at c.put-2.ensures)))
  | in_default w ↦ rw w.in_default.is (rw w.sheet-is at c.put-2.ensures)
]
