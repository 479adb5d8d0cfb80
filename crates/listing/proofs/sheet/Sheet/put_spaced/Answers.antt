use Rattle.std.proofs.Common.{List, [], ◌∷◌, ℕ, get_or, refl, sym, ap, subst}
use Rattle.listing.specs.Sheets.{Room}
use Rattle.listing.specs.Writing.{spaced_text}
use Rattle.listing.proofs.Sheets.{wrote_none, wrote_is, spaced_room, spaced_turn}
use Rattle.listing.proofs.sheet.Sheet.put_spaced.Goals as goal

pub loop-byte-init : goal.loop-byte-init
unfolding spaced_text
loop-byte-init c = wrote_none c.args.self.now refl

pub put-requires : goal.put-requires
put-requires c =
    let e = ap (λ (l : List ℕ). 32 ∷ get_or l 0 0 ∷ get_or l 1 0 ∷ []) c.pair.ensures in
    let R : List ℕ → Type 0 = λ w. Room c.loop-byte.self w in
    subst R (sym e) (spaced_room c.args.bytes.now c.loop-byte.byte-index c.requires c.loop-byte-test.true c.loop-byte.invariant)

pub loop-byte-preserved : goal.loop-byte-preserved
loop-byte-preserved c =
    let e = ap (λ (l : List ℕ). 32 ∷ get_or l 0 0 ∷ get_or l 1 0 ∷ []) c.pair.ensures in
    spaced_turn c.args.bytes.now c.loop-byte.byte-index c.requires c.loop-byte-test.true c.loop-byte.invariant (wrote_is c.put.ensures e)
