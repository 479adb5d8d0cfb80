use Rattle.std.proofs.Common.{◌≡◌, ℕ, false, List, Err, bytes_eq, codes, refl}
use Rattle.std.proofs.lemmas.Bool.{false_from_ne_true}
use Rattle.std.proofs.lemmas.Slice.Eq.{bytes_eq-Decides}
use Rattle.script.specs.Commands.{command_of}
use Rattle.script.specs.declared.fault.Fault.TheVariants.{Unknown}
use Rattle.script.proofs.command.CommandFromStr.from_str.Goals as goal

differs : (w v : List ℕ) → (w ≡ v → ⊥) → bytes_eq w v ≡ false
differs w v h = false_from_ne_true (bytes_eq w v) (λ e. h ((bytes_eq-Decides w v).0 e))

unknown : (w : List ℕ) → (w ≡ codes "chip" → ⊥) → (w ≡ codes "image" → ⊥) → (w ≡ codes "room" → ⊥) → (w ≡ codes "limit" → ⊥)
    → (w ≡ codes "close" → ⊥) → (w ≡ codes "open" → ⊥) → (w ≡ codes "read" → ⊥) → (w ≡ codes "write" → ⊥) → Err Unknown ≡ command_of w
unfolding command_of
unknown w a b c d e f g h = simp (differs w _ a, differs w _ b, differs w _ c, differs w _ d, differs w _ e, differs w _ f, differs w _ g, differs w _ h) refl

pub returns-in-chip : goal.returns-in-chip
unfolding command_of
returns-in-chip c = rw c.in-chip.is refl

pub returns-in-image : goal.returns-in-image
unfolding command_of
returns-in-image c = rw c.in-image.is refl

pub returns-in-room : goal.returns-in-room
unfolding command_of
returns-in-room c = rw c.in-room.is refl

pub returns-in-limit : goal.returns-in-limit
unfolding command_of
returns-in-limit c = rw c.in-limit.is refl

pub returns-in-close : goal.returns-in-close
unfolding command_of
returns-in-close c = rw c.in-close.is refl

pub returns-in-open : goal.returns-in-open
unfolding command_of
returns-in-open c = rw c.in-open.is refl

pub returns-in-read : goal.returns-in-read
unfolding command_of
returns-in-read c = rw c.in-read.is refl

pub returns-in-write : goal.returns-in-write
unfolding command_of
returns-in-write c = rw c.in-write.is refl

pub returns-in_default : goal.returns-in_default
returns-in_default c =
    let n = c.in_default in
    unknown c.args.word.now n.not-chip n.not-image n.not-room n.not-limit n.not-close n.not-open n.not-read n.not-write
