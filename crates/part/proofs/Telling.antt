-- What a call of a part tells, by its clauses; and what events tell of shape, protected sectors, image and polls.
use Rattle.std.specs.Prelude.{◌≡◌, ℕ, ◌-◌, ◌≤◌, true, false, List, [], ◌∷◌, length, is_ok, None, Ok, Err, Result, if◌then◌else◌, refl}
use Rattle.std.proofs.Common.{sym, arith}
use Rattle.std.proofs.lemmas.Bool.{and_from, eqb-true}
use Rattle.memory.specs.declared.kind.Kind.{Kind}
use Rattle.memory.specs.Cycle.{cycle_of, effect, accepted, leads}
use Rattle.part.specs.declared.fault.PartFault.{PartFault}
use Rattle.part.specs.Meaning.{Meaning, Event, Tells, asked, carried, polled, none, read, cycle, poll, cycles, polls, protected_at, waited}
use Rattle.part.specs.Verdict.{idle, clean_at, read_verdict, told, verdict}
use Rattle.part.proofs.Refusals as refusals
use Rattle.part.proofs.Refusals.{all_passed, read-inside, unrefused}
use Rattle.part.proofs.Playing.{alike, played_none, played_read, played_poll, played_cycle}

module _ (m n : Meaning) where
  pub tells_poll : n ≡ waited m → Tells m (polled ∷ []) n
  tells_poll e = played_poll m n e

  pub tells_read : (address k : ℕ) (r : Result (Unit {0}) PartFault) → r ≡ told (read_verdict m address k) → n ≡ m
      → Tells m (if is_ok r then asked k ∷ [] else []) n
  tells_read address k (Ok u) e same = played_read m n k (eqb-true _ _ (read-inside m.shape (idle m) address k (sym (unrefused _ e))).1) same
  tells_read address k (Err f) e same = played_none m n same

  -- a cycle that was not refused
  pub tells_done : (kind : Kind) (address : ℕ) (sent : List ℕ) → verdict m kind address sent ≡ None → n.shape ≡ m.shape → n.guarded ≡ m.guarded
      → n.image ≡ effect m.shape (cycle_of kind address sent) m.image → 1 ≤ n.due → Tells m (carried (cycle_of kind address sent) ∷ []) n
  tells_done kind address sent v shape guarded image due =
      let p = all_passed m.shape (protected_at m) (idle m) kind address (length sent) (clean_at m address) v in
      played_cycle m n (cycle_of kind address sent) n.due due (eqb-true _ _ p.idle) (refusals.accepted m kind address sent v)
      (alike n.shape m.shape n.image _ n.guarded m.guarded n.due n.due shape image guarded refl)

  pub tells_cycle : (kind : Kind) (address : ℕ) (sent : List ℕ) (r : Result (Unit {0}) PartFault) → r ≡ told (verdict m kind address sent)
      → n.shape ≡ m.shape → n.guarded ≡ m.guarded → (is_ok r ≡ false → n ≡ m)
      → (is_ok r ≡ true → n.image ≡ effect m.shape (cycle_of kind address sent) m.image) → (is_ok r ≡ true → 1 ≤ n.due)
      → Tells m (if is_ok r then carried (cycle_of kind address sent) ∷ [] else []) n
  tells_cycle kind address sent (Ok u) e shape guarded undone image due =
      tells_done kind address sent (sym (unrefused _ e)) shape guarded (image refl) (due refl)
  tells_cycle kind address sent (Err f) e shape guarded undone image due = played_none m n (undone refl)

-- counts and protected sectors stay
pub told-shape : {m n : Meaning} {l : List Event} → Tells m l n → n.shape ≡ m.shape
told-shape none = refl
told-shape (read d p) = told-shape p
told-shape (cycle k t d e p) = told-shape p
told-shape (poll p) = told-shape p

pub told-guarded : {m n : Meaning} {l : List Event} → Tells m l n → n.guarded ≡ m.guarded
told-guarded none = refl
told-guarded (read d p) = told-guarded p
told-guarded (cycle k t d e p) = told-guarded p
told-guarded (poll p) = told-guarded p

-- the image is the one that the cycles among the events leave, each of which is accepted
pub told-image : {m n : Meaning} {l : List Event} → Tells m l n → leads m.shape (cycles l) m.image ≡ n.image
told-image none = refl
told-image (read d p) = told-image p
told-image (cycle k t d e p) = told-image p
told-image (poll p) = told-image p

pub told-accepted : {m n : Meaning} {l : List Event} → Tells m l n → accepted m.shape (protected_at m) (cycles l) m.image ≡ true
told-accepted none = refl
told-accepted (read d p) = told-accepted p
told-accepted (cycle k t d e p) = and_from _ _ e (told-accepted p)
told-accepted (poll p) = told-accepted p

-- where no cycle is among them, each poll leaves one less due
pub told-due : {m n : Meaning} {l : List Event} → Tells m l n → cycles l ≡ [] → n.due ≡ m.due - polls l
told-due none e = omega arith
told-due (read d p) e = told-due p e
told-due (cycle k t d a p) e = cc
told-due (poll p) e = let q = told-due p e in omega arith
