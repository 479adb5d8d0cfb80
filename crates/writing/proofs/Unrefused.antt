-- No step of a plan is refused: its data lie in the buffer, and the part accepts its cycle.
use Rattle.std.proofs.Common.{◌≡◌, ℕ, zero, suc, ◌+◌, ◌<◌, ◌≤◌, Bool, true, false, cond, not, leb, List, [], ◌∷◌, ◌++◌, length, take, drop, is_some, Some, None, Option, sym, refl, ap, ◌∙◌, subst, append_assoc, add-one, arith, length-append, take-append-drop}
use Rattle.std.proofs.lemmas.List.{map-append}
use Rattle.std.proofs.lemmas.Bool.{and_parts, le-leb, false≢true}
use Rattle.memory.specs.declared.kind.Kind.{Kind}
use Rattle.memory.specs.declared.kind.Kind.TheVariants.{Program, Alter, Preset, SectorErase, BulkErase}
use Rattle.memory.specs.Shape.{Shape, size}
use Rattle.memory.specs.Page.{block, put}
use Rattle.memory.specs.Cycle.{Cycle, Goes, accepts, accepted, effect, leads}
use Rattle.part.specs.declared.fault.PartFault.{PartFault}
use Rattle.part.specs.Meaning.{Meaning, protected_at}
use Rattle.part.proofs.Accepting.{accepting}
use Rattle.least.specs.declared.step.Step.{Step}
use Rattle.least.specs.Barred.{lowest_barred}
use Rattle.least.specs.Fewest.{fewest}
use Rattle.least.specs.Plan.{least_cost, plan}
use Rattle.least.specs.Steps.{step_cycle, cycles_of, steps_from, steps_of, data_of, sent_by}
use Rattle.least.specs.Writes.{refused, planned, past_the_end, steps_short, data_short, unless_barred, unless_short, plan_to, plan_write}
use Rattle.planner.specs.Running.{held, lies, step_verdict}
use Rattle.planner.proofs.Sendable.{step-verdict}

-- these are the steps and the data of a list of cycles
pub record Made (list : List Step) (fresh : List ℕ) (cycles : List Cycle) : Type 0 where
  pub steps : list ≡ steps_of cycles
  pub bytes : fresh ≡ data_of cycles

unlike : {X : Type 0} (row : _) (cost : ℕ × ℕ) (list : List Step) (fresh : List ℕ) → refused row ≡ planned cost list fresh → X
unlike row cost list fresh e = let z : ◌≡◌ {A = ℕ} 0 1 = cc in absurd (omega arith)

module _ (cost : ℕ × ℕ) (list : List Step) (fresh : List ℕ) where
  by_room : (b c : Bool) (least : ℕ × ℕ) (l : List Cycle)
      → cond b (cond c (planned least (steps_of l) (data_of l)) (refused (data_short least))) (refused (steps_short least)) ≡ planned cost list fresh
      → Made list fresh l
  by_room true true least l e =
      let u : list ≡ steps_of l = cc in
      let v : fresh ≡ data_of l = cc in record { steps = u; bytes = v }
  by_room true false least l e = unlike _ cost list fresh e
  by_room false c least l e = unlike _ cost list fresh e

  by_barred : (o : Option ℕ) (step_room data_room : ℕ) (least : ℕ × ℕ) (l : List Cycle)
      → unless_barred o (unless_short step_room data_room least l) ≡ planned cost list fresh → Made list fresh l
  by_barred None step_room data_room least l e = by_room (leb least.0 step_room) (leb least.1 data_room) least l e
  by_barred (Some a) step_room data_room least l e = unlike _ cost list fresh e

  -- a plan that is handed out is the steps and the data of the defined plan
  pub planned-made : (m : Shape) (prot : ℕ → Bool) (image : List ℕ) (address : ℕ) (bytes : List ℕ) (step_room data_room : ℕ)
      → plan_write m prot image address bytes step_room data_room ≡ planned cost list fresh
      → Made list fresh (plan fewest m prot image (put address bytes image))
  planned-made m prot image address bytes step_room data_room = go (leb (address + length bytes) (size m))
    where
      go : (b : Bool)
          → cond b (plan_to m prot image (put address bytes image) step_room data_room) (refused (past_the_end address)) ≡ planned cost list fresh
          → Made list fresh (plan fewest m prot image (put address bytes image))
      go true e =
          by_barred (lowest_barred m prot image (put address bytes image)) step_room data_room
          (least_cost fewest m prot image (put address bytes image)) (plan fewest m prot image (put address bytes image)) e
      go false e = unlike _ cost list fresh e

-- the data of a step lie among those of its list
lies_among : (l : List Cycle) (at k : ℕ) (s : Step)
    → take (suc k) (steps_from at l) ≡ take k (steps_from at l) ++ s ∷ [] → k < length (steps_from at l)
    → s.place + s.length ≤ at + length (data_of l)
lies_among [] at k s e h = absurd (omega arith)
lies_among (c ∷ l) at zero s e h =
    let p : s.place ≡ at = cc in
    let n : s.length ≡ length (sent_by c) = cc in omega (arith, length-append (sent_by c) (data_of l))
lies_among (c ∷ l) at (suc k) s e h =
    let t : take (suc k) (steps_from (at + length (sent_by c)) l) ≡ take k (steps_from (at + length (sent_by c)) l) ++ s ∷ [] = cc in
    omega (arith, length-append (sent_by c) (data_of l), lies_among l (at + length (sent_by c)) k s t (omega arith))

held-lies : (k : Kind) (b : Bool) → b ≡ true → held k b ≡ true
held-lies Program b e = e
held-lies Alter b e = e
held-lies Preset b e = e
held-lies SectorErase b e = refl
held-lies BulkErase b e = refl

-- a cycle of an accepted list is accepted at the image that those before it leave
accepted_at : (m : Shape) (prot : ℕ → Bool) (l : List Cycle) (c : Cycle) (k : List Cycle) (image : List ℕ)
    → accepted m prot (l ++ c ∷ k) image ≡ true → accepts m prot c (leads m l image) ≡ true
accepted_at m prot [] c k image e = (and_parts _ _ e).0
accepted_at m prot (x ∷ l) c k image e = accepted_at m prot l c k (effect m x image) (and_parts _ _ e).1

none_of : (o : Option PartFault) → not (is_some o) ≡ true → o ≡ None
none_of None e = refl
none_of (Some f) e = absurd (false≢true e)

-- step k of an accepted plan, at a part where the steps before it were carried out
pub unrefused : (a b : Meaning) (list : List Step) (fresh : List ℕ) (ys : List Cycle) (wanted : List ℕ) (k : ℕ) (s : Step) (fault : PartFault)
    → Made list fresh ys → Goes a.shape (protected_at a) a.image (cycles_of fresh list) wanted
    → k < length list → take (k + 1) list ≡ take k list ++ s ∷ []
    → b.shape ≡ a.shape → b.guarded ≡ a.guarded → b.due ≡ 0 → leads a.shape (cycles_of fresh (take k list)) a.image ≡ b.image
    → step_verdict b fresh s ≡ Some fault → ⊥
unrefused a b list fresh ys wanted k s fault made goes lt split shape guarded due led told =
    let z : ◌≡◌ {A = Option PartFault} None (Some fault) = sym none ∙ told in
    let o : ◌≡◌ {A = ℕ} 0 1 = cc in omega arith
  where
    behind : List Step
    behind = drop (k + 1) list

    parts : list ≡ take k list ++ s ∷ behind
    parts = sym (take-append-drop (k + 1) list) ∙ (ap (λ x. x ++ behind) split ∙ append_assoc (take k list) (s ∷ []) behind)

    listed : cycles_of fresh list ≡ cycles_of fresh (take k list) ++ step_cycle fresh s ∷ cycles_of fresh behind
    listed = ap (cycles_of fresh) parts ∙ map-append (step_cycle fresh) (take k list) (s ∷ behind)

    taken : accepts a.shape (protected_at a) (step_cycle fresh s) b.image ≡ true
    taken =
        subst (λ i. accepts a.shape (protected_at a) (step_cycle fresh s) i ≡ true) led
        (accepted_at a.shape (protected_at a) (cycles_of fresh (take k list)) (step_cycle fresh s) (cycles_of fresh behind) a.image
        (sym (ap (λ l. accepted a.shape (protected_at a) l a.image) listed) ∙ goes.0))

    here : accepts b.shape (protected_at b) (step_cycle fresh s) b.image ≡ true
    here = rw (shape, guarded) taken

    split' : take (suc k) (steps_from 0 ys) ≡ take k (steps_from 0 ys) ++ s ∷ []
    split' = rw (made.steps, add-one k) at split

    within : s.place + s.length ≤ length fresh
    within = omega (arith, lies_among ys 0 k s split' (rw made.steps at lt), ap length made.bytes)

    none : step_verdict b fresh s ≡ None
    none =
        step-verdict b fresh s (held-lies s.kind (lies s fresh) (le-leb _ _ within))
        ∙ none_of _ (accepting b s.kind s.address (block s.place s.length fresh) due ∙ here)
