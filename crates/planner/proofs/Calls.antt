-- The chosen plan is the plan, its cost is the least, and the call hands out what is defined.
use Rattle.std.proofs.Common.{◌≡◌, ℕ, ◌+◌, ◌*◌, ◌<◌, ◌≤◌, Bool, true, false, cond, not, ◌&&◌, leb, ◌⊎◌, List, ◌∷◌, ◌++◌, length, get_or, drop, Some, None, Ok, Err, Option, Result, sym, refl, ap, ◌∙◌, subst, inl, inr, zero-add, arith}
use lib.Seq.{sets, sets-eq}
use Rattle.std.proofs.lemmas.List.{append-nil, drop_all}
use Rattle.std.proofs.lemmas.Bool.{cases_order, cond-false, cond-true, le-leb, lt-leb}
use Rattle.memory.specs.Shape.{size}
use Rattle.memory.specs.Protection.{free}
use Rattle.memory.specs.Cycle.{Cycle, sector_erase, bulk_erase}
use Rattle.memory.proofs.Bounds.{imaged-put}
use Rattle.part.specs.Meaning.{Meaning, Sound, protected_at}
use Rattle.part.specs.Verdict.{idle}
use Rattle.planner.specs.declared.chosen.Choice.{Choice}
use Rattle.planner.specs.declared.fault.PlanFault.{PlanFault}
use Rattle.planner.specs.declared.fault.PlanFault.TheVariants.{Protected, StepsShort, DataShort}
use Rattle.least.specs.declared.step.Step.{Step}
use Rattle.least.specs.Barred.{LowestIs, lowest_barred}
use Rattle.least.specs.Fewest.{fewest}
use Rattle.least.specs.Sectors.{over_sector, erase_cost, sectors_cost, bulk_cost, chosen_cost}
use Rattle.least.specs.Plan.{keep_page, erased_page, least_cost, keep_cycles, presets, list_to, pages_of}
use Rattle.least.specs.Steps.{steps_of, data_of}
use Rattle.least.specs.Writes.{planned, refused, past_the_end, steps_short, data_short, unless_barred, unless_short, plan_write}
use Rattle.planner.specs.Wanted.{Fitting, wanted}
use Rattle.planner.specs.declared.chosen.Treatment.{Treatment}
use Rattle.planner.specs.declared.chosen.Treatment.TheVariants as treatment
use Rattle.planner.specs.declared.chosen.Erasure.{Erasure}
use Rattle.planner.specs.declared.chosen.Erasure.TheVariants.{All, Sectors}
use Rattle.planner.specs.Asking.{for_marks, for_pages, for_steps}
use Rattle.planner.specs.Choice.{Chosen, Erased}
use Rattle.planner.specs.Lists.{bulk_list, sector_list, sectors_list}
use Rattle.planner.specs.Sending.{Laid}
use Rattle.planner.specs.Call.{Handed, plan_call, plan_inside, plan_list, polls_due}
use Rattle.least.proofs.Laws.{fewest_lawful}
use Rattle.least.proofs.Price.{plan-spent}
use Rattle.least.proofs.Stepped.{steps_are_cycles}
use Rattle.planner.proofs.Askings.{marks_same}
use Rattle.planner.proofs.Sendings.{length-steps}
use Rattle.planner.proofs.Totals.{list_same, list_flat}
use Rattle.least.proofs.Unreached.{lowest_found}

unless_both : {A : Type 0} (f l : Bool) (x y : A) → (f && not l) ≡ false → x ≡ cond f (cond l x y) x
unless_both true true x y e = refl
unless_both true false x y e = let z : ◌≡◌ {A = ℕ} 0 1 = ap (λ (b : Bool). cond b 0 1) e in absurd (omega arith)
unless_both false l x y e = refl

both : {A : Type 0} (f l : Bool) (x y : A) → (f && not l) ≡ true → y ≡ cond f (cond l x y) x
both true true x y e = let z : ◌≡◌ {A = ℕ} 0 1 = ap (λ (b : Bool). cond b 1 0) e in absurd (omega arith)
both true false x y e = refl
both false l x y e = let z : ◌≡◌ {A = ℕ} 0 1 = ap (λ (b : Bool). cond b 1 0) e in absurd (omega arith)

module _ (m : Meaning) (S : Sound m) (address : ℕ) (bytes : List ℕ) where
  -- the plan with pages of z bytes
  abbrev keep_at : ℕ → ℕ → ℕ × ℕ
  keep_at z = keep_page fewest z m.image (wanted m address bytes)

  abbrev erased_at : ℕ → ℕ → ℕ × ℕ
  erased_at z = erased_page fewest z (wanted m address bytes)

  abbrev sector_at : ℕ → ℕ → List Cycle
  sector_at z k =
      cond (fewest.leq (over_sector fewest m.shape (keep_at z) k) (erase_cost fewest m.shape (erased_at z) k))
      (pages_of m.shape (keep_cycles z m.image (wanted m address bytes)) k)
      (sector_erase (k * m.shape.pages * z) ∷ pages_of m.shape (presets z (wanted m address bytes)) k)

  -- a sector by the test of its costs
  sector_by :
      (k : ℕ) (b : Bool)
      → sector_list m address bytes (cond (not b) treatment.Erased treatment.Kept) k
      ≡ cond b (sector_list m address bytes treatment.Kept k) (sector_list m address bytes treatment.Erased k)
  sector_by k true = refl
  sector_by k false = refl

  abbrev by_sectors_at : ℕ → List Cycle
  by_sectors_at z = list_to m.shape.sectors (sector_at z)

  abbrev bulk_at : ℕ → List Cycle
  bulk_at z = bulk_erase ∷ list_to m.shape.sectors (pages_of m.shape (presets z (wanted m address bytes)))

  abbrev plan_at : ℕ → List Cycle
  plan_at z =
      cond (free (protected_at m) m.shape.sectors)
      (cond (fewest.leq (sectors_cost fewest m.shape (keep_at z) (erased_at z)) (bulk_cost fewest m.shape (erased_at z))) (by_sectors_at z) (bulk_at z))
      (by_sectors_at z)

  plan_at_lem : plan_at 64 ≡ plan_list m address bytes
  plan_at_lem = ap plan_at (sym S.page)

  module _ (c : Choice) (chosen : Chosen m address bytes c) where
    sectors_list_lem :
        (marks : List Treatment) → Erased m address bytes (Sectors marks) → sectors_list m address bytes marks ≡ by_sectors_at 64
    sectors_list_lem marks e =
        list_same m.shape.sectors _ _
        (λ k l. ap (λ p. sector_list m address bytes p k) (e.1 k l) ∙ sector_by k (fewest.leq (over_sector fewest m.shape (keep_at 64) k) (erase_cost fewest m.shape (erased_at 64) k)))

    bulk_list_lem : bulk_list m address bytes ≡ bulk_at 64
    bulk_list_lem =
        ap (λ l. bulk_erase ∷ l)
        (list_same (m.shape.sectors * m.shape.pages) _ (presets 64 (wanted m address bytes)) (λ j l. ap (presets 64 (wanted m address bytes)) (zero-add j))
        ∙ sym (list_flat (presets 64 (wanted m address bytes)) m.shape.sectors m.shape.pages))

    erased_by : (x : Erasure) → c.erasure ≡ x → Erased m address bytes x
    erased_by x e = subst (λ y. Erased m address bytes y) e chosen.erasure

    pub bulk_is : c.erasure ≡ All → bulk_list m address bytes ≡ plan_list m address bytes
    bulk_is e =
        bulk_list_lem
        ∙ (both (free (protected_at m) m.shape.sectors) (fewest.leq (sectors_cost fewest m.shape (keep_at 64) (erased_at 64)) (bulk_cost fewest m.shape (erased_at 64))) (by_sectors_at 64) (bulk_at 64) (erased_by All e)
        ∙ plan_at_lem)

    pub sectors_are :
        (marks : List Treatment) → c.erasure ≡ Sectors marks → sectors_list m address bytes marks ≡ plan_list m address bytes
    sectors_are marks e =
        let x = erased_by (Sectors marks) e in
        sectors_list_lem marks x
        ∙ (unless_both (free (protected_at m) m.shape.sectors) (fewest.leq (sectors_cost fewest m.shape (keep_at 64) (erased_at 64)) (bulk_cost fewest m.shape (erased_at 64))) (by_sectors_at 64) (bulk_at 64) x.0
        ∙ plan_at_lem)

    -- what the steps of the choice ask for is what those of the plan do
    pub bulk_asks : c.erasure ≡ All → for_pages address bytes treatment.Erased 0 (m.shape.sectors * m.shape.pages) ≡ for_steps m address bytes
    bulk_asks e = sym (cond-true _ _ _ (erased_by All e))

    pub marks_ask :
        (marks : List Treatment) → c.erasure ≡ Sectors marks
        → for_marks m address bytes (λ k. get_or marks k treatment.Kept) m.shape.sectors ≡ for_steps m address bytes
    marks_ask marks e =
        let x = erased_by (Sectors marks) e in
        marks_same m address bytes _ _ m.shape.sectors x.1 ∙ sym (cond-false _ _ _ x.0)

    pub cost_is : c.cost ≡ least_cost fewest m.shape (protected_at m) m.image (wanted m address bytes)
    cost_is =
        chosen.cost
        ∙ ap (λ z. chosen_cost fewest m.shape (free (protected_at m) m.shape.sectors) (keep_at z) (erased_at z)) (sym S.page)

  -- as many steps and data bytes as the least cost says
  pub plan-counts :
      least_cost fewest m.shape (protected_at m) m.image (wanted m address bytes)
      ≡ (length (steps_of (plan_list m address bytes)), length (data_of (plan_list m address bytes)))
  plan-counts =
      sym (plan-spent m.shape (fewest_lawful m.shape.bytes) (protected_at m) m.image (wanted m address bytes))
      ∙ (steps_are_cycles (plan_list m address bytes)).1

  -- only one answer is the lowest
  only : (o o' : Option ℕ) → LowestIs m.shape (protected_at m) m.image (wanted m address bytes) o
      → LowestIs m.shape (protected_at m) m.image (wanted m address bytes) o' → o ≡ o'
  only None None h k = refl
  only None (Some a) h k = absurd (h a k.0)
  only (Some a) None h k = absurd (k a h.0)
  only (Some a) (Some b) h k = go (cases_order a b)
    where
      go : (a ≡ b) ⊎ ((a < b) ⊎ (b < a)) → Some a ≡ Some b
      go (inl e) = ap Some e
      go (inr (inl l)) = absurd (k.1 a l h.0)
      go (inr (inr l)) = absurd (h.1 b l k.0)

  pub lowest_is :
      Fitting m address bytes → ((i : ℕ) → get_or bytes i 0 < 256) → (o : Option ℕ)
      → LowestIs m.shape (protected_at m) m.image (wanted m address bytes) o
      → o ≡ lowest_barred m.shape (protected_at m) m.image (wanted m address bytes)
  lowest_is F small o h =
      only o _ h
      (lowest_found m.shape (protected_at m) m.image (wanted m address bytes) S.imaged
      (imaged-put m.shape address bytes m.image S.imaged small F.inside))

  module _ (step_room data_room : ℕ) (steps steps' : List Step) (sent sent' : List ℕ) where
    abbrev HandedHere : Option ℕ → Result (ℕ × ℕ) PlanFault → Type 0
    HandedHere o r =
        Handed
        (unless_barred o
        (unless_short step_room data_room (least_cost fewest m.shape (protected_at m) m.image (wanted m address bytes)) (plan_list m address bytes)))
        r steps steps' sent sent'

    pub handed_barred :
        (a : ℕ) → Some a ≡ lowest_barred m.shape (protected_at m) m.image (wanted m address bytes) → steps' ≡ steps → sent' ≡ sent
        → Handed (plan_inside m address bytes step_room data_room) (Err (Protected a)) steps steps' sent sent'
    handed_barred a e u v = subst (λ o. HandedHere o (Err (Protected a))) e (refl, u, v)

    module _
        (free' : None ≡ lowest_barred m.shape (protected_at m) m.image (wanted m address bytes)) (cost : ℕ × ℕ)
        (e : cost ≡ least_cost fewest m.shape (protected_at m) m.image (wanted m address bytes)) where
      -- by the tests of room
      by_room :
          (b d : Bool) → leb cost.0 step_room ≡ b → leb cost.1 data_room ≡ d → (r : Result (ℕ × ℕ) PlanFault)
          → Handed
          (cond b
          (cond d (planned cost (steps_of (plan_list m address bytes)) (data_of (plan_list m address bytes)))
          (refused (data_short cost)))
          (refused (steps_short cost)))
          r steps steps' sent sent'
          → Handed (plan_inside m address bytes step_room data_room) r steps steps' sent sent'
      by_room b d t u r h =
          subst (λ o. HandedHere o r) free'
          (subst (λ (y : ℕ × ℕ). Handed (unless_short step_room data_room y (plan_list m address bytes)) r steps steps' sent sent') e
          (subst
          (λ (x : Bool).
          Handed
          (cond x
          (cond (leb cost.1 data_room) (planned cost (steps_of (plan_list m address bytes)) (data_of (plan_list m address bytes)))
          (refused (data_short cost)))
          (refused (steps_short cost)))
          r steps steps' sent sent')
          (sym t)
          (subst
          (λ (x : Bool).
          Handed
          (cond b
          (cond x (planned cost (steps_of (plan_list m address bytes)) (data_of (plan_list m address bytes)))
          (refused (data_short cost)))
          (refused (steps_short cost)))
          r steps steps' sent sent')
          (sym u) h)))

      pub handed_steps :
          step_room < cost.0 → steps' ≡ steps → sent' ≡ sent
          → Handed (plan_inside m address bytes step_room data_room) (Err (StepsShort cost)) steps steps' sent sent'
      handed_steps h u v = by_room false (leb cost.1 data_room) (lt-leb _ _ h) refl (Err (StepsShort cost)) (refl, u, v)

      pub handed_data :
          cost.0 ≤ step_room → data_room < cost.1 → steps' ≡ steps → sent' ≡ sent
          → Handed (plan_inside m address bytes step_room data_room) (Err (DataShort cost)) steps steps' sent sent'
      handed_data h k u v = by_room true false (le-leb _ _ h) (lt-leb _ _ k) (Err (DataShort cost)) (refl, u, v)

      pub handed_plan :
          cost.0 ≤ step_room → cost.1 ≤ data_room
          → steps' ≡ steps_of (plan_list m address bytes) ++ drop (length (steps_of (plan_list m address bytes))) steps
          → sent' ≡ data_of (plan_list m address bytes) ++ drop (length (data_of (plan_list m address bytes))) sent
          → Handed (plan_inside m address bytes step_room data_room) (Ok cost) steps steps' sent sent'
      handed_plan h k u v = by_room true true (le-leb _ _ h) (le-leb _ _ k) (Ok cost) (refl, u, v)

-- what was put fills buffers of exactly its length
sets_all : {A : Type 0} (front : List A) (n : ℕ) (xs : List A) → length front ≡ n → length xs ≡ n → sets front 0 xs ≡ xs
sets_all front n xs e f =
    sets-eq xs front 0 (omega arith) ∙ (ap (λ y. xs ++ y) (drop_all (0 + length xs) front (omega arith)) ∙ append-nil xs)

pub put_all :
    (l : List Cycle) (steps steps' : List Step) (sent sent' : List ℕ) (n d : ℕ) → length steps ≡ n → length sent ≡ d
    → length (steps_of l) ≡ n → length (data_of l) ≡ d → Laid l steps steps' sent sent' → (steps' ≡ steps_of l) × (sent' ≡ data_of l)
put_all l steps steps' sent sent' n d e f u v h =
    let k = length-steps 0 l in
    let p = h (omega arith) (omega arith) in
    (p.0 ∙ sets_all steps n (steps_of l) e u, p.1 ∙ sets_all sent d (data_of l) f v)

-- with nothing due it answers as planning a write does
pub call_idle :
    (m : Meaning) (address : ℕ) (bytes : List ℕ) (step_room data_room : ℕ) → idle m ≡ true
    → plan_call m address bytes step_room data_room ≡ plan_write m.shape (protected_at m) m.image address bytes step_room data_room
call_idle m address bytes step_room data_room k =
    ap (λ (b : Bool). cond (leb (address + length bytes) (size m.shape)) (cond b (plan_inside m address bytes step_room data_room) (refused polls_due)) (refused (past_the_end address))) k
