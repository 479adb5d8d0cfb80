-- Planning a write answers what holds, check by check.
use Rattle.std.proofs.Common.{◌≡◌, ℕ, ◌+◌, ◌≤◌, Bool, true, false, cond, leb, List, length, Some, None, Option, sym, refl, ap, ◌∙◌, subst}
use Rattle.std.proofs.lemmas.Bool.{leb-true, leb-false}
use Rattle.memory.specs.Shape.{Shape, size, Imaged}
use Rattle.memory.specs.Page.{put}
use Rattle.memory.specs.Cycle.{Cycle}
use Rattle.memory.proofs.Bounds.{imaged-put}
use Rattle.least.specs.Barred.{LowestIs, lowest_barred}
use Rattle.least.specs.Fewest.{fewest}
use Rattle.least.specs.Plan.{least_cost, plan}
use Rattle.least.specs.Steps.{steps_of, data_of, cycles_of}
use Rattle.least.specs.Writes.{Answer, refused, planned, past_the_end, steps_short, data_short, unless_barred, unless_short, plan_to}
use Rattle.least.specs.Theorems.{LeastBy, Says, outside, barred, few_steps, few_data, written, WritesAnswered}
use Rattle.least.proofs.Laws.{fewest_lawful}
use Rattle.least.proofs.Least.{least_holds}
use Rattle.least.proofs.Stepped.{steps_are_cycles}
use Rattle.least.proofs.Unreached.{none_leads, lowest_found}
use Rattle.least.proofs.Theorems.{plan-reaches}

module _ (m : Shape) (prot : ℕ → Bool) (image : List ℕ) (address : ℕ) (bytes : List ℕ) (step_room data_room : ℕ) where
  abbrev wanted : List ℕ
  wanted = put address bytes image

  abbrev SaysHere : Answer → Type 0
  SaysHere a = Says m prot image address bytes step_room data_room a

  -- a list of least cost, if there is room
  short_says :
      address + length bytes ≤ size m → (l : List Cycle) (cost : ℕ × ℕ) → LeastBy m prot image wanted l cost
      → SaysHere (unless_short step_room data_room cost l)
  short_says inside l cost by = go (leb cost.0 step_room) refl (leb cost.1 data_room) refl
    where
      counts : cost ≡ (length (steps_of l), length (data_of l))
      counts = sym by.costs ∙ (steps_are_cycles l).1

      again : LeastBy m prot image wanted (cycles_of (data_of l) (steps_of l)) cost
      again = subst (λ k. LeastBy m prot image wanted k cost) (sym (steps_are_cycles l).0) by

      go :
          (b : Bool) → leb cost.0 step_room ≡ b → (c : Bool) → leb cost.1 data_room ≡ c
          → SaysHere (cond b (cond c (planned cost (steps_of l) (data_of l)) (refused (data_short cost))) (refused (steps_short cost)))
      go true t true u =
          written cost (steps_of l) (data_of l) inside again counts
          (subst (λ y. y ≤ step_room) (ap (λ y. y.0) counts) (leb-true _ _ t))
          (subst (λ y. y ≤ data_room) (ap (λ y. y.1) counts) (leb-true _ _ u))
      go true t false u = few_data l cost inside by (leb-true _ _ t) (leb-false _ _ u)
      go false t c u = few_steps l cost inside by (leb-false _ _ t)

  inside_says :
      Imaged m image → Imaged m wanted → address + length bytes ≤ size m → SaysHere (plan_to m prot image wanted step_room data_room)
  inside_says I W inside = go (lowest_barred m prot image wanted) (lowest_found m prot image wanted I W)
    where
      go :
          (o : Option ℕ) → LowestIs m prot image wanted o
          → SaysHere
          (unless_barred o
          (unless_short step_room data_room (least_cost fewest m prot image wanted) (plan fewest m prot image wanted)))
      go None none =
          let L = fewest_lawful m.bytes in
          let r = plan-reaches fewest m L prot image wanted I W none in
          short_says inside (plan fewest m prot image wanted) (least_cost fewest m prot image wanted)
          (record {
            goes = r.0;
            costs = r.1;
            least = λ k g. least_holds m L prot wanted W.whole k image I.whole g;
          })
      go (Some a) lowest = barred a inside lowest (λ l g. none_leads m prot image wanted I W a lowest.0 l g)

pub writes_answered : WritesAnswered
writes_answered m prot image I address bytes small step_room data_room = go (leb (address + length bytes) (size m)) refl
  where
    go :
        (b : Bool) → leb (address + length bytes) (size m) ≡ b
        → Says m prot image address bytes step_room data_room
        (cond b (plan_to m prot image (put address bytes image) step_room data_room) (refused (past_the_end address)))
    go true t =
        let inside = leb-true _ _ t in
        inside_says m prot image address bytes step_room data_room I (imaged-put m address bytes image I small inside) inside
    go false t = outside (leb-false _ _ t)
