use Rattle.std.proofs.Common.{◌≡◌, ℕ, ◌+◌, ◌*◌, ◌<◌, List, length, get_or, set, sym, ap, ◌∙◌, ap₂, ⊎_elim, arith, get_or-set_other, get_or-set_same, le_of_eq}
use Rattle.std.proofs.lemmas.Bool.{cases_eq}
use Rattle.part.specs.Meaning.{Meaning}
use Rattle.planner.specs.declared.chosen.Treatment.{Treatment}
use Rattle.planner.specs.declared.chosen.Treatment.TheVariants.{Kept}
use Rattle.least.specs.Fewest.{fewest}
use Rattle.least.specs.Sectors.{over_sector, sector_cost}
use Rattle.planner.specs.Asking.{for_costs, for_sectors}
use Rattle.planner.specs.Survey.{kept, preset, preset_on, sector_treatment}
use Rattle.planner.proofs.Askings.{sectors_more}
use Rattle.planner.proofs.Lookings.{looked_join}
use Rattle.planner.proofs.Totals.{parts, sum_more}
use Rattle.planner.proofs.choice.sector_costs.Goals as goal

-- one more mark
marked :
    (marks : List Treatment) (f : ℕ → Treatment) (k : ℕ) (v : Treatment) → k < length marks → v ≡ f k
    → ((i : ℕ) → i < k → get_or marks i Kept ≡ f i) → (i : ℕ) → i < k + 1 → get_or (set marks k v) i Kept ≡ f i
marked marks f k v h e before i l =
    ⊎_elim (λ t. ap (λ x. get_or (set marks k v) x Kept) t ∙ (get_or-set_same marks k v Kept h ∙ (e ∙ ap f (sym t))))
    (λ d. get_or-set_other marks k i v Kept d ∙ before i (omega arith)) (cases_eq i k)

pub loop-k-preserved : goal.loop-k-preserved
loop-k-preserved g c =
    let inv = c.loop-k.invariant in
    let sector = c.sector_cost-sector.ensures in
    let a = c.args.write.address in
    let b = c.args.write.bytes.now in
    let k = c.loop-k.k in
    let m = g.P.Part.meaning c.args.part.now in
    let few = c.requires.0.sound.few in
    let cost = parts _ _ _ c.add_assign.ensures.after.0 in
    let presets = parts _ _ _ c.add_assign.ensures.after.1 in (
      looked_join g.P.Part g.met.P.Part.joins _ _ _ _ _ _ inv.0 sector.looked
          (le_of_eq
          (ap (λ (x : Meaning). for_sectors m a b k + for_costs x a b (k * x.shape.pages) x.shape.pages) inv.0.same ∙ sym (sectors_more m a b k))),
      (omega (arith, inv.1, sector.bound, cost.0), omega (arith, inv.1, sector.bound, cost.1)),
      (omega (arith, inv.2, sector.bound, presets.0), omega (arith, inv.2, sector.bound, presets.1)),
      c.add_assign.ensures.after.0
          ∙ ap₂ (λ x y. fewest.plus x y) inv.3
          (sector.value ∙ ap (λ x. sector_cost fewest x.shape (kept x a b) (preset x a b) k) inv.0.same)
          ∙ sym (sum_more fewest k (sector_cost fewest m.shape (kept m a b) (preset m a b))),
      marked c.loop-k.marks (sector_treatment m a b) k c.sector_cost-sector.result.treatment (omega arith)
          (sector.treatment ∙ ap (λ x. sector_treatment x a b k) inv.0.same) inv.4,
      c.add_assign.ensures.after.1
          ∙ ap₂ (λ x y. fewest.plus x y) inv.5
          (sector.touched ∙ ap (λ x. over_sector fewest x.shape (preset_on x a b) k) inv.0.same)
          ∙ sym (sum_more fewest k (over_sector fewest m.shape (preset_on m a b))),
    )
