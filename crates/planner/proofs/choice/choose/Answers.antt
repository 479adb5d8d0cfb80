use Rattle.std.proofs.Common.{◌≡◌, ℕ, ◌+◌, ◌*◌, cond, List, None, Option, ap, ap₂, ◌∙◌, le_of_eq}
use Rattle.memory.specs.Protection.{free}
use Rattle.part.specs.Meaning.{Meaning, protected_at}
use Rattle.least.specs.Fewest.{fewest}
use Rattle.least.specs.Sectors.{bulk_cost}
use Rattle.planner.specs.Asking.{bytes_below, for_bulk, for_sectors}
use Rattle.planner.specs.Survey.{below, by_sectors, on_all, preset}
use Rattle.planner.proofs.Lookings.{looked_join}
use Rattle.planner.proofs.choice.choose.Goals as goal

-- what the look at a bulk erase answered
abbrev answered : Meaning → ℕ → List ℕ → ℕ × ℕ → Option (ℕ × ℕ)
answered m a b limit = cond (free (protected_at m) m.shape.sectors) (below limit (bulk_cost fewest m.shape (preset m a b))) None

-- and asked for
asked :
    (m n : Meaning) (a : ℕ) (b : List ℕ) (limit presets : ℕ × ℕ) → n ≡ m → limit ≡ by_sectors m a b → presets ≡ on_all m a b
    → for_sectors m a b m.shape.sectors
    + cond (free (protected_at n) n.shape.sectors) (bytes_below n a b limit (fewest.plus (1, 0) presets) 0 (n.shape.sectors * n.shape.pages)) 0
    ≡ for_sectors m a b m.shape.sectors + for_bulk m a b
asked m n a b limit presets same u v =
    let bulk : Meaning → ℕ × ℕ → ℕ × ℕ → ℕ = λ x l c.
    for_sectors m a b m.shape.sectors
    + cond (free (protected_at x) x.shape.sectors) (bytes_below x a b l (fewest.plus (1, 0) c) 0 (x.shape.sectors * x.shape.pages)) 0 in
    ap (λ (x : Meaning). bulk x limit presets) same ∙ ap₂ (λ (x y : ℕ × ℕ). bulk m x y) u v

pub returns-in-Some-clause-looked : goal.returns-in-Some-clause-looked
returns-in-Some-clause-looked g c =
    let sectors = c.sector_costs-sectors.ensures.looked in
    let costs = c.sector_costs-sectors.ensures in
    looked_join g.P.Part g.met.P.Part.joins _ _ _ _ _ _ sectors c.in-Some.ensures.looked
    (le_of_eq
    (asked (g.P.Part.meaning c.args.part.now) _ c.args.write.address c.args.write.bytes.now c.sector_costs-sectors.result.cost c.sector_costs-sectors.result.presets
    sectors.same costs.value costs.touched))

pub returns-in-None-clause-looked : goal.returns-in-None-clause-looked
returns-in-None-clause-looked g c =
    let sectors = c.sector_costs-sectors.ensures.looked in
    let costs = c.sector_costs-sectors.ensures in
    looked_join g.P.Part g.met.P.Part.joins _ _ _ _ _ _ sectors c.in-None.ensures.looked
    (le_of_eq
    (asked (g.P.Part.meaning c.args.part.now) _ c.args.write.address c.args.write.bytes.now c.sector_costs-sectors.result.cost c.sector_costs-sectors.result.presets
    sectors.same costs.value costs.touched))
