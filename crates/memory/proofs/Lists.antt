-- Lists of cycles: one after another, and what none of them changes.
use Rattle.std.proofs.Common.{◌≡◌, ℕ, ◌<◌, Bool, true, List, [], ◌∷◌, ◌++◌, sym, ap, ◌∙◌, subst}
use Rattle.std.proofs.lemmas.Bool.{and_parts, and_from}
use Rattle.memory.specs.Shape.{Shape}
use Rattle.memory.specs.Cycle.{Cycle, effect, leads, Goes}
use Rattle.memory.proofs.Pages.{Real, Whole, sector_of}
use Rattle.memory.proofs.Cycles.{length-effect, guarded}

pub goes_join :
    (m : Shape) (prot : ℕ → Bool) (l k : List Cycle) (from mid to : List ℕ)
    → Goes m prot from l mid → Goes m prot mid k to → Goes m prot from (l ++ k) to
goes_join m prot [] k from mid to a b = subst (λ y. Goes m prot y k to) (sym a.1) b
goes_join m prot (c ∷ l) k from mid to a b =
    let u = and_parts _ _ a.0 in
    let r = goes_join m prot l k (effect m c from) mid to (u.1, a.1) b in (and_from _ _ u.0 r.0, r.1)

module _ (m : Shape) (R : Real m) (prot : ℕ → Bool) where
  -- a list broken off after its front: the rest goes from there
  pub goes-rest :
      (l k : List Cycle) (from to : List ℕ) → Whole m from → Goes m prot from (l ++ k) to
      → Goes m prot (leads m l from) k to × Whole m (leads m l from)
  goes-rest [] k from to e g = (g, e)
  goes-rest (c ∷ l) k from to e g =
      let a = and_parts _ _ g.0 in goes-rest l k (effect m c from) to (length-effect m R prot c from e a.0) (a.1, g.1)

  -- an accepted list leaves a protected sector as it was
  pub sector-stays :
      (k : ℕ) (closed : prot k ≡ true) (inside : k < m.sectors) (l : List Cycle) (from to : List ℕ) → Whole m from
      → Goes m prot from l to → sector_of m k from ≡ sector_of m k to
  sector-stays k closed inside [] from to e g = ap (sector_of m k) g.1
  sector-stays k closed inside (c ∷ l) from to e g =
      let a = and_parts _ _ g.0 in
      sym (guarded m R prot k closed inside c from e a.0)
      ∙ sector-stays k closed inside l (effect m c from) to (length-effect m R prot c from e a.0) (a.1, g.1)
