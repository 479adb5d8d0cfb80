-- What is found of a write: pages that it does not touch, a sector's choice, and the choice of all.
use Rattle.std.proofs.Common.{◌≡◌, ℕ, ◌+◌, ◌*◌, Bool, true, false, cond, not, List, [], replicate, Some, None, sym, refl, ap, ◌∙◌, ap₂, zero-add}
use Rattle.std.proofs.lemmas.Option.{none-some}
use Rattle.std.proofs.lemmas.Bool.{cond-false}
use Rattle.memory.specs.Page.{page}
use Rattle.memory.specs.Cycle.{program, alter}
use Rattle.part.specs.Meaning.{Meaning}
use Rattle.least.specs.Cost.{lesser}
use Rattle.least.specs.Fewest.{fewest}
use Rattle.least.specs.Window.{window}
use Rattle.least.specs.Plan.{window_cost, lowers, sending, keep_cycles}
use Rattle.least.specs.Sectors.{bulk_cost}
use Rattle.planner.specs.Wanted.{Fitting, Readable, touched, wanted}
use Rattle.planner.specs.Survey.{below, erased_from, kept, off_from, on_all, on_from, preset, preset_off, preset_on}
use Rattle.least.proofs.Laws.{fewest_lawful}
use Rattle.least.proofs.Sums.{plus_none}
use Rattle.least.proofs.Windows.{window_same}
use Rattle.planner.proofs.Lookings.{length-here, page_off}
use Rattle.planner.proofs.Totals.{sum_both, sum_same, sum_flat}

module _ (m : Meaning) (q : ℕ) (R : Readable m q) (address : ℕ) (bytes : List ℕ) (F : Fitting m address bytes) where
  window_off :
      touched address bytes q ≡ false → window 64 (page 64 q m.image) (page 64 q (wanted m address bytes)) ≡ None
  window_off e =
      ap (λ x. window 64 (page 64 q m.image) x) (page_off m q R address bytes F e)
      ∙ window_same 64 (page 64 q m.image) (length-here m q R)

  pub kept_off : touched address bytes q ≡ false → kept m address bytes q ≡ (0, 0)
  kept_off e = ap (window_cost fewest) (window_off e)

  pub cycles_off : touched address bytes q ≡ false → keep_cycles 64 m.image (wanted m address bytes) q ≡ []
  cycles_off e =
      ap
      (λ o.
      sending (cond (lowers (page 64 q m.image) (page 64 q (wanted m address bytes))) program alter) 64 q
      (page 64 q (wanted m address bytes)) o)
      (window_off e)

  -- once erased it is written as it stands
  pub preset_off_lem :
      (old : List ℕ) → old ≡ page 64 q m.image → touched address bytes q ≡ false
      → window_cost fewest (window 64 (replicate 64 255) old) ≡ preset_off m address bytes q
  preset_off_lem old s e =
      ap (λ x. window_cost fewest (window 64 (replicate 64 255) x)) (s ∙ sym (page_off m q R address bytes F e))
      ∙ sym (cond-false _ _ _ e)

-- the presets of touched pages and of the others are the presets of all
either : (t : Bool) (p : ℕ × ℕ) → fewest.plus (cond t p (0, 0)) (cond t (0, 0) p) ≡ p
either true p = plus_none (fewest_lawful 64) p
either false p = (fewest_lawful 64).none_plus p

pub erased_is :
    (m : Meaning) (a : ℕ) (b : List ℕ) (first count : ℕ) (presets : ℕ × ℕ) → presets ≡ on_from m a b first count
    → fewest.plus (fewest.plus (1, 0) presets) (off_from m a b first count) ≡ erased_from m a b first count
erased_is m a b first count presets e =
    let L = fewest_lawful 64 in
    L.plus_assoc (1, 0) presets (off_from m a b first count)
    ∙ ap (λ x. fewest.plus (1, 0) x)
    (ap (λ x. fewest.plus x (off_from m a b first count)) e
    ∙ sum_both L count (λ j. preset_on m a b (first + j)) (λ j. preset_off m a b (first + j)) (λ j. preset m a b (first + j))
    (λ j. either (touched a b (first + j)) (preset m a b (first + j))))

-- a limit, and a cost that was looked at only while below it
module _ (limit cost : ℕ × ℕ) where
  some_false : (e : ℕ × ℕ) (b : Bool) → Some e ≡ cond b None (Some cost) → (b ≡ false) × (e ≡ cost)
  some_false e true t = absurd (none-some e (sym t))
  some_false e false t = (refl, (cc))

  none_true : (b : Bool) → None ≡ cond b None (Some cost) → b ≡ true
  none_true true t = refl
  none_true false t = absurd (none-some cost t)

  pub below_some : (e : ℕ × ℕ) → Some e ≡ below limit cost → (fewest.leq limit cost ≡ false) × (e ≡ cost)
  below_some e t = some_false e (fewest.leq limit cost) t

  pub below_none : None ≡ below limit cost → fewest.leq limit cost ≡ true
  below_none t = none_true (fewest.leq limit cost) t

  -- the choice between the two
  pub chose_second : (e : ℕ × ℕ) → Some e ≡ below limit cost
      → ◌≡◌ {A = Bool × (ℕ × ℕ)} (true, e) (not (fewest.leq limit cost), lesser fewest limit cost)
  chose_second e t =
      let b = below_some e t in
      ap₂ (λ (x : Bool) (y : ℕ × ℕ). (not x, y)) (sym b.0) (b.1 ∙ sym (ap (λ (x : Bool). cond x limit cost) b.0))

  pub chose_first :
      None ≡ below limit cost → ◌≡◌ {A = Bool × (ℕ × ℕ)} (false, limit) (not (fewest.leq limit cost), lesser fewest limit cost)
  chose_first t =
      let b = below_none t in
      ap₂ (λ (x : Bool) (y : ℕ × ℕ). (not x, y)) (sym b) (sym (ap (λ (x : Bool). cond x limit cost) b))

-- an erase and the presets of all pages
pub bulk_flat :
    (m : Meaning) (address : ℕ) (bytes : List ℕ)
    → erased_from m address bytes 0 (m.shape.sectors * m.shape.pages) ≡ bulk_cost fewest m.shape (preset m address bytes)
bulk_flat m address bytes =
    ap (λ x. fewest.plus (1, 0) x)
    (sum_same fewest (m.shape.sectors * m.shape.pages) _ (preset m address bytes) (λ j l. ap (preset m address bytes) (zero-add j))
    ∙ sym (sum_flat (fewest_lawful 64) (preset m address bytes) m.shape.sectors m.shape.pages))

-- and the presets of all touched pages
pub on_flat : (m : Meaning) (address : ℕ) (bytes : List ℕ) → on_all m address bytes ≡ on_from m address bytes 0 (m.shape.sectors * m.shape.pages)
on_flat m address bytes =
    sum_flat (fewest_lawful 64) (preset_on m address bytes) m.shape.sectors m.shape.pages
    ∙ sum_same fewest (m.shape.sectors * m.shape.pages) (preset_on m address bytes) _ (λ j l. ap (preset_on m address bytes) (sym (zero-add j)))
