-- What the calls to a slow image do, from what they do to the plain image in it.
use Rattle.std.specs.Prelude.{if◌then◌else◌}
use Rattle.std.proofs.Common.{◌≡◌, ℕ, ◌+◌, ◌-◌, Bool, true, false, cond, [], ◌∷◌, is_ok, Ok, Err, Result, sym, refl, ap, ap₂, ◌∙◌, arith}
use Rattle.std.proofs.lemmas.Bool.{eqb-true}
use Rattle.memory.specs.Cycle.{Cycle, accepts}
use Rattle.part.specs.declared.fault.PartFault.{PartFault}
use Rattle.part.specs.declared.plain.PlainImage.{PlainImage}
use Rattle.part.specs.Meaning.{Meaning, Played, asked, carried, none, cycle, done, protected_at, waited}
use Rattle.part.specs.Plain.{plainly}
use Rattle.part.specs.Verdict.{idle, read_verdict, told}
use Rattle.part.proofs.Refusals.{read-inside, unrefused}
use Rattle.part.proofs.Playing.{played_none, played_read, played_cycle}
use Rattle.side_by_side.specs.declared.slow.SlowImage.{SlowImage}
use Rattle.side_by_side.specs.Slowly.{due_in, slowly}

-- one poll is due of a plain image while it is busy
same_busy : (b c : Bool) → ◌≡◌ {A = ℕ} (cond b 1 0) (cond c 1 0) → b ≡ c
same_busy true true e = refl
same_busy true false e = absurd (omega (arith, e))
same_busy false true e = absurd (omega (arith, e))
same_busy false false e = refl

rests : (b : Bool) (n : ℕ) → ◌≡◌ {A = ℕ} (cond b 1 0) 0 → cond b n 0 ≡ 0
rests true n e = absurd (omega (arith, e))
rests false n e = refl

works : (b : Bool) (n : ℕ) → ◌≡◌ {A = ℕ} (cond b 1 0) 1 → cond b n 0 ≡ n
works true n e = refl
works false n e = absurd (omega (arith, e))

pub slowly_same : (s : SlowImage) (q : PlainImage) → plainly q ≡ plainly s.plain → slowly (record { plain = q; left = s.left; busy_number = s.busy_number }) ≡ slowly s
slowly_same s q e =
    ap₂ (λ x y. due_in x y) (ap (λ (b : Bool). cond b (s.left + 1) 0) (same_busy q.busy s.plain.busy (ap (λ (m : Meaning). m.due) e))) e

pub slow_read : (s : SlowImage) (q : PlainImage) (address n : ℕ) (r : Result (Unit {0}) PartFault)
    → r ≡ told (read_verdict (plainly s.plain) address n) → plainly q ≡ plainly s.plain
    → Played (λ k. k ≡ s.busy_number + 1) (slowly s) (if is_ok r then asked n ∷ [] else []) (slowly (record { plain = q; left = s.left; busy_number = s.busy_number }))
slow_read s q address n (Ok u) e same =
    let i = read-inside (plainly s.plain).shape (idle (plainly s.plain)) address n (sym (unrefused _ e)) in
    played_read _ _ n (rests s.plain.busy (s.left + 1) (eqb-true _ _ i.1)) (slowly_same s q same)
slow_read s q address n (Err f) e same = played_none _ _ (slowly_same s q same)

played_one : (a b : Meaning) (y : Cycle) → Played (λ k. k ≡ 1) a (carried y ∷ []) b
    → (a.due ≡ 0) × (accepts a.shape (protected_at a) y a.image ≡ true) × (b ≡ done 1 a y)
played_one a _ y (cycle k t d e none) = (d, e, ap (λ x. done x a y) t)

pub slow_cycle : (s : SlowImage) (q : PlainImage) (y : Cycle) → Played (λ k. k ≡ 1) (plainly s.plain) (carried y ∷ []) (plainly q)
    → Played (λ k. k ≡ s.busy_number + 1) (slowly s) (carried y ∷ []) (slowly (record { plain = q; left = s.busy_number; busy_number = s.busy_number }))
slow_cycle s q y p =
    let o = played_one (plainly s.plain) (plainly q) y p in
    let due = works q.busy (s.busy_number + 1) (ap (λ (m : Meaning). m.due) o.2) in
    let e : due_in (cond q.busy (s.busy_number + 1) 0) (plainly q) ≡ done (s.busy_number + 1) (slowly s) y = ap₂ (λ x y. due_in x y) due o.2 in
    played_cycle _ _ y (s.busy_number + 1) refl (rests s.plain.busy (s.left + 1) o.0) o.1 e

-- the poll that finds it idle, and one that does not
pub slow_last : (s : SlowImage) (q : PlainImage) → s.left ≡ 0 → plainly q ≡ waited (plainly s.plain)
    → slowly (record { plain = q; left = s.left; busy_number = s.busy_number }) ≡ waited (slowly s)
slow_last s q z e =
    ap (λ n. due_in (cond q.busy (n + 1) 0) (plainly q)) z
    ∙ ap₂ (λ x y. due_in x y) (ap (λ (m : Meaning). m.due) e) e
    ∙ sym (ap (λ n. waited (due_in (cond s.plain.busy (n + 1) 0) (plainly s.plain))) z)

one_less : (b : Bool) (n k : ℕ) → n ≡ k + 1 → cond b n 0 ≡ cond b (n + 1) 0 - 1
one_less true n k e = omega arith
one_less false n k e = refl

pub slow_more : (s : SlowImage) (k : ℕ) → s.left ≡ k + 1
    → slowly (record { plain = s.plain; left = k; busy_number = s.busy_number }) ≡ waited (slowly s)
slow_more s k e =
    ap (λ n. due_in (cond s.plain.busy n 0) (plainly s.plain)) (sym e)
    ∙ ap (λ d. due_in d (plainly s.plain)) (one_less s.plain.busy s.left k e)
