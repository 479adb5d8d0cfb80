-- Traces joined. These are lemmas; they stand here since the law `joins` of a port is proved in src/, and src/ cites of its
-- own crate the definitions alone.
use Rattle.std.specs.Prelude.{◌≡◌, ℕ, List, ◌++◌}
use Rattle.std.proofs.Common.{arith}
use Rattle.port.specs.Chip.{Chip}
use Rattle.port.specs.Machine.{Frame, Runs, none, step}
use Rattle.port.specs.declared.bus.Side.{Side}
use Rattle.port.specs.declared.bus.Side.TheVariants.{First, Second}
use Rattle.port.specs.Bus.{OnSide, by_side}
use Rattle.port.specs.Acts as acts
use Rattle.port.specs.Acts.{Acts}

pub runs-++ : {k : ℕ} {a b c : Chip} {l m : List Frame} → Runs k a l b → Runs k b m c → Runs k a (l ++ m) c
runs-++ none q = q
runs-++ (step p) q = step (runs-++ p q)

-- a cycle sets one busy count or another
pub runs_act : {k : ℕ} {a b : Chip} {l : List Frame} → Runs k a l b → Acts a l b
runs_act none = acts.none
runs_act {k = k} (step p) = acts.step k (runs_act p)

-- what holds on either side of a bus
pub of_side : {P Q R : Type 0} (s : Side) → OnSide s P Q → (P → R) → (Q → R) → R
of_side First p f g = f p
of_side Second q f g = g q

pub side_acts : {P Q : Type 0} {a a' b b' : Chip} {l : List Frame} (s t : Side) → s ≡ t → OnSide s P Q → (P → Acts a l b) → (Q → Acts a' l b')
    → Acts (by_side s a a') l (by_side t b b')
side_acts First First e p f g = f p
side_acts Second Second e q f g = g q
side_acts First Second e p f g = let z : ◌≡◌ {A = ℕ} 0 1 = cc in absurd (omega arith)
side_acts Second First e q f g = let z : ◌≡◌ {A = ℕ} 0 1 = cc in absurd (omega arith)

-- what holds on the chosen side of a bus
pub on_side : {P P' P'' Q Q' Q'' : Type 0} (s t : Side) → s ≡ t → OnSide s P Q → OnSide t P' Q' → (P → P' → P'') → (Q → Q' → Q'') → OnSide s P'' Q''
on_side First First e p q f g = f p q
on_side Second Second e p q f g = g p q
on_side First Second e p q f g = let z : ◌≡◌ {A = ℕ} 0 1 = cc in absurd (omega arith)
on_side Second First e p q f g = let z : ◌≡◌ {A = ℕ} 0 1 = cc in absurd (omega arith)
