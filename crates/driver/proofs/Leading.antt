-- The image that frames leave of a chip, by the cycles that they carry out.
use Rattle.std.specs.Prelude.{◌≡◌, ℕ, Bool, true, false, cond, List, [], ◌∷◌, ◌++◌, refl}
use Rattle.memory.specs.Cycle.{Cycle, effect, leads}
use Rattle.port.specs.Chip.{Chip, shape}
use Rattle.port.specs.Asks.{Ask, enable, disable, status, identify, read, cycle, unknown}
use Rattle.port.specs.Machine.{Frame, hears, takes, done, act}
use Rattle.driver.specs.Carries.{Carries, none, step, carried_out}

taken :
    (t : Bool) (k : ℕ) (c : Chip) (y : Cycle) (ys : List Cycle) (to : List ℕ)
    → leads (shape (cond t (done k c (effect (shape c) y c.image)) c)) ys (cond t (done k c (effect (shape c) y c.image)) c).image ≡ to
    → leads (shape c) (cond t (y ∷ []) [] ++ ys) c.image ≡ to
taken true k c y ys to p = p
taken false k c y ys to p = p

-- what is heard, and the cycles after it
heard-leads : (k : ℕ) (c : Chip) (x : Ask) (ys : List Cycle) (to : List ℕ)
    → leads (shape (act k c x)) ys (act k c x).image ≡ to → leads (shape c) (carried_out c x ++ ys) c.image ≡ to
heard-leads k c enable ys to p = p
heard-leads k c disable ys to p = p
heard-leads k c status ys to p = p
heard-leads k c identify ys to p = p
heard-leads k c (read address) ys to p = p
heard-leads k c (cycle y) ys to p = taken (takes c y) k c y ys to p
heard-leads k c unknown ys to p = p

-- the image that frames leave is the one that the cycles which they carry out lead to
pub carries-leads : {c d : Chip} {fs : List Frame} {ys : List Cycle} → Carries c fs d ys → leads (shape c) ys c.image ≡ d.image
carries-leads none = refl
carries-leads {c} {d} (step {f} {ys = rest} k p) = heard-leads k c (hears c f) rest d.image (carries-leads p)
