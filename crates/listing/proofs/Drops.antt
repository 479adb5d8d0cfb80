-- What is left of a text, read at its start.
use Rattle.std.proofs.Common.{◌≡◌, ℕ, ◌+◌, ◌-◌, ◌<◌, ◌≤◌, List, length, get_or, take, drop, None, Some, Option, Ok, Err, sym, refl, ap, ◌∙◌, add-zero, arith}
use Rattle.std.proofs.Math.Nat.{suc-ne-zero}
use Rattle.std.specs.Option.{ok_or}
use Rattle.std.proofs.lemmas.List.{get_or-drop, length-drop, take_rest}
use Rattle.listing.specs.Scan.{pair_of}

pub first_left : (t : List ℕ) (i : ℕ) → get_or (drop i t) 0 0 ≡ get_or t i 0
first_left t i = get_or-drop i t 0 0 ∙ ap (λ n. get_or t n 0) (add-zero i)

-- what `ok_or` and `?` leave known
pub lacked : {X E : Type 0} (o : Option X) (g f : E) → Err f ≡ ok_or o g → (o ≡ None) × (f ≡ g)
lacked None g f e = (refl, let h : f ≡ g = cc in h)
lacked (Some x) g f e = absurd (suc-ne-zero 0 cc)

pub had : {X E : Type 0} (o : Option X) (g : E) (x : X) → Ok x ≡ ok_or o g → o ≡ Some x
had None g x e = absurd (suc-ne-zero 0 cc)
had (Some y) g x e = let h : y ≡ x = cc in ap (λ z. Some z) h

-- no pair, or one, at a place of a text
module _ (t : List ℕ) (i : ℕ) {o : Option ℕ} (e : o ≡ pair_of (take (length t - i) (drop i t))) where
  pub pair_at : pair_of (drop i t) ≡ o
  pair_at = sym (e ∙ ap pair_of (take_rest t i))

-- a part of a text that something stands in reaches into the text
pub reaches : (t : List ℕ) (i k : ℕ) → 0 < k → k ≤ length (take (length t - i) (drop i t)) → i + k ≤ length t
reaches t i k p h =
    let e = ap length (take_rest t i) in
    let n = length-drop i t in omega arith
