-- A frame taken apart: its code, the address and the data after it.
use Rattle.std.proofs.Common.{◌≡◌, ℕ, suc, ◌+◌, ◌-◌, ◌*◌, ◌<◌, ◌≤◌, leb, List, [], ◌∷◌, length, get_or, drop, ap, ◌∙◌, arith}
use Rattle.std.proofs.lemmas.List.{get_or-drop, drop-drop}
use Rattle.std.proofs.lemmas.Bool.{cond-true, le-leb}
use Rattle.port.specs.Instructions.{table, lookup}
use Rattle.port.specs.Asks.{ordered, shaped_by, address_in, data_in}

pub ordered_is : (s : List ℕ) (n : ℕ) → 0 < length s
    → ordered s n ≡ shaped_by (lookup table (get_or s 0 0)) (length s - 1) n (address_in (drop 1 s)) (data_in (drop 1 s))
ordered_is [] n h = absurd (omega arith)
ordered_is (x ∷ s) n h =
    let e : length s ≡ suc (length s) - 1 = omega arith in
    ap (λ l. shaped_by (lookup table x) l n (address_in s) (data_in s)) e

pub address_long : (s : List ℕ) → 3 ≤ length (drop 1 s) → address_in (drop 1 s) ≡ get_or s 1 0 * 65536 + get_or s 2 0 * 256 + get_or s 3 0
address_long s h =
    let a = get_or-drop 1 s 0 0 in
    let b = get_or-drop 1 s 1 0 in
    let c = get_or-drop 1 s 2 0 in
    let t = cond-true (leb 3 (length (drop 1 s))) (get_or (drop 1 s) 0 0 * 65536 + get_or (drop 1 s) 1 0 * 256 + get_or (drop 1 s) 2 0) 0 (le-leb _ _ h) in cc

pub data_long : (s : List ℕ) → 3 ≤ length (drop 1 s) → data_in (drop 1 s) ≡ drop 4 s
data_long s h = cond-true _ _ _ (le-leb _ _ h) ∙ drop-drop 3 1 s
