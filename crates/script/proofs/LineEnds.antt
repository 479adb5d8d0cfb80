-- Line ends before a place in a text, and after its first line.
use Rattle.std.proofs.Common.{◌≡◌, ℕ, ◌+◌, ◌<◌, ◌≤◌, Bool, true, false, List, [], ◌∷◌, ◌++◌, length, take, drop, cond, nat_eq, encode_utf8, sym, ap, ◌∙◌, arith}
use Rattle.std.specs.Str.Lines.{IsFirstLine}
use Rattle.std.proofs.lemmas.Bool.{eqb-true}
use Rattle.std.proofs.lemmas.List.{length-drop, take-append-drop}
use Rattle.std.proofs.lemmas.List.Sums.{sum_by-append, sum_by-cons, sum_by-take-le}
use Rattle.std.proofs.lemmas.Str.{encode_ascii}
use Rattle.script.specs.Lines.{line_ends, line_of}

pub of_line_in : (at : ℕ) (text : List ℕ) → line_of at text ≤ 1 + line_ends text
of_line_in at text = let h = sum_by-take-le (λ b. cond (nat_eq b 10) 1 0) text at in omega (arith, h)

at_most_one : (b : Bool) → cond b 1 0 ≤ 1
at_most_one true = omega arith
at_most_one false = omega arith

pub ends_few : (text : List ℕ) → line_ends text ≤ length text
ends_few [] = omega arith
ends_few (b ∷ bs) = omega (arith, ends_few bs, at_most_one (nat_eq b 10), sum_by-cons (λ x. cond (nat_eq x 10) 1 0) b bs)

-- a line that another follows takes a line end
pub ends_after : (w x rest : List ℕ) → IsFirstLine w x rest → 0 < length rest → 1 + line_ends rest ≤ line_ends w
ends_after w x rest h some =
    let n : ℕ = h.0 in
    let f : ℕ → ℕ = λ b. cond (nat_eq b 10) 1 0 in
    let o = h.2 (omega (arith, h.3, some, length-drop n w)) in
    let after : drop n w ≡ 10 ∷ rest = o.2 ∙ ap (λ d. encode_utf8 d ++ rest) (eqb-true o.0 10 o.1) ∙ ap (λ v. v ++ rest) (encode_ascii 10 (omega arith)) in
    let whole : line_ends w ≡ line_ends (take n w) + line_ends (10 ∷ rest) =
    ap line_ends (sym (take-append-drop n w) ∙ ap (λ v. take n w ++ v) after) ∙ sum_by-append f (take n w) (10 ∷ rest) in
    let one = sum_by-cons f 10 rest in
    omega (arith, whole, one)
