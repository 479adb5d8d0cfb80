use Rattle.std.proofs.Common.{◌≡◌, ℕ, ◌^◌, ◌<◌, ◌≤◌, true, false, ◌&&◌, List, [], ◌∷◌, length, Ok, Err, Result, MatchResult, sym, refl, ap, ◌∙◌, arith, rules}
use Rattle.std.specs.List.{list_all}
use Rattle.std.specs.Char.{is_ascii_digit}
use Rattle.std.specs.Str.{all_ascii_digits}
use Rattle.std.specs.Result.{IsErrAnd, OkIff}
use Rattle.std.proofs.lemmas.Str.Parse.{IsNumeralModel, numerals_by_fold, tells_all_ascii_digits, parse_digits}
use Rattle.std.proofs.lemmas.Result.{OkIff-at_ok, OkIff-at_err}
use Rattle.std.proofs.lemmas.Bool.Decides.{nat_tests}
use Rattle.script.specs.declared.fault.Fault.{Fault}
use Rattle.script.specs.declared.fault.Fault.TheVariants.{Large, Number}
use Rattle.script.specs.Spelling.{read_on, decimal_of}
use Rattle.script.proofs.numbers.decimal.Goals as goal
use Rattle.script.proofs.numbers.decimal.Goals.{then-is_empty-via-then-is_empty, then-is_empty-via-else-is_empty+then-not-are_digits}

own : IsNumeralModel (λ ds. all_ascii_digits ds ≡ true) (read_on 0)
own = numerals_by_fold _ tells_all_ascii_digits read_on (search rules)

same_test : (w : List ℕ) → list_all is_ascii_digit w ≡ all_ascii_digits w
same_test [] = refl
same_test (c ∷ cs) = ap (λ b. is_ascii_digit c && b) (same_test cs)

-- a word of digits, by the number that they write
fits : (w : List ℕ) (n : ℕ) → 0 < length w → all_ascii_digits w ≡ true → read_on 0 w < 2 ^ 64 → n ≡ read_on 0 w → Ok n ≡ decimal_of w
unfolding decimal_of
fits w n some all small e = grind (arith, nat_tests)

large : (w : List ℕ) → 0 < length w → all_ascii_digits w ≡ true → (read_on 0 w < 2 ^ 64 → ⊥) → Err Large ≡ decimal_of w
unfolding decimal_of
large w some all h =
    let most : 2 ^ 64 ≤ read_on 0 w = omega (arith, h) in grind (arith, nat_tests)

answered : {E : Type 0} (w : List ℕ) (p : Result ℕ E) (r : Result ℕ Fault) (Q : E → Fault → Type 0) → 0 < length w → all_ascii_digits w ≡ true
    → OkIff p (0 < length w × read_on 0 w < 2 ^ 64) (read_on 0 w) → MatchResult p (λ n. r ≡ Ok n) (λ e. IsErrAnd r (Q e))
    → ((e : E) (f : Fault) → Q e f → f ≡ Large) → r ≡ decimal_of w
answered {E} w (Ok n) r Q some all h m q = let k : (0 < length w × read_on 0 w < 2 ^ 64) × (n ≡ read_on 0 w) = OkIff-at_ok {E = E} (Ok n) (0 < length w × read_on 0 w < 2 ^ 64) (read_on 0 w) n h refl in m ∙ fits w n some all k.0.1 k.1
answered w (Err e) (Ok n) Q some all h m q = absurd m
answered {E} w (Err e) (Err f) Q some all h m q = ap Err (q e f m) ∙ large w some all (λ l. OkIff-at_err {E = E} (Err e) (0 < length w × read_on 0 w < 2 ^ 64) (read_on 0 w) e h refl (some, l))

wrong : (w : List ℕ) → all_ascii_digits w ≡ false → Err Number ≡ decimal_of w
unfolding decimal_of
wrong w e = grind (arith, nat_tests)

none : (w : List ℕ) → length w ≡ 0 → Err Number ≡ decimal_of w
unfolding decimal_of
none w e = grind (arith, nat_tests)

pub returns-then-is_empty : goal.returns-then-is_empty
returns-then-is_empty c =
    let s = same_test c.args.word.now in
    elim c.then-is_empty.branch [
      | then-is_empty-via-then-is_empty w ↦ none c.args.word.now (search rules)
      | then-is_empty-via-else-is_empty+then-not-are_digits w ↦
          wrong c.args.word.now (sym s ∙ ap (list_all is_ascii_digit) (sym w.as_bytes.ensures.value) ∙ sym w.if-not-are_digits.ensures)
    ]

pub returns : goal.returns
returns c =
    let word = c.args.word.now in
    let all : all_ascii_digits word ≡ true = sym (same_test word) ∙ ap (list_all is_ascii_digit) (sym c.as_bytes.ensures.value) ∙ sym c.if-not-are_digits.ensures in
    let some : 0 < length word = search rules in
    let h = parse_digits own 64 word c.parse.result c.parse.ensures.value.0 all in
    answered word c.parse.result c.map_err.result _ some all h c.map_err.ensures.cases (λ e f k. search rules)
