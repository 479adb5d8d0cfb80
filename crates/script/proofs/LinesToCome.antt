-- The lines of a text that are still to come, one at a time.
use Rattle.std.proofs.Common.{◌≡◌, ◌≢◌, ℕ, ◌+◌, true, List, [], ◌∷◌, length, arith, Ok, Err, is_ok, Result, MatchResult, Some, None, Option, Bor, sym, refl, ap, ◌∙◌, subst}
use Rattle.std.specs.Result.{IsErrAnd}
use Rattle.std.specs.Str.Iter.{lines_rest, lines_steps}
use Rattle.std.proofs.lemmas.Iterator.{YieldsList}
use Rattle.script.specs.declared.fault.Fault.{Fault}
use Rattle.script.specs.declared.fault.Fault.TheVariants.{NoMemory}
use Rattle.script.specs.declared.fault.ScriptFault.{ScriptFault}
use Rattle.script.specs.Meaning.{Said, State, line_said, lines_said, ended, on_line}
use Rattle.script.specs.Results.{Gives, Reads}

pub next_line : {s t : _} (x : Bor (List ℕ)) (lines : List (List ℕ)) → YieldsList lines_steps (λ y. y.now) s lines → lines_steps s (Some x) t
    → (more : List (List ℕ)) × (lines ≡ x.now ∷ more) × YieldsList lines_steps (λ y. y.now) t more
next_line {s} {t} x [] y h = absurd (y.runs x t h)
next_line {s} {t} x (l ∷ more) y h =
    let k = y.runs.1 x t h in
    (more, ap (λ v. v ∷ more) (sym k.0), record { runs = k.1 })

pub no_line : {s t : _} (lines : List (List ℕ)) → YieldsList lines_steps (λ y. y.now) s lines → lines_steps s None t → lines ≡ []
no_line [] y h = refl
no_line {s} {t} (l ∷ more) y h = absurd (y.runs.0 t h)

pub none_there : {s : _} (lines : List (List ℕ)) → YieldsList lines_steps (λ y. y.now) s lines → length (lines_rest s) ≡ 0 → lines ≡ []
none_there [] y h = refl
none_there {s} (l ∷ more) y h = absurd (y.runs.0 s ((h, refl), λ some. absurd (omega (arith, h))))

-- what is said once a result is known to be there
pub ok_said : {A B : Type 0} (v : B) (r : Result A Fault) (said : Result B Fault) → Gives (λ _. v) r said → is_ok r ≡ true → said ≡ Ok v
ok_said v (Ok x) said g h = g
ok_said v (Err fault) said g h = absurd (cc)

pub line_read : (last n : ℕ) (s t : Option State) (line : List ℕ) (more : List (List ℕ)) → line_said s line ≡ Ok t → lines_said last s n (line ∷ more) ≡ lines_said last t (n + 1) more
unfolding lines_said
line_read last n s t line more e = ap (λ r. on_line n r (λ later. lines_said last later (n + 1) more)) e

line_wrong : (last n : ℕ) (s : Option State) (line : List ℕ) (more : List (List ℕ)) (fault : Fault) → line_said s line ≡ Err fault → lines_said last s n (line ∷ more) ≡ Err (record { line = n; fault = fault })
unfolding lines_said
line_wrong last n s line more fault e = ap (λ r. on_line n r (λ later. lines_said last later (n + 1) more)) e

-- a fault of a line, told with its number
pub told : {A : Type 0} (last n : ℕ) (s t : Option State) (line : List ℕ) (more : List (List ℕ)) (r : Result A Fault) (m : Result A ScriptFault) (Q : Fault → ScriptFault → Type 0)
    → Gives (λ _. t) r (line_said s line) → MatchResult r (λ x. m ≡ Ok x) (λ fault. IsErrAnd m (Q fault)) → ((fault : Fault) (e : ScriptFault) → Q fault e → e ≡ record { line = n; fault = fault })
    → (e : ScriptFault) → m ≡ Err e → e.fault ≢ NoMemory → lines_said last s n (line ∷ more) ≡ Err e
told last n s t line more (Ok x) m Q g h q e is some = absurd (cc)
told last n s t line more (Err fault) (Ok x) Q g h q e is some = absurd h
told last n s t line more (Err fault) (Err k) Q g h q e is some =
    let same : k ≡ e = cc in
    let on : e ≡ record { line = n; fault = fault } = sym same ∙ q fault k h in
    line_wrong last n s line more fault (g (λ z. some (ap (λ w. w.fault) on ∙ z))) ∙ ap Err (sym on)

-- the end of the lines, told with the number of the last
pub finished : {A : Type 0} (last n : ℕ) (s : Option State) (v : A → Said) (r : Result A Fault) (m : Result A ScriptFault) (Q : Fault → ScriptFault → Type 0)
    → Gives v r (ended s) → MatchResult r (λ x. m ≡ Ok x) (λ fault. IsErrAnd m (Q fault)) → ((fault : Fault) (e : ScriptFault) → Q fault e → e ≡ record { line = last; fault = fault })
    → Reads v m (lines_said last s n [])
unfolding lines_said
finished {A} last n s v (Ok x) m Q g h q =
    subst (λ k. Reads v k (on_line last (ended s) (λ said. Ok said))) (sym h) (ap (λ r. on_line last r (λ said. Ok said)) g)
finished last n s v (Err fault) (Ok x) Q g h q = absurd h
finished last n s v (Err fault) (Err k) Q g h q = λ some.
    let on : k ≡ record { line = last; fault = fault } = q fault k h in
    ap (λ r. on_line last r (λ said. Ok said)) (g (λ z. some (ap (λ w. w.fault) on ∙ z))) ∙ ap Err (sym on)

pub reads_err : {A B : Type 0} (v : A → B) (r : Result A ScriptFault) (e : ScriptFault) (said : Result B ScriptFault) → r ≡ Err e → (e.fault ≢ NoMemory → said ≡ Err e) → Reads v r said
reads_err v r e said is h = subst (λ q. Reads v q said) (sym is) h

pub reads_same : {A B : Type 0} (v : A → B) (r : Result A ScriptFault) (s t : Result B ScriptFault) → Reads v r s → t ≡ s → Reads v r t
reads_same v (Ok x) s t g e = e ∙ g
reads_same v (Err k) s t g e = λ h. e ∙ g h
