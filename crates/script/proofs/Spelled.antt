-- The bytes that words spell, one word more at a time.
use Rattle.std.proofs.Common.{◌≡◌, ℕ, suc, drop-cons, drop_of_length-le, ◌+◌, ◌-◌, ◌<◌, ◌≤◌, List, [], ◌∷◌, ◌++◌, length, get_or, take, drop, replicate, Ok, Err, Bor, sym, ap, ◌∙◌, arith, take_all}
use Rattle.std.proofs.lemmas.Bool.Decides.{nat_tests}
use Rattle.script.specs.declared.bytes.Copies.{Copies}
use Rattle.script.specs.declared.fault.Fault.{Fault}
use Rattle.script.specs.declared.fault.Fault.TheVariants.{Bytes}
use Rattle.script.specs.Spelling.{copies_of, spelled}
use Rattle.script.specs.Words.{texts}
use Rattle.script.proofs.Steps.{after_ok, after_err}

-- what an index past the end of words gives
abbrev pub nothing : Bor (List ℕ)
nothing = record { ref_ptr = (0, 0); now = [] }

pub texts-drop : (ws : List (Bor (List ℕ))) (i : ℕ) (d : Bor (List ℕ)) → i < length ws → texts (drop i ws) ≡ (get_or ws i d).now ∷ texts (drop (i + 1) ws)
texts-drop ws i d h =
    let e : suc i ≡ i + 1 = omega arith in
    ap texts (drop-cons ws i d h) ∙ ap (λ k. (get_or ws i d).now ∷ texts (drop k ws)) e

pub none_left : (bytes : List ℕ) (ws : List (Bor (List ℕ))) (i : ℕ) → length ws ≤ i → spelled bytes (texts (drop i ws)) ≡ Ok bytes
unfolding spelled
none_left bytes ws i h = ap (λ v. spelled bytes (texts v)) (drop_of_length-le ws h)

pub word_wrong : (bytes word : List ℕ) (words : List (List ℕ)) (fault : Fault) → Err fault ≡ copies_of word → spelled bytes (word ∷ words) ≡ Err fault
unfolding spelled
word_wrong bytes word words fault e = after_err (copies_of word) fault _ (sym e)

pub word_far : (bytes word : List ℕ) (words : List (List ℕ)) (c : Copies) → Ok c ≡ copies_of word → 16777216 < length bytes + c.count → spelled bytes (word ∷ words) ≡ Err Bytes
unfolding spelled
word_far bytes word words c e far = after_ok (copies_of word) c _ (sym e) ∙ grind (arith, nat_tests)

pub word_read : (bytes word : List ℕ) (words : List (List ℕ)) (c : Copies) → Ok c ≡ copies_of word → length bytes + c.count ≤ 16777216
    → spelled bytes (word ∷ words) ≡ spelled (bytes ++ replicate c.count c.value) words
unfolding spelled
word_read bytes word words c e fits = after_ok (copies_of word) c _ (sym e) ∙ grind (arith, nat_tests)

-- bytes that are lengthened by copies of a byte
pub lengthened : (old new : List ℕ) (m l n v w : ℕ) → new ≡ take m old ++ replicate (m - l) w → m ≡ length old + n → l ≡ length old → v ≡ w → new ≡ old ++ replicate n v
lengthened old new m l n v w e long len same =
    let more : m - l ≡ n = omega (arith, long, len) in
    e ∙ ap (λ z. z ++ replicate (m - l) w) (take_all m old (omega (arith, long))) ∙ ap (λ k. old ++ replicate k w) more ∙ ap (λ z. old ++ replicate n z) (sym same)
