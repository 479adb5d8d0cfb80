-- What `split_whitespace` gives, and the words of a text.
use Rattle.std.proofs.Common.{◌≡◌, ℕ, ◌<◌, Bool, true, false, not, cond, ◌&&◌, List, [], ◌∷◌, ◌++◌, length, Some, Bor, sym, refl, ap, ◌∙◌, subst, append_assoc, append-nil, arith, IsUtf8, encode_utf8, encode_utf8_all, chars, length-append}
use Rattle.std.specs.Char.{is_whitespace, is_not_whitespace}
use Rattle.std.specs.Str.{NonePass, NoCharPasses, EmptyOrStartsWithPassing, all_scalars}
use Rattle.std.specs.Str.Iter.{split_whitespace_rest, split_whitespace_steps}
use Rattle.std.specs.declared.str.SplitWhitespace.{SplitWhitespace}
use Rattle.std.proofs.lemmas.Iterator.{YieldsList}
use Rattle.std.proofs.lemmas.Iterator.Splits.{YieldsList-from_shown_while}
use Rattle.std.proofs.lemmas.Str.{chars-encodes, cons_from_encodes, encode_same, encodes_same, length-encode, len_utf8_bounds}
use Rattle.script.specs.Words.{kept, parted, words_of}

not_true : (b : Bool) → not b ≡ false → b ≡ true
not_true true e = refl
not_true false e = absurd (cc)

and_right : (a b : Bool) → (a && b) ≡ true → b ≡ true
and_right true b e = e
and_right false b e = absurd (cc)

-- white space before a word is passed over
past_gap : (gap cs : List ℕ) → NonePass is_not_whitespace gap → parted [] (gap ++ cs) ≡ parted [] cs
past_gap [] cs h = refl
past_gap (c ∷ gap) cs h =
    ap (λ b. cond b (parted [] (gap ++ cs)) (parted ([] ++ encode_utf8 c) (gap ++ cs))) (not_true (is_whitespace c) h.0) ∙ past_gap gap cs h.1

-- a word grows by what is no white space
in_word : (word xs cs : List ℕ) → NonePass is_whitespace xs → parted word (xs ++ cs) ≡ parted (word ++ encode_utf8_all xs) cs
in_word word [] cs h = ap (λ w. parted w cs) (sym (append-nil word))
in_word word (c ∷ xs) cs h =
    ap (λ b. cond b (kept word ++ parted [] (xs ++ cs)) (parted (word ++ encode_utf8 c) (xs ++ cs))) h.0
    ∙ in_word (word ++ encode_utf8 c) xs cs h.1
    ∙ ap (λ w. parted w cs) (append_assoc word (encode_utf8 c) (encode_utf8_all xs))

kept_some : (word : List ℕ) → 0 < length word → kept word ≡ word ∷ []
kept_some [] some = absurd (omega arith)
kept_some (b ∷ bs) some = refl

-- the characters are none, or the first is white space
abbrev StartsBlank : List ℕ → Type 0
StartsBlank [] = Unit {0}
StartsBlank (c ∷ cs) = is_whitespace c ≡ true

-- and there a word ends
word_ends : (word cs : List ℕ) → 0 < length word → StartsBlank cs → parted word cs ≡ word ∷ parted [] cs
word_ends word [] some h = kept_some word some
word_ends word (c ∷ cs) some h =
    ap (λ b. cond b (kept word ++ parted [] cs) (parted (word ++ encode_utf8 c) cs)) h
    ∙ ap (λ w. w ++ parted [] cs) (kept_some word some)
    ∙ ap (λ b. word ∷ cond b (parted [] cs) (parted ([] ++ encode_utf8 c) cs)) (sym h)

-- a text whose bytes begin with those of characters begins with the characters
begins : (xs cs rest : List ℕ) → encode_utf8_all cs ≡ encode_utf8_all xs ++ rest → (es : List ℕ) × (cs ≡ xs ++ es) × (encode_utf8_all es ≡ rest)
begins [] cs rest e = (cs, refl, e)
begins (x ∷ xs) cs rest e =
    let k = cons_from_encodes cs (encode_utf8_all xs ++ rest) x (e ∙ append_assoc (encode_utf8 x) (encode_utf8_all xs) rest) in
    let m = begins xs k.0 rest k.2 in
    (m.0, k.1 ∙ ap (λ v. x ∷ v) m.1, m.2)

scalars_after : (xs cs : List ℕ) → all_scalars (xs ++ cs) ≡ true → all_scalars cs ≡ true
scalars_after [] cs h = h
scalars_after (x ∷ xs) cs h = scalars_after xs cs (and_right _ _ h)

starts_blank : (cs rest more : List ℕ) → encode_utf8_all cs ≡ rest → EmptyOrStartsWithPassing is_whitespace rest more → StartsBlank cs
starts_blank [] rest more e h = tt
starts_blank (c ∷ cs) rest more e h =
    let k = h (omega (arith, ap length e, length-append (encode_utf8 c) (encode_utf8_all cs), length-encode c, len_utf8_bounds c)) in
    let same : c ≡ k.0 = (encode_same c k.0 (encode_utf8_all cs) more (e ∙ k.2)).0 in
    ap is_whitespace same ∙ k.1

words_at : (cs text : List ℕ) → all_scalars cs ≡ true → encode_utf8_all cs ≡ text → words_of text ≡ parted [] cs
unfolding words_of
words_at cs text h e = ap (parted []) (ap chars (sym e) ∙ chars-encodes cs h)

no_word : (s : SplitWhitespace) → IsUtf8 (split_whitespace_rest s) → NoCharPasses is_not_whitespace (split_whitespace_rest s) → length (words_of (split_whitespace_rest s)) ≡ 0
no_word s u h =
    let cs = u.0 in
    let same : h.0 ≡ cs = encodes_same h.0 cs (h.1 ∙ sym u.1.1) in
    let gap : NonePass is_not_whitespace cs = subst (NonePass is_not_whitespace) same h.2 in
    ap length (words_at cs (split_whitespace_rest s) u.1.0 u.1.1 ∙ ap (parted []) (sym (append-nil cs)) ∙ past_gap cs [] gap)

one_word : (s : SplitWhitespace) (x : Bor (List ℕ)) (t : SplitWhitespace) → IsUtf8 (split_whitespace_rest s) → split_whitespace_steps s (Some x) t
    → IsUtf8 (split_whitespace_rest t) × (words_of (split_whitespace_rest s) ≡ x.now ∷ words_of (split_whitespace_rest t))
one_word s x t u h =
    let cs = u.0 in
    let rest = split_whitespace_rest t in
    let gap = h.3 in
    let word = h.4 in
    let whole : encode_utf8_all cs ≡ encode_utf8_all gap.0 ++ (encode_utf8_all word.0 ++ rest) =
    u.1.1 ∙ h.1 ∙ ap (λ v. v ++ (x.now ++ rest)) (sym gap.1) ∙ ap (λ v. encode_utf8_all gap.0 ++ (v ++ rest)) (sym word.1) in
    let a = begins gap.0 cs (encode_utf8_all word.0 ++ rest) whole in
    let b = begins word.0 a.0 rest a.2 in
    let es = b.0 in
    let scalars : all_scalars es ≡ true = scalars_after word.0 es (subst (λ v. all_scalars v ≡ true) b.1 (scalars_after gap.0 a.0 (subst (λ v. all_scalars v ≡ true) a.1 u.1.0))) in
    let blank : StartsBlank es = starts_blank es rest h.5.0 b.2 h.5.1 in
    let steps : words_of (split_whitespace_rest s) ≡ x.now ∷ words_of rest =
    words_at cs (split_whitespace_rest s) u.1.0 u.1.1
    ∙ ap (parted []) (a.1 ∙ ap (λ v. gap.0 ++ v) b.1)
    ∙ past_gap gap.0 (word.0 ++ es) gap.2
    ∙ in_word [] word.0 es word.2
    ∙ ap (λ w. parted w es) word.1
    ∙ word_ends x.now es h.2 blank
    ∙ ap (λ v. x.now ∷ v) (sym (words_at es rest scalars b.2)) in
    ((es, (scalars, b.2)), steps)

-- the words are what `split_whitespace` gives of a text
pub words_are : {s : _} (text : List ℕ) → IsUtf8 text → split_whitespace_rest s ≡ text → YieldsList split_whitespace_steps (λ x. x.now) s (words_of text)
words_are {s} text u e =
    subst (λ v. YieldsList split_whitespace_steps (λ x. x.now) s (words_of v)) e
    (YieldsList-from_shown_while split_whitespace_steps (λ x. x.now) (λ t. words_of (split_whitespace_rest t)) (λ t. IsUtf8 (split_whitespace_rest t))
    (λ t v k h. no_word t k h.1) (λ t x v k h. one_word t x v k h) s (subst IsUtf8 (sym e) u))
