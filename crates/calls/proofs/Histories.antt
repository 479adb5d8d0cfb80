-- One more call.
use Rattle.std.proofs.Common.{◌≡◌, ℕ, suc, ◌+◌, ◌<◌, List, [], ◌∷◌, ◌++◌, Some, length, take, drop, set, get_or, sym, refl, ap, ◌∙◌, subst, arith, drop-cons, take-suc}
use Rattle.std.proofs.lemmas.List.{drop-set-lt, take_more_set}
use Rattle.part.specs.declared.part.Part.{Ghosts}
use Rattle.fence.specs.Fenced.{fresh}
use Rattle.least.specs.declared.step.Step.{Step}
use Rattle.calls.specs.declared.call.Answer.{Answer}
use Rattle.calls.specs.declared.call.Call.{Call}
use Rattle.calls.specs.declared.call.Entry.{Entry}
use Rattle.calls.specs.Requests.{asks, buffer}
use Rattle.calls.specs.Records.{Recorded, Records}
use Rattle.calls.specs.Reference.{Reference}
use Rattle.calls.specs.Law.{Law}
use Rattle.calls.specs.History.{History, State, none, more, between, fed_by, state, Agrees, Follows, start}

-- one more call was made
pub records_more : (before after : List Entry) (b a : Entry) → Records before after → Recorded b a → Records (before ++ b ∷ []) (after ++ a ∷ [])
records_more [] [] b a r k = (k, tt)
records_more [] (y ∷ after) b a r k = absurd r
records_more (x ∷ before) [] b a r k = absurd r
records_more (x ∷ before) (y ∷ after) b a r k = (r.0, records_more before after b a r.1 k)

-- the next of the entries was made, and those after it were not
module _ (n : ℕ) (xs ys : List Entry) (d y : Entry) (inside : n < length ys) (long : length ys ≡ length xs) (same : drop n ys ≡ drop n xs) where
  one : n + 1 ≡ suc n
  one = omega arith

  both : get_or ys n d ∷ drop (suc n) ys ≡ get_or xs n d ∷ drop (suc n) xs
  both = let j : n < length xs = omega arith in sym (drop-cons ys n d inside) ∙ (same ∙ drop-cons xs n d j)

  pub records_next : Records (take n xs) (take n ys) → Recorded (get_or ys n d) y → Records (take (n + 1) xs) (take (n + 1) (set ys n y))
  records_next r k =
      let j : n < length xs = omega arith in
      let p = both in
      let e : get_or xs n d ≡ get_or ys n d = cc in
      let f : take (n + 1) xs ≡ take n xs ++ get_or ys n d ∷ [] = ap (λ m. take m xs) one ∙ (take-suc xs n d j ∙ ap (λ z. take n xs ++ z ∷ []) e) in
      subst (λ z. Records z (take (n + 1) (set ys n y))) (sym f)
      (subst (Records (take n xs ++ get_or ys n d ∷ [])) (sym (take_more_set ys n y inside)) (records_more (take n xs) (take n ys) (get_or ys n d) y r k))

  pub rest_next : drop (n + 1) (set ys n y) ≡ drop (n + 1) xs
  rest_next =
      let p = both in
      let e : drop (suc n) ys ≡ drop (suc n) xs = cc in
      ap (λ m. drop m (set ys n y)) one ∙ (drop-set-lt (suc n) ys n y (omega arith) ∙ (e ∙ sym (ap (λ m. drop m xs) one)))

-- the reference after several
abbrev pub fed_all : Reference → List Entry → Reference
fed_all ref [] = ref
fed_all ref (e ∷ es) = fed_all (fed_by ref e) es

pub fed_more : (ref : Reference) (es : List Entry) (e : Entry) → fed_all ref (es ++ e ∷ []) ≡ fed_by (fed_all ref es) e
fed_more ref [] e = refl
fed_more ref (x ∷ es) e = fed_more (fed_by ref x) es e

-- an entry whose call was made
abbrev pub answered : Call → Answer → Entry
answered call answer = record { call = call; answer = Some answer }

module _ {P : Type 0} (part : Ghosts P) where
  history_more : {ref : Reference} {s t u : State P} {es : List Entry} (call : Call) (answer : Answer) → History part ref s es t
      → Law part (between t u) (fed_all ref es) t.fence (asks call) (buffer call) answer u.fence
      → History part ref s (es ++ answered call answer ∷ []) u
  history_more call answer none l = more answer refl l none
  history_more call answer (more a e k hs) l = more a e k (history_more call answer hs l)

  -- so far: the record keeps the law, and its reference is true of the fence
  pub record SoFar (p : P) (steps : List Step) (sent : List ℕ) (es : List Entry) (s : State P) : Type 0 where
    pub history : History part (start part p) (state (fresh p) steps sent) es s
    pub agrees : Agrees part (fed_all (start part p) es) s.fence

  pub so_far_none : (p : P) (steps : List Step) (sent : List ℕ) → SoFar p steps sent [] (state (fresh p) steps sent)
  so_far_none p steps sent = record { history = none; agrees = record { image = refl; closed = refl } }

  so_far_more : (p : P) (steps : List Step) (sent : List ℕ) (es : List Entry) (call : Call) (answer : Answer) (s t : State P)
      → SoFar p steps sent es s → Follows part s call answer t → SoFar p steps sent (es ++ answered call answer ∷ []) t
  so_far_more p steps sent es call answer s t h o =
      let ref = fed_all (start part p) es in
      record {
        history = history_more call answer h.history (o.law ref h.agrees);
        agrees = subst (λ (r : Reference). Agrees part r t.fence) (sym (fed_more (start part p) es (answered call answer))) (o.agrees ref h.agrees);
      }

  pub so_far_next : (p : P) (steps : List Step) (sent : List ℕ) (n : ℕ) (es : List Entry) (call : Call) (answer : Answer) (s t : State P) → n < length es
      → SoFar p steps sent (take n es) s → Follows part s call answer t → SoFar p steps sent (take (n + 1) (set es n (answered call answer))) t
  so_far_next p steps sent n es call answer s t inside h o =
      subst (λ (l : List Entry). SoFar p steps sent l t) (sym (take_more_set es n (answered call answer) inside)) (so_far_more p steps sent (take n es) call answer s t h o)
