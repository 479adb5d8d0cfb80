-- What a call owes, and small facts of references.
use Rattle.std.proofs.Common.{◌≡◌, ℕ, List, Some, None, Option, sym, ap, ◌∙◌, subst}
use Rattle.memory.specs.Page.{put}
use Rattle.part.specs.declared.part.Part.{Ghosts}
use Rattle.fence.specs.declared.fence.Fence.{Fence}
use Rattle.writing.specs.Wrote.{Buffers}
use Rattle.calls.specs.declared.call.Answer.{Answer}
use Rattle.calls.specs.declared.call.Call.{Call}
use Rattle.calls.specs.Requests.{Request, asks, buffer, outcome}
use Rattle.calls.specs.Reference.{Reference, Holds, fed, rewritten}
use Rattle.calls.specs.Law.{Law}
use Rattle.calls.specs.History.{Agrees, Follows, State, between}

-- what holds of one image holds of the reference's, where that is the one
pub holds_by : (o : Option (List ℕ)) (x : List ℕ) (Q : List ℕ → Type 0) → Q x → Holds o (λ i. x ≡ i) → Holds o Q
holds_by None x Q q h = tt
holds_by (Some i) x Q q h = subst Q h q

-- what the reference holds of an image, of the next image
pub holds_moved : (o : Option (List ℕ)) (x y : List ℕ) → y ≡ x → Holds o (λ i. x ≡ i) → Holds o (λ i. y ≡ i)
holds_moved None x y e h = tt
holds_moved (Some i) x y e h = e ∙ h

pub holds_put : (o : Option (List ℕ)) (x y : List ℕ) (address : ℕ) (bytes : List ℕ) → y ≡ put address bytes x
    → Holds o (λ i. x ≡ i) → Holds (rewritten address bytes o) (λ i. y ≡ i)
holds_put None x y address bytes e h = tt
holds_put (Some i) x y address bytes e h = e ∙ ap (put address bytes) h

module _ {P : Type 0} (part : Ghosts P) where
  pub record Owed (b : Buffers) (f : Fence P) (request : Request) (held : List ℕ) (answer : Answer) (g : Fence P) : Type 0 where
    pub law : (ref : Reference) → Agrees part ref f → Law part b ref f request held answer g
    pub agrees : (ref : Reference) → Agrees part ref f → Agrees part (fed ref request (outcome answer)) g

  pub owed_follows : (s t : State P) (call : Call) (answer answer' : Answer) → answer' ≡ answer
      → Owed (between s t) s.fence (asks call) (buffer call) answer t.fence → Follows part s call answer' t
  owed_follows s t call answer answer' e o =
      subst (λ (x : Answer). Follows part s call x t) (sym e) (record { law = o.law; agrees = o.agrees })

  -- the same under other names
  pub owed_by : (b : Buffers) (f g : Fence P) (q q' : Request) (held held' : List ℕ) (a a' : Answer) → q ≡ q' → held ≡ held' → a ≡ a'
      → Owed b f q held a g → Owed b f q' held' a' g
  owed_by b f g q q' held held' a a' e h k o =
      subst (λ (x : Request). Owed b f x held' a' g) e (subst (λ (x : List ℕ). Owed b f q x a' g) h (subst (λ (x : Answer). Owed b f q held x g) k o))
