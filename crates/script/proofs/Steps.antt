-- Steps one after another, and what a function answers at the fault of one.
use Rattle.std.proofs.Common.{◌≡◌, ◌≢◌, Ok, Err, Result, sym, ap, ◌∙◌, subst}
use Rattle.script.specs.declared.fault.Fault.{Fault}
use Rattle.script.specs.declared.fault.Fault.TheVariants.{NoMemory}
use Rattle.script.specs.Results.{after, Gives}

pub after_ok : {A B : Type 0} (r : Result A Fault) (x : A) (f : A → Result B Fault) → r ≡ Ok x → after r f ≡ f x
after_ok r x f e = ap (λ s. after s f) e

pub after_err : {A B : Type 0} (r : Result A Fault) (fault : Fault) (f : A → Result B Fault) → r ≡ Err fault → after r f ≡ Err fault
after_err r fault f e = ap (λ s. after s f) e

-- what is said may be said otherwise
pub gives_same : {A B : Type 0} (v : A → B) (r : Result A Fault) (s t : Result B Fault) → Gives v r s → t ≡ s → Gives v r t
gives_same v (Ok x) s t g e = e ∙ g
gives_same v (Err fault) s t g e = λ h. e ∙ g h

pub gives_err : {A B : Type 0} (v : A → B) (r : Result A Fault) (fault : Fault) (s : Result B Fault) → r ≡ Err fault → (fault ≢ NoMemory → s ≡ Err fault) → Gives v r s
gives_err v r fault s e h = subst (λ q. Gives v q s) (sym e) h
