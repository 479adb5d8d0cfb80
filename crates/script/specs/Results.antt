-- Steps of which the first fault is told, and what a result is where memory may run out.
use Rattle.std.specs.Prelude.{◌≡◌, ◌≢◌, Ok, Err, Result}
use Rattle.script.specs.declared.fault.Fault.{Fault}
use Rattle.script.specs.declared.fault.Fault.TheVariants.{NoMemory}
use Rattle.script.specs.declared.fault.ScriptFault.{ScriptFault}

-- what the value goes on to, or the fault
abbrev pub after : {A B : Type 0} → Result A Fault → (A → Result B Fault) → Result B Fault
after (Ok x) f = f x
after (Err fault) f = Err fault

-- the result is what is said of it, as v shows a value, unless memory ran out
abbrev pub Gives : {A B : Type 0} → (A → B) → Result A Fault → Result B Fault → Type 0
Gives v (Ok x) said = said ≡ Ok (v x)
Gives v (Err fault) said = fault ≢ NoMemory → said ≡ Err fault

-- the same of a whole script
abbrev pub Reads : {A B : Type 0} → (A → B) → Result A ScriptFault → Result B ScriptFault → Type 0
Reads v (Ok x) said = said ≡ Ok (v x)
Reads v (Err e) said = e.fault ≢ NoMemory → said ≡ Err e
