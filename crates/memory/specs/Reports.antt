-- The rows that reports stand for, and how they are shown.
use Rattle.std.specs.Prelude.{ℕ, List, [], ◌∷◌, ◌++◌, decimal}
use Rattle.memory.specs.Row.{Row, rowed}
use Rattle.memory.specs.declared.report.Layer.{Layer}
use Rattle.memory.specs.declared.report.Layer.TheVariants.{Caller, Part, Port, Listing}
use Rattle.memory.specs.declared.report.Cause.{Cause}
use Rattle.memory.specs.declared.report.Cause.TheVariants.{Outside, PageData, Busy, Protected, NotBlank, StepsShort, DataShort, Abandoned, Limit, FrameLong, Malformed, Making, TextShort}
use Rattle.memory.specs.declared.report.Report.{Report}
use Rattle.memory.specs.declared.report.Values.{Values}
use Rattle.memory.specs.declared.report.Values.TheVariants.{One, Two}

abbrev pub layer_number : Layer → ℕ
layer_number Caller = 1
layer_number Part = 2
layer_number Port = 3
layer_number Listing = 4

abbrev pub cause_number : Cause → ℕ
cause_number Outside = 1
cause_number PageData = 2
cause_number Busy = 3
cause_number Protected = 4
cause_number NotBlank = 5
cause_number StepsShort = 6
cause_number DataShort = 7
cause_number Abandoned = 8
cause_number Limit = 9
cause_number FrameLong = 10
cause_number Malformed = 12
cause_number Making = 13
cause_number TextShort = 14

abbrev pub listed : Values → List ℕ
listed (One a) = a ∷ []
listed (Two a b) = a ∷ b ∷ []

abbrev pub reported : Report → Row
reported r = rowed (layer_number r.layer) (cause_number r.cause) (listed r.values)

-- each with a space before it, in decimal
abbrev pub told : List ℕ → List ℕ
told [] = []
told (v ∷ []) = 32 ∷ decimal v
told (v ∷ w ∷ vs) = 32 ∷ (decimal v ++ told (w ∷ vs))

-- layer, number and values
abbrev pub shown_row : Row → List ℕ
shown_row r = decimal r.layer ++ (32 ∷ (decimal r.number ++ told r.values))
