-- What a script says: what each command adds, line by line.
use Rattle.std.specs.Prelude.{ℕ, ◌+◌, ◌-◌, max, cond, List, [], ◌∷◌, ◌++◌, length, replicate, Some, None, Ok, Err, Option, Result, ◌&&◌, ◌==◌, nat_le}
use Rattle.std.specs.Str.Lines.{lines}
use Rattle.memory.specs.Models.{shape_for}
use Rattle.memory.specs.Page.{put}
use Rattle.memory.specs.Shape.{size}
use Rattle.port.specs.Bench.{unmade}
use Rattle.port.specs.declared.fault.ChipMaking.{ChipMaking}
use Rattle.calls.specs.Requests.{Request, closing, opening, reading, writing}
use Rattle.script.specs.declared.command.Command.{Command}
use Rattle.script.specs.declared.command.Command.TheVariants.{Chip, Image, Room, Limit, Close, Open, Read, Write}
use Rattle.script.specs.declared.fault.Fault.{Fault}
use Rattle.script.specs.declared.fault.Fault.TheVariants as fault
use Rattle.script.specs.declared.fault.ScriptFault.{ScriptFault}
use Rattle.script.specs.Commands.{command_of}
use Rattle.script.specs.Results.{after}
use Rattle.script.specs.Spelling.{decimal_of, byte_of, spelled}
use Rattle.script.specs.Words.{uncommented, words_of}

-- a script: the chip and what it holds, the lengths of the step list and the data buffer, and the calls
pub record Said : Type 0 where
  pub capacity : ℕ
  pub status : ℕ
  pub busy : ℕ
  pub image : List ℕ
  pub steps : ℕ
  pub bytes : ℕ
  pub calls : List Request

-- what is said so far, the poll limit of the writes that follow, and how many bytes the rest of the calls may have
pub record State : Type 0 where
  pub said : Said
  pub limit : ℕ
  pub left : ℕ

-- what exactly so many words give, or others
abbrev pub of_one : {A : Type 0} → List (List ℕ) → (List ℕ → A) → A → A
of_one [] f others = others
of_one (a ∷ []) f others = f a
of_one (a ∷ b ∷ words) f others = others

abbrev pub of_two : {A : Type 0} → List (List ℕ) → (List ℕ → List ℕ → A) → A → A
of_two [] f others = others
of_two (a ∷ []) f others = others
of_two (a ∷ b ∷ []) f others = f a b
of_two (a ∷ b ∷ c ∷ words) f others = others

abbrev pub of_three : {A : Type 0} → List (List ℕ) → (List ℕ → List ℕ → List ℕ → A) → A → A
of_three [] f others = others
of_three (a ∷ []) f others = others
of_three (a ∷ b ∷ []) f others = others
of_three (a ∷ b ∷ c ∷ []) f others = f a b c
of_three (a ∷ b ∷ c ∷ d ∷ words) f others = others

-- what one word and any after it give, or none
abbrev pub of_some : {A : Type 0} → List (List ℕ) → (List ℕ → List (List ℕ) → A) → A → A
of_some [] f none = none
of_some (a ∷ words) f none = f a words

-- a chip holds FFh everywhere, there is room for 512 steps and 65,536 data bytes, and the limit is 4,096, until more is said
abbrev pub new_state : ℕ → ℕ → ℕ → State
new_state capacity status busy = record {
  said = record { capacity = capacity; status = status; busy = busy; image = replicate (size (shape_for capacity)) 255; steps = 512; bytes = 65536; calls = [] };
  limit = 4096;
  left = 268435456;
}

-- no chip is made of some values
abbrev pub unless : Option ChipMaking → State → Result State Fault
unless None state = Ok state
unless (Some why) state = Err (fault.Making why)

abbrev pub made : ℕ → ℕ → ℕ → Result State Fault
made capacity status busy = unless (unmade capacity (size (shape_for capacity)) status busy) (new_state capacity status busy)

-- the first command has to be `chip`
unfoldable pub first_said : Command → List (List ℕ) → Result State Fault
first_said Chip words =
    of_three words (λ capacity status busy. after (byte_of capacity) (λ c. after (byte_of status) (λ s. after (decimal_of busy) (λ b. made c s b)))) (Err (fault.Words Chip))
first_said _ words = Err fault.NoChip

-- image and room stand before the first call
unfoldable pub no_call : State → Result (Unit {0}) Fault
no_call s = cond (length s.said.calls == 0) (Ok tt) (Err fault.Late)

-- bytes are laid over the image where they lie inside it
abbrev pub laid_over : State → ℕ → List ℕ → Result State Fault
laid_over s at xs = cond (nat_le (at + length xs) (length s.said.image)) (Ok (record s { said = record s.said { image = put at xs s.said.image } })) (Err fault.Outside)

unfoldable pub image_said : State → List ℕ → List (List ℕ) → Result State Fault
image_said s address words = after (no_call s) (λ _. after (decimal_of address) (λ at. after (spelled [] words) (λ xs. laid_over s at xs)))

-- room is for at most four steps for each page of the largest chip, and for as many data bytes as it has
abbrev pub make_room : State → ℕ → ℕ → Result State Fault
make_room s steps bytes = cond (nat_le steps 1048576 && nat_le bytes 16777216) (Ok (record s { said = record s.said { steps = steps; bytes = bytes } })) (Err fault.Room)

unfoldable pub room_said : State → List ℕ → List ℕ → Result State Fault
room_said s steps bytes = after (no_call s) (λ _. after (decimal_of steps) (λ n. after (decimal_of bytes) (λ m. make_room s n m)))

unfoldable pub limit_said : State → List ℕ → Result State Fault
limit_said s polls = after (decimal_of polls) (λ n. Ok (record s { limit = n }))

-- how many bytes a call has
abbrev pub bytes_with : Request → ℕ
bytes_with (closing sector) = 0
bytes_with (opening sector) = 0
bytes_with (reading address n) = n
bytes_with (writing address bytes limit) = length bytes

-- one more call, if the script may have its bytes
unfoldable pub called : State → Request → Result State Fault
called s request =
    cond (nat_le (bytes_with request) s.left) (Ok (record s { said = record s.said { calls = s.said.calls ++ (request ∷ []) }; left = s.left - bytes_with request })) (Err fault.AllBytes)

unfoldable pub close_said : State → List ℕ → Result State Fault
close_said s sector = after (decimal_of sector) (λ n. called s (closing n))

unfoldable pub open_said : State → List ℕ → Result State Fault
open_said s sector = after (decimal_of sector) (λ n. called s (opening n))

unfoldable pub read_said : State → List ℕ → List ℕ → Result State Fault
read_said s address bytes = after (decimal_of address) (λ at. after (decimal_of bytes) (λ n. cond (nat_le n 16777216) (called s (reading at n)) (Err fault.Bytes)))

unfoldable pub write_said : State → List ℕ → List (List ℕ) → Result State Fault
write_said s address words = after (decimal_of address) (λ at. after (spelled [] words) (λ xs. called s (writing at xs s.limit)))

-- a later command; if its words are too few or too many, it is told how to write them
unfoldable pub later_said : State → Command → List (List ℕ) → Result State Fault
later_said s Chip words = of_three words (λ _ _ _. Err fault.ChipAgain) (Err (fault.Words Chip))
later_said s Image words = of_some words (λ address bytes. image_said s address bytes) (Err (fault.Words Image))
later_said s Room words = of_two words (λ steps bytes. room_said s steps bytes) (Err (fault.Words Room))
later_said s Limit words = of_one words (λ polls. limit_said s polls) (Err (fault.Words Limit))
later_said s Close words = of_one words (λ sector. close_said s sector) (Err (fault.Words Close))
later_said s Open words = of_one words (λ sector. open_said s sector) (Err (fault.Words Open))
later_said s Read words = of_two words (λ address bytes. read_said s address bytes) (Err (fault.Words Read))
later_said s Write words = of_some words (λ address bytes. write_said s address bytes) (Err (fault.Words Write))

-- a command, the first where there is no state yet
abbrev pub command_said : Option State → Command → List (List ℕ) → Result State Fault
command_said None command words = first_said command words
command_said (Some s) command words = later_said s command words

-- the words of a line; none say nothing
unfoldable pub words_said : Option State → List (List ℕ) → Result (Option State) Fault
words_said state [] = Ok state
words_said state (word ∷ words) = after (command_of word) (λ command. after (command_said state command words) (λ s. Ok (Some s)))

abbrev pub line_said : Option State → List ℕ → Result (Option State) Fault
line_said state line = words_said state (words_of (uncommented line))

-- the script, once every line is read: it has a chip
abbrev pub ended : Option State → Result Said Fault
ended None = Err fault.NoChip
ended (Some s) = Ok s.said

-- a fault is told with the number of its line
abbrev pub on_line : {A B : Type 0} → ℕ → Result A Fault → (A → Result B ScriptFault) → Result B ScriptFault
on_line n (Ok x) f = f x
on_line n (Err e) f = Err (record { line = n; fault = e })

-- the lines from number n on; what is wrong once they are read is told on line `last`
unfoldable pub lines_said : ℕ → Option State → ℕ → List (List ℕ) → Result Said ScriptFault
lines_said last state n [] = on_line last (ended state) (λ said. Ok said)
lines_said last state n (line ∷ more) = on_line n (line_said state line) (λ later. lines_said last later (n + 1) more)

-- what a text says, or its first fault
abbrev pub script_of : List ℕ → Result Said ScriptFault
script_of text = lines_said (max (length (lines text)) 1) None 1 (lines text)
