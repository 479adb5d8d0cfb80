-- The words that commands are.
use Rattle.std.specs.Prelude.{ℕ, cond, List, Ok, Err, Result, bytes_eq, codes}
use Rattle.script.specs.declared.command.Command.{Command}
use Rattle.script.specs.declared.command.Command.TheVariants.{Chip, Image, Room, Limit, Close, Open, Read, Write}
use Rattle.script.specs.declared.fault.Fault.{Fault}
use Rattle.script.specs.declared.fault.Fault.TheVariants.{Unknown}

-- the command that a word is
unfoldable pub command_of : List ℕ → Result Command Fault
command_of word =
    cond (bytes_eq word (codes "chip")) (Ok Chip)
    (cond (bytes_eq word (codes "image")) (Ok Image)
    (cond (bytes_eq word (codes "room")) (Ok Room)
    (cond (bytes_eq word (codes "limit")) (Ok Limit)
    (cond (bytes_eq word (codes "close")) (Ok Close)
    (cond (bytes_eq word (codes "open")) (Ok Open)
    (cond (bytes_eq word (codes "read")) (Ok Read)
    (cond (bytes_eq word (codes "write")) (Ok Write) (Err Unknown))))))))
