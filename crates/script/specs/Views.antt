-- A script, read or being read, as what it says.
use Rattle.std.specs.Prelude.{map, vec_items, option_map, Option}
use Rattle.calls.specs.Requests.{asks}
use Rattle.script.specs.declared.reading.Begun.{Begun}
use Rattle.script.specs.declared.reading.Reading.{Reading}
use Rattle.script.specs.declared.script.Script.{Script}
use Rattle.script.specs.Meaning.{Said, State}

abbrev pub said_by : Script → Said
said_by s = record {
  capacity = s.chip.capacity;
  status = s.chip.status;
  busy = s.chip.busy;
  image = vec_items s.chip.image;
  steps = s.room.steps;
  bytes = s.room.bytes;
  calls = map asks (vec_items s.calls);
}

abbrev pub state_of : Begun → State
state_of b = record { said = said_by b.script; limit = b.limit; left = b.left }

abbrev pub progress : Reading → Option State
progress r = option_map state_of r.begun
