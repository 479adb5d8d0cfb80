use Rattle.std.proofs.Common.{◌≤◌, ◌*◌, length, string_bytes}
use Rattle.replay.proofs.Replaying.{Sofar}
use Rattle.replay.proofs.replay.Given as goal

abbrev pub invariant-loop-line : goal.invariant-loop-line
invariant-loop-line l = record {
  room : length l.reader.rest.now ≤ 3 * length l.room.items;
  played : Sofar l.text l.fn.chip l.chip (string_bytes l.fn.out) (string_bytes l.out) l.reader.line l.reader.rest.now;
}

abbrev pub decreases-loop-line : goal.decreases-loop-line
decreases-loop-line l = length l.reader.rest.now
