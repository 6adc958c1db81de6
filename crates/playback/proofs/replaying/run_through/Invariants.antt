use Rattle.std.proofs.Common.{◌≡◌, ◌+◌, length}
use Rattle.replays.specs.Reading.{left, nodes_read, steps_read, records_read}
use Rattle.bench.specs.Benches.{sheet_of, protocol_of, situation_of}
use Rattle.playback.specs.Following.{Sofar}
use Rattle.playback.proofs.replaying.run_through.Given as goal

abbrev pub invariant-loop-bench : goal.invariant-loop-bench
invariant-loop-bench g l =
    (sheet_of l.bench ≡ sheet_of l.fn.bench)
    × (l.record ≡ nodes_read l.reader + steps_read l.reader)
    × (records_read l.reader ≡ nodes_read l.reader + steps_read l.reader)
    × Sofar (length (sheet_of l.fn.bench).names) (protocol_of l.fn.bench) l.bytes (nodes_read l.reader) (steps_read l.reader) (situation_of l.bench) (left l.reader)

abbrev pub decreases-loop-bench : goal.decreases-loop-bench
decreases-loop-bench g l = length (left l.reader)
