use Rattle.std.proofs.Common.{length}
use Rattle.records.specs.Reading.{rest, Begins}
use Rattle.records.proofs.reader.reading.scan.Given as goal

abbrev pub invariant-loop : goal.invariant-loop
invariant-loop l = Begins l.bytes l.records.count (rest l.records)

abbrev pub decreases-loop : goal.decreases-loop
decreases-loop l = length (rest l.records)
