use Rattle.std.proofs.Common.{length}
use Rattle.records.specs.Reading.{rest}
use Rattle.sheet.specs.View.{content}
use Rattle.sheet.proofs.Loading.{Sofar}
use Rattle.sheet.proofs.read.read_tables.Given as goal

abbrev pub invariant-loop-draft : goal.invariant-loop-draft
invariant-loop-draft l = Sofar l.bytes (content l.draft.tables) (rest l.records) l.records.count

abbrev pub decreases-loop-draft : goal.decreases-loop-draft
decreases-loop-draft l = length (rest l.records)
