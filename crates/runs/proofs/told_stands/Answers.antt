use Rattle.runs.proofs.Telling.{broken_told, fed_told, spent_told}
use Rattle.runs.proofs.told_stands.Goals as goal

pub returns : goal.returns
returns c = record { broken = broken_told; fed = fed_told; spent = spent_told }
