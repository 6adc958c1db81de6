use Rattle.runs.proofs.Needing.{apart_needed}
use Rattle.runs.proofs.needed_stands.Goals as goal

pub returns : goal.returns
returns c = apart_needed
