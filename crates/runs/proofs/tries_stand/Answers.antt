use Rattle.runs.proofs.Trying.{tries_suffice}
use Rattle.runs.proofs.tries_stand.Goals as goal

pub returns : goal.returns
returns c = tries_suffice
