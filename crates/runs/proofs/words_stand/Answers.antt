use Rattle.runs.proofs.Wording.{words_listed}
use Rattle.runs.proofs.words_stand.Goals as goal

pub returns : goal.returns
returns c = words_listed
