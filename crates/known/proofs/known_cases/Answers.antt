use Rattle.known.proofs.Verdicts.{known_cases_lem}
use Rattle.known.proofs.known_cases.Goals as goal

pub returns : goal.returns
returns c = known_cases_lem
