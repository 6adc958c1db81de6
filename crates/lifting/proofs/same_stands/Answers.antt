use Rattle.lifting.proofs.Comparing.{same→eq, eq→same}
use Rattle.lifting.proofs.same_stands.Goals as goal

pub returns : goal.returns
returns c = record { sound = same→eq; complete = eq→same }
