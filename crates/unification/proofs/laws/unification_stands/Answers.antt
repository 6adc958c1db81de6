use Rattle.unification.proofs.Extending.{exactly_one, never_inside}
use Rattle.unification.proofs.Goodness.{good_once}
use Rattle.unification.proofs.laws.unification_stands.Goals as goal

pub returns : goal.returns
returns c = record { extends = exactly_one; free = never_inside; once = good_once }
