use Rattle.runs.proofs.Apartness.{strands_apart, feasible_counts}
use Rattle.runs.proofs.apart_stands.Goals as goal

pub returns : goal.returns
returns c = record { apart = strands_apart; counts = feasible_counts }
