use Rattle.runs.proofs.Beginnings.{beginning_runs, beginning_feasible, breaking_feasible, breaks_last}
use Rattle.runs.proofs.beginning_stands.Goals as goal

pub returns : goal.returns
returns c = record { runs = beginning_runs; feasible = beginning_feasible; breaking = breaking_feasible; last = breaks_last }
