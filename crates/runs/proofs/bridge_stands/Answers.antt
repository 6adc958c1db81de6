use Rattle.runs.proofs.Bridging.{run_solves, solution_runs}
use Rattle.runs.proofs.bridge_stands.Goals as goal

pub returns : goal.returns
returns c = record { solves = run_solves; runs = solution_runs }
