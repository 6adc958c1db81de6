use Rattle.runs.proofs.Releasing.{runs_on, stands_at, kept_release, one_valuation, order_told}
use Rattle.runs.proofs.release_stands.Goals as goal

pub returns : goal.returns
returns c = record { on = runs_on; at = stands_at; release = kept_release; one = one_valuation; order = order_told }
