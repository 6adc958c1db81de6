use Rattle.runs.proofs.Lasting.{breaks_at_last, nothing_breaks_nothing}
use Rattle.runs.proofs.last_stands.Goals as goal

pub returns : goal.returns
returns c = record { last = breaks_at_last; nothing = nothing_breaks_nothing }
