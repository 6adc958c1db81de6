use Rattle.std.proofs.Common.{None}
use Rattle.bench.proofs.Starts.{replicate_none}
use Rattle.bench.proofs.opening.no_places.Goals as goal

pub returns : goal.returns
returns g c = replicate_none None g.row.N
