use Rattle.schedules.proofs.Walking.{walk_starts, walks_on, up_last}
use Rattle.schedules.proofs.walk_stands.Goals as goal

pub returns : goal.returns
returns c = record { starts = walk_starts; on = walks_on; back = up_last }
