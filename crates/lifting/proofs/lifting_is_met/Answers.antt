use Rattle.lifting.proofs.Meeting.{met_by_two, nine_secret}
use Rattle.lifting.proofs.lifting_is_met.Goals as goal

pub returns : goal.returns
returns c = record { met = met_by_two; secret = nine_secret }
