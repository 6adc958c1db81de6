use Rattle.lifting.proofs.Walking.{walk_keeps, walk_ends, lifting_walked}
use Rattle.lifting.proofs.walking_stands.Goals as goal

pub returns : goal.returns
returns c = record { keeps = walk_keeps; ends = walk_ends; lifts = lifting_walked }
