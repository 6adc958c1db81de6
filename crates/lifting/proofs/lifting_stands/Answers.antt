use Rattle.lifting.proofs.Lifting.{lifting, lowering, local_name, shut_seal}
use Rattle.lifting.proofs.lifting_stands.Goals as goal

pub returns : goal.returns
returns c = record { up = lifting; down = lowering; local = local_name; shut = shut_seal }
