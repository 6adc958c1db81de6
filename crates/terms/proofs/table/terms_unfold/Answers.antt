use Rattle.terms.proofs.Unfolding.{unfolds}
use Rattle.terms.proofs.table.terms_unfold.Goals as goal

pub returns : goal.returns
returns c = unfolds
