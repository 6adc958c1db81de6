use Rattle.std.proofs.Common.{arith}
use Rattle.terms.proofs.Bitsets.{subset_decided}
use Rattle.terms.proofs.variables.VarSet.is_subset.Goals as goal

pub returns : goal.returns
returns c = subset_decided c.args.self.0 c.args.other.0 (omega arith)
