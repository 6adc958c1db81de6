use Rattle.std.proofs.Common.{arith}
use Rattle.terms.proofs.Bitsets.{disjoint_decided}
use Rattle.terms.proofs.variables.VarSet.is_disjoint.Goals as goal

pub returns : goal.returns
returns c = disjoint_decided c.args.self.0 c.args.other.0 (omega arith)
