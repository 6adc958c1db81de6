use Rattle.std.proofs.Common.{arith}
use Rattle.terms.proofs.Bitsets.{digit_decided, wide_decided}
use Rattle.terms.proofs.variables.VarSet.contains.Goals as goal

pub returns-then-v-lt-VARIABLES : goal.returns-then-v-lt-VARIABLES
returns-then-v-lt-VARIABLES c = digit_decided c.args.v.0 c.args.self.0

pub returns-else-v-lt-VARIABLES : goal.returns-else-v-lt-VARIABLES
returns-else-v-lt-VARIABLES c = wide_decided c.args.v.0 c.args.self.0 (omega arith) (omega arith)
