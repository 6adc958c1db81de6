use Rattle.std.proofs.Common.{sym, ap, ◌∙◌, arith}
use lib.Bits.{bit_or}
use Rattle.std.proofs.lemmas.Nat.{one_shl}
use Rattle.std.proofs.lemmas.Bool.{cond-true, lt-ltb}
use Rattle.terms.proofs.Bitsets.{with_one}
use Rattle.terms.proofs.variables.VarSet.with.Goals as goal

pub returns-then-v-lt-VARIABLES : goal.returns-then-v-lt-VARIABLES
returns-then-v-lt-VARIABLES c =
    let e = one_shl c.args.v.0 64 (omega arith) in
    record {
      value = ap (bit_or c.args.self.0) e ∙ sym (cond-true _ _ _ (lt-ltb _ _ c.if-v-lt-VARIABLES.true));
      members = with_one c.args.v.0 c.args.self.0 _ (omega arith) e;
    }
