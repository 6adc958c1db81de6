use Rattle.terms.specs.Sets.{bits}
use Rattle.reach.proofs.Variables.{Common}
use Rattle.reach.proofs.reaching.common.Given as goal

abbrev pub invariant-loop-x : goal.invariant-loop-x
invariant-loop-x l = Common (bits l.a) (bits l.b) l.x (bits l.set)
