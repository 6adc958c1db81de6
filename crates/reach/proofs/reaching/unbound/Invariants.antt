use Rattle.terms.specs.Sets.{bits}
use Rattle.reach.proofs.Variables.{Unbounds}
use Rattle.reach.proofs.reaching.unbound.Given as goal

abbrev pub invariant-loop-x : goal.invariant-loop-x
invariant-loop-x l = Unbounds l.bindings l.x (bits l.set)
