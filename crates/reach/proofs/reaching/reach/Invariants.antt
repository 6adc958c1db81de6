use Rattle.terms.specs.Tables.{nodes_in}
use Rattle.reach.proofs.Finding.{Begun}
use Rattle.reach.proofs.reaching.reach.Given as goal

abbrev pub invariant-loop-head : goal.invariant-loop-head
invariant-loop-head l = Begun (nodes_in l.nodes) l.bindings l.heads l.head-index l.parts
