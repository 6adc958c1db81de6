use Rattle.terms.specs.Tables.{nodes_in}
use Rattle.limits.specs.Following.{Looked}
use Rattle.limits.proofs.demands.Demands.follow.Given as goal

abbrev pub invariant-loop-b : goal.invariant-loop-b
invariant-loop-b l = Looked (nodes_in l.nodes.nodes) l.bindings l.b-index l.initial.all l.all
