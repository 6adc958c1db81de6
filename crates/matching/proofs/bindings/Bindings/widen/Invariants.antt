use Rattle.std.proofs.Common.{vec_items}
use Rattle.unification.proofs.Reaching.{Looked}
use Rattle.matching.proofs.bindings.Bindings.widen.Given as goal

abbrev pub invariant-loop-b : goal.invariant-loop-b
invariant-loop-b l = Looked (vec_items l.nodes.nodes) (vec_items l.self.list) l.initial.all.0 l.all.0 l.b-index
