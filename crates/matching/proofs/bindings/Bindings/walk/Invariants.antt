use Rattle.std.proofs.Common.{vec_items}
use Rattle.terms.specs.Nodes.{node}
use Rattle.unification.proofs.Indexing.{Reached, ahead}
use Rattle.matching.proofs.bindings.Bindings.walk.Given as goal

abbrev pub invariant-loop-k : goal.invariant-loop-k
invariant-loop-k l = Reached (vec_items l.nodes.nodes) (vec_items l.self.list) l.initial.here.0 l.here.0

abbrev pub decreases-loop-k : goal.decreases-loop-k
decreases-loop-k l = ahead (vec_items l.self.list) (vec_items l.self.index) (node (vec_items l.nodes.nodes) l.here.0)
