use Rattle.std.proofs.Common.{◌-◌, ◌^◌, vec_items}
use Rattle.unification.proofs.Reaching.{Spread}
use Rattle.matching.proofs.bindings.Bindings.reaches.Given as goal

abbrev pub invariant-loop-b : goal.invariant-loop-b
invariant-loop-b l = Spread (vec_items l.nodes.nodes) (vec_items l.self.list) l.initial.reach.0 l.reach.0

abbrev pub decreases-loop-b : goal.decreases-loop-b
decreases-loop-b l = 2 ^ 64 - l.reach.0
