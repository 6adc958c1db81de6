use Rattle.terms.specs.Tables.{nodes_in}
use Rattle.needs.specs.Asked.{room}
use Rattle.needs.proofs.Growing.{Begun}
use Rattle.needs.proofs.settling.need.Given as goal

abbrev pub invariant-loop-c : goal.invariant-loop-c
invariant-loop-c l = Begun (nodes_in l.nodes) l.bindings l.reached l.alike l.marked l.fn.node.0 l.asked

abbrev pub decreases-loop-c : goal.decreases-loop-c
decreases-loop-c l = room l.asked
