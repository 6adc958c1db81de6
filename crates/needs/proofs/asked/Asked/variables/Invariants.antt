use Rattle.terms.specs.Tables.{nodes_in}
use Rattle.needs.specs.Asking.{Collected}
use Rattle.needs.proofs.asked.Asked.variables.Given as goal

abbrev pub invariant-loop-i : goal.invariant-loop-i
invariant-loop-i l = Collected (nodes_in l.nodes) l.fn.marked l.self l.i l.set
