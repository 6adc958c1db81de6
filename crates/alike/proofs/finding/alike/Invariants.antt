use Rattle.terms.specs.Tables.{nodes_in}
use Rattle.alike.specs.Heads.{room}
use Rattle.alike.proofs.Heading.{AllHeaded}
use Rattle.alike.proofs.finding.alike.Given as goal

abbrev pub invariant-loop-n : goal.invariant-loop-n
invariant-loop-n l = AllHeaded (nodes_in l.nodes) l.bindings l.alike

abbrev pub decreases-loop-n : goal.decreases-loop-n
decreases-loop-n l = room l.alike
