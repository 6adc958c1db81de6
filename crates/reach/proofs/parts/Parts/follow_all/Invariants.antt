use Rattle.terms.specs.Tables.{nodes_in}
use Rattle.reach.specs.Steps.{Step, Each, MarksPassed}
use Rattle.reach.proofs.parts.Parts.follow_all.Given as goal

abbrev pub invariant-loop-b : goal.invariant-loop-b
invariant-loop-b l = Step (nodes_in l.nodes) l.bindings l.initial.self l.self (Each (MarksPassed (nodes_in l.nodes) l.bindings l.initial.self) 0 l.b-index) l.changed
