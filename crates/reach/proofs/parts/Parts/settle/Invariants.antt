use Rattle.terms.specs.Tables.{nodes_in}
use Rattle.reach.specs.Parts.{left}
use Rattle.reach.specs.Steps.{Above}
use Rattle.reach.proofs.parts.Parts.settle.Given as goal

abbrev pub invariant-loop : goal.invariant-loop
invariant-loop l = Above (nodes_in l.nodes) l.bindings l.initial.self l.self

abbrev pub decreases-loop : goal.decreases-loop
decreases-loop l = left l.self
