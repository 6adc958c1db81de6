use Rattle.analysis.specs.Parts.{free}
use Rattle.analysis.specs.Marks.{Above}
use Rattle.notebooks.specs.Lists.{nodes_of, Same}
use Rattle.notebooks.proofs.marks.Marks.settle.Given as goal

abbrev pub invariant-loop : goal.invariant-loop
invariant-loop l = record { same : Same l.initial.self l.self; above : Above (nodes_of l.initial.self.pages.now) l.initial.self.known.now l.self.known.now }

abbrev pub decreases-loop : goal.decreases-loop
decreases-loop l = free l.self.known.now
