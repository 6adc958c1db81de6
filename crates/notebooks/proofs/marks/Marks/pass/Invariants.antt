use Rattle.analysis.specs.Marks.{Passing}
use Rattle.notebooks.specs.Lists.{nodes_of, Same}
use Rattle.notebooks.proofs.marks.Marks.pass.Given as goal

abbrev pub invariant-loop-i : goal.invariant-loop-i
invariant-loop-i l = record { same : Same l.initial.self l.self; passing : Passing (nodes_of l.initial.self.pages.now) l.initial.self.known.now l.i l.self.known.now l.changed }
