use Rattle.std.proofs.Common.{List, length}
use Rattle.terms.specs.Tables.{nodes_in}
use Rattle.unification.specs.declared.binding.Binding.{Binding}
use Rattle.reach.specs.Steps.{Step, Each, TakenApart}
use Rattle.reach.proofs.parts.Parts.take_all.Given as goal

abbrev pub invariant-loop-i : goal.invariant-loop-i
invariant-loop-i l = (B : List Binding) → Step (nodes_in l.nodes) B l.initial.self l.self (Each (TakenApart (nodes_in l.nodes) l.initial.self) l.i (length (nodes_in l.nodes))) l.changed
