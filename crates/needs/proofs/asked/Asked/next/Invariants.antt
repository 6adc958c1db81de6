use Rattle.std.proofs.Common.{ℕ, ◌<◌, None}
use Rattle.terms.specs.Tables.{nodes_in}
use Rattle.needs.specs.Asking.{LacksAt}
use Rattle.needs.proofs.asked.Asked.next.Given as goal

abbrev pub invariant-loop-i : goal.invariant-loop-i
invariant-loop-i l = (j : ℕ) → j < l.i → LacksAt (nodes_in l.nodes) l.reached l.alike l.marked l.self j None
