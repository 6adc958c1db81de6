use Rattle.std.proofs.Common.{ℕ, ◌<◌, None}
use Rattle.terms.specs.Tables.{nodes_in}
use Rattle.needs.specs.Asking.{JudgedAt}
use Rattle.needs.proofs.asked.Asked.judge_all.Given as goal

abbrev pub invariant-loop-i : goal.invariant-loop-i
invariant-loop-i l = (j : ℕ) → j < l.i → JudgedAt (nodes_in l.nodes) l.reached l.alike l.marked l.self j None
