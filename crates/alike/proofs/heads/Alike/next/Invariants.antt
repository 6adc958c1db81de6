use Rattle.std.proofs.Common.{ℕ, ◌≡◌, ◌<◌, None, length}
use Rattle.terms.specs.Nodes.{node}
use Rattle.terms.specs.Tables.{nodes_in}
use Rattle.alike.specs.Heads.{head}
use Rattle.alike.specs.Finding.{Waits}
use Rattle.alike.proofs.heads.Alike.next.Given as goal

abbrev pub invariant-loop-i : goal.invariant-loop-i
invariant-loop-i l = (j : ℕ) → j < l.i → j < length (nodes_in l.nodes) → head l.self j ≡ None → Waits l.bindings l.self (node (nodes_in l.nodes) j)
