use Rattle.std.proofs.Common.{ℕ, ◌<◌}
use Rattle.terms.specs.Tables.{nodes_in}
use Rattle.alike.specs.Finding.{Fits}
use Rattle.alike.proofs.heads.Alike.seek.Given as goal

abbrev pub invariant-loop-i : goal.invariant-loop-i
invariant-loop-i l = (j : ℕ) → j < l.i → Fits (nodes_in l.nodes) l.self j l.key → ⊥
