use Rattle.std.proofs.Common.{ℕ, ◌≡◌, ◌<◌, true}
use Rattle.reach.specs.Reached.{seal_in}
use Rattle.alike.specs.Heads.{Same}
use Rattle.needs.proofs.asking.boxed.Given as goal

abbrev pub invariant-loop-i : goal.invariant-loop-i
invariant-loop-i l = (j : ℕ) → j < l.i → seal_in l.reached j ≡ true → Same l.alike l.n.0 j → ⊥
