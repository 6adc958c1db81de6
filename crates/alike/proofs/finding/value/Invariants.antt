use Rattle.std.proofs.Common.{ℕ, ◌≡◌, ◌<◌}
use Rattle.unification.specs.Bindings.{variable_at}
use Rattle.alike.proofs.finding.value.Given as goal

abbrev pub invariant-loop-b : goal.invariant-loop-b
invariant-loop-b l = (k : ℕ) → k < l.b-index → variable_at l.bindings k ≡ l.x.0 → ⊥
