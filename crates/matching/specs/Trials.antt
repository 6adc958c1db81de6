-- What a trial holds.
use Rattle.std.specs.Prelude.{ℕ, List, take}
use Rattle.unification.specs.declared.binding.Binding.{Binding}
use Rattle.matching.specs.declared.matching.Matching.{Matching}
use Rattle.matching.specs.declared.trial.Trial.{Trial}
use Rattle.matching.specs.Matchings.{bound}

-- the matching as it is now
abbrev pub under : Trial → Matching
under t = t.matching.now

-- which loan of a matching it holds: a call that keeps the loan keeps the matching that will be cut back
abbrev pub loan : Trial → ℕ
loan t = t.matching.ghost_name

-- how many bindings there were when it began
abbrev pub found : Trial → ℕ
found t = t.mark

-- the bindings that it cuts back to
abbrev pub kept : Trial → List Binding
kept t = take (found t) (bound (under t))
