-- A run of two actions: a sealed name under a name of the environment, then a variable whose value is that name.
use Rattle.std.specs.Prelude.{List, [], ◌∷◌, ℕ}
use Rattle.terms.specs.Terms.{Term, name, env, var, seal}
use Rattle.derivation.specs.Derive.{Derives}
use Rattle.lifting.specs.Lift.{Marked, Keyed, known}

-- the open terms of the actions
abbrev pub two_acts : List Term
two_acts = seal (name 7) (env 0) ∷ var 0 ∷ []

-- the variable's value
abbrev pub value : ℕ → Term
value x = name 7

-- the assumptions of lifting and lowering hold of it
abbrev pub MetByTwo : Type 0
MetByTwo = Marked two_acts value × Keyed two_acts value

-- a name that is not in it stays secret
abbrev pub NineSecret : Type 0
NineSecret = (j : ℕ) → ¬ Derives (known two_acts value j) (name 9)
