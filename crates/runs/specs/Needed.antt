-- Why a lawful protocol's splits bind two variables: one that binds a variable twice has a run that no valuation solves.
use Rattle.std.specs.Prelude.{ℕ, [], ◌∷◌, ◌≢◌}
use Rattle.std.proofs.Math.Option.{none}
use Rattle.terms.specs.Terms.{Term, name, var}
use Rattle.protocol.specs.Strands.{input, splits}
use Rattle.runs.specs.Protocols.{Protocol}
use Rattle.runs.specs.Runs.{State, Runs, received}
use Rattle.runs.specs.Bridge.{actions, Solution}

-- the halves of an input are bound to one variable
abbrev pub split_twice : Protocol
split_twice = record { strands = (input 0 0 ∷ splits (var 0) 1 1 ∷ []) ∷ []; earlier = none; later = received 1 (name 0) }

-- it has a run that no valuation solves
abbrev pub ApartNeeded : Type 0
ApartNeeded = (st : State) × Runs split_twice (0 ∷ 0 ∷ []) st × ((ρ : ℕ → Term) (sol : Solution split_twice (0 ∷ 0 ∷ []) ρ) → st.run ≢ actions ρ sol.steps)
