-- Beginnings of a strand that values satisfy, and what matching holds of them.
use Rattle.std.specs.Prelude.{◌≡◌, ℕ, suc, ◌<◌, ◌≤◌, List, [], map, length, take, Some, None, Option, slice_index_or}
use Rattle.terms.specs.Terms.{Term, var, pair, seal, Closed}
use Rattle.terms.specs.Nodes.{term}
use Rattle.terms.specs.declared.node.Node.{Node}
use Rattle.protocol.specs.Lawful.{Content}
use Rattle.protocol.specs.Strands.{TermStep, first, second, variable, step_of}
use Rattle.protocol.specs.declared.step.Step.{Step}
use Rattle.protocol.specs.declared.step.Step.TheVariants.{Input, Output, Open, Split, Same}
use Rattle.runs.specs.Schedules.{Holds, AllHold}
use Rattle.unification.specs.Bindings.{Instance}
use Rattle.unification.specs.declared.binding.Binding.{Binding}
use Rattle.limits.specs.Demands.{Meets}
use Rattle.limits.specs.declared.demands.Demands.{Demands}

-- the step is of nodes of the table, and its pattern is what the step means
abbrev pub StepFits : List Node → Step → Type 0
StepFits ns (Input l x) = x.0 < 64
StepFits ns (Output l n) = n.0 < length ns
StepFits ns (Open s p) = (s.0 < length ns) × (p.0 < length ns) × (term ns p.0 ≡ seal (var (variable (first (term ns p.0)))) (second (term ns p.0)))
StepFits ns (Split s p) = (s.0 < length ns) × (p.0 < length ns) × (term ns p.0 ≡ pair (var (variable (first (term ns p.0)))) (var (variable (second (term ns p.0)))))
StepFits ns (Same a b) = (a.0 < length ns) × (b.0 < length ns)

-- the values are an instance of the bindings and as is asked
abbrev pub Solves : List Node → List Binding → Demands → (ℕ → Term) → Type 0
Solves ns B d ρ = Instance ns B ρ × Meets d ρ

-- no values that solve the old state satisfy the step
abbrev pub NoStep : List Node → List Binding → Demands → TermStep → Type 0
NoStep ns B d p = (ρ : ℕ → Term) → Solves ns B d ρ → Holds ρ p → ⊥

-- what solves the new state is what solves the old one and satisfies the step
abbrev pub Exactly : List Node → List Binding → Demands → TermStep → List Binding → Demands → Type 0
Exactly ns B d p B' d' = (ρ : ℕ → Term) → (Solves ns B d ρ → Holds ρ p → Solves ns B' d' ρ) × (Solves ns B' d' ρ → Solves ns B d ρ × Holds ρ p)

-- closed terms solve the state
abbrev pub Solvable : List Node → List Binding → Demands → Type 0
Solvable ns B d = (ρ : ℕ → Term) × ((x : ℕ) → Closed (ρ x)) × Solves ns B d ρ

-- a step was asked for
abbrev pub Asked : List Node → List Binding → Demands → TermStep → List Binding → Option Demands → Type 0
Asked ns B d p B' None = NoStep ns B d p
Asked ns B d p B' (Some d') = Exactly ns B d p B' d'

-- a step was taken, or cannot be
abbrev pub Taken : List Node → List Binding → Demands → TermStep → List Binding → Option Demands → Type 0
Taken ns B d p B' None = NoStep ns B d p
Taken ns B d p B' (Some d') = Exactly ns B d p B' d' × Solvable ns B' d'

-- the first n of these steps can be satisfied together
abbrev pub FeasibleTo : List TermStep → ℕ → Type 0
FeasibleTo ps n = (n ≤ length ps) × (ρ : ℕ → Term) × ((x : ℕ) → Closed (ρ x)) × AllHold ρ (take n ps)

-- and no more of them
abbrev pub LongestOf : List TermStep → ℕ → Type 0
LongestOf ps n = FeasibleTo ps n × (FeasibleTo ps (suc n) → ⊥)

-- the steps of strand k over terms
abbrev pub strand_steps : Content → ℕ → List TermStep
strand_steps C k = map (step_of C.nodes) (slice_index_or C.strands k [])
