-- A run of a schedule is a simultaneous solution of its steps.
use Rattle.std.specs.Prelude.{◌≡◌, ℕ, List, [], ◌∷◌, ◌++◌}
use Rattle.terms.specs.Terms.{Term, inst, Closed}
use Rattle.protocol.specs.Strands.{TermStep, input, output, opens, splits, same}
use Rattle.derivation.specs.Derive.{Derives}
use Rattle.runs.specs.Protocols.{TermAction, Protocol, LawfulProtocol}
use Rattle.runs.specs.Runs.{State, Runs, Moves, received, sent, messages, nowhere, Breaks}
use Rattle.runs.specs.Schedules.{Plan, AllHold, Feasible, Breaking}

-- the action of a step under ρ, if it is one
abbrev pub action : (ℕ → Term) → TermStep → List TermAction
action ρ (input l x) = received l (ρ x) ∷ []
action ρ (output l n) = sent l (inst ρ n) ∷ []
action ρ (opens s x k) = []
action ρ (splits s x y) = []
action ρ (same n m) = []

-- the actions of the steps under ρ
abbrev pub actions : (ℕ → Term) → List TermStep → List TermAction
actions ρ [] = []
actions ρ (p ∷ ps) = action ρ p ++ actions ρ ps

-- an input is derived from these terms
abbrev pub FedFrom : (ℕ → Term) → List Term → TermStep → Type 0
FedFrom ρ K (input l x) = Derives K (ρ x)
FedFrom ρ K (output l n) = Unit {0}
FedFrom ρ K (opens s x k) = Unit {0}
FedFrom ρ K (splits s x y) = Unit {0}
FedFrom ρ K (same n m) = Unit {0}

-- each input is derived from the run before it, `r` being what went before these steps
abbrev pub AllFed : (ℕ → Term) → List TermAction → List TermStep → Type 0
AllFed ρ r [] = Unit {0}
AllFed ρ r (p ∷ ps) = FedFrom ρ (messages r) p × AllFed ρ (r ++ action ρ p) ps

-- one closed valuation that satisfies the schedule's steps and feeds its inputs
pub record Solution (S : Protocol) (s : List ℕ) (ρ : ℕ → Term) : Type 0 where
  pub closed : (x : ℕ) → Closed (ρ x)
  pub steps : List TermStep
  pub plan : Plan S nowhere s steps
  pub hold : AllHold ρ steps
  pub feeds : AllFed ρ [] steps

-- a run is a solution, and its actions are the run
abbrev pub RunSolves : Type 0
RunSolves = (S : Protocol) → LawfulProtocol S → (s : List ℕ) (st : State) → Runs S s st → (ρ : ℕ → Term) × (sol : Solution S s ρ) × (st.run ≡ actions ρ sol.steps)

-- and a solution is run
abbrev pub SolutionRuns : Type 0
SolutionRuns = (S : Protocol) → LawfulProtocol S → (s : List ℕ) (ρ : ℕ → Term) (sol : Solution S s ρ) → (st : State) × Runs S s st × (st.run ≡ actions ρ sol.steps)

-- a beginning of a run is a run
abbrev pub BeginningRuns : Type 0
BeginningRuns = (S : Protocol) (s s' : List ℕ) (st : State) → Runs S (s ++ s') st → (st₁ : State) × Runs S s st₁ × (rest : List TermAction) × (st.run ≡ st₁.run ++ rest)

-- a beginning of a feasible schedule is feasible
abbrev pub BeginningFeasible : Type 0
BeginningFeasible = (S : Protocol) (s s' : List ℕ) → Feasible S (s ++ s') → Feasible S s

-- a breaking schedule is feasible
abbrev pub BreakingFeasible : Type 0
BreakingFeasible = (S : Protocol) → LawfulProtocol S → (s : List ℕ) → Breaking S s → Feasible S s

-- where s is not breaking, s·k breaks only with the later action at its last step
abbrev pub BreaksLast : Type 0
BreaksLast =
    (S : Protocol) (s : List ℕ) (k : ℕ) →
    ¬ Breaking S s →
    (st : State) → Runs S (s ++ (k ∷ [])) st →
    (ρ : ℕ → Term) (before after : List TermAction) → Breaks S ρ before after st.run →
    (after ≡ []) × (st₁ : State) × Runs S s st₁ × Moves S st₁ k st × (st₁.run ≡ before)
