-- What benches and searches build on: runs go on, a search that answers holds keeps every run, one valuation for a break.
use Rattle.std.specs.Prelude.{◌≡◌, ℕ, ◌<◌, ◌⊎◌, ◌↔◌, List, [], ◌∷◌, ◌++◌}
use Rattle.terms.specs.Terms.{Term}
use Rattle.runs.specs.Protocols.{TermAction, Protocol, LawfulProtocol}
use Rattle.runs.specs.Runs.{State, Moves, Runs, Broken, under, Absent}
use Rattle.runs.specs.Schedules.{Breaking, ◌≺◌, holds, Answers}
use Rattle.runs.specs.Bridge.{actions, Solution}
use Rattle.runs.specs.Apart.{mentions}

-- a move after a run is a run
abbrev pub RunsOn : Type 0
RunsOn = (S : Protocol) (s : List ℕ) (st : State) (k : ℕ) (st' : State) → Runs S s st → Moves S st k st' → Runs S (s ++ (k ∷ [])) st'

-- a strand stands where its mentions left it
abbrev pub StandsAt : Type 0
StandsAt = (S : Protocol) (s : List ℕ) (st : State) → Runs S s st → (k : ℕ) → st.next k ≡ mentions k s

-- where the search answers holds at some budget, every run is kept
abbrev pub KeptRelease : Type 0
KeptRelease = (S : Protocol) → LawfulProtocol S → (budget c : ℕ) → Answers S budget (holds c) → (s : List ℕ) (st : State) → Runs S s st → ¬ Broken S st.run

-- one valuation solves the steps and puts the property's actions where they break it
abbrev pub BreakingSolution : Protocol → List ℕ → (ℕ → Term) → Type 0
BreakingSolution S s ρ = (sol : Solution S s ρ) × (before : List TermAction) × (after : List TermAction) × (actions ρ sol.steps ≡ before ++ (under ρ S.later ∷ after)) × Absent ρ S.earlier before

-- a break has one valuation for the run and the property
abbrev pub OneValuation : Type 0
OneValuation = (S : Protocol) → LawfulProtocol S → (s : List ℕ) → Breaking S s ↔ ((ρ : ℕ → Term) × BreakingSolution S s ρ)

-- the order as it is told: a proper beginning, or the smaller strand at the first difference
abbrev pub OrderTold : Type 0
OrderTold = (s t : List ℕ) → (s ≺ t) ↔ (((k : ℕ) × (r : List ℕ) × (t ≡ s ++ (k ∷ r))) ⊎ ((c : List ℕ) × (a : ℕ) × (b : ℕ) × (s' : List ℕ) × (t' : List ℕ) × (s ≡ c ++ (a ∷ s')) × (t ≡ c ++ (b ∷ t')) × (a < b)))
