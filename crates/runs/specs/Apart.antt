-- Strands share no variables, so a schedule is feasible where the beginning of each strand is.
use Rattle.std.specs.Prelude.{ℕ, suc, ◌≤◌, cond, ◌↔◌, List, [], ◌∷◌, length, take, ◌==◌}
use Rattle.terms.specs.Terms.{Term, Closed}
use Rattle.runs.specs.Protocols.{Protocol, strand, LawfulProtocol}
use Rattle.runs.specs.Schedules.{AllHold, Feasible}

-- how often the schedule mentions strand k
abbrev pub mentions : ℕ → List ℕ → ℕ
mentions k [] = 0
mentions k (j ∷ s) = cond (k == j) (suc (mentions k s)) (mentions k s)

-- the first n steps of strand k can be satisfied together
abbrev pub OwnFeasible : Protocol → ℕ → ℕ → Type 0
OwnFeasible S k n = (n ≤ length (strand S k)) × (ρ : ℕ → Term) × ((x : ℕ) → Closed (ρ x)) × AllHold ρ (take n (strand S k))

-- a schedule is feasible where the beginnings of its strands are, each on its own
abbrev pub StrandsApart : Type 0
StrandsApart = (S : Protocol) → LawfulProtocol S → (s : List ℕ) → Feasible S s ↔ ((k : ℕ) → OwnFeasible S k (mentions k s))

-- the strand's longest feasible beginning
abbrev pub Longest : Protocol → (ℕ → ℕ) → Type 0
Longest S most = (k : ℕ) → OwnFeasible S k (most k) × (¬ OwnFeasible S k (suc (most k)))

-- feasible is a matter of counting
abbrev pub FeasibleCounts : Type 0
FeasibleCounts = (S : Protocol) → LawfulProtocol S → (most : ℕ → ℕ) → Longest S most → (s : List ℕ) → Feasible S s ↔ ((k : ℕ) → mentions k s ≤ most k)
