-- With a matcher, a break at the last step is found or there is none.
use Rattle.std.specs.Prelude.{◌≡◌, ◌⊎◌, ℕ, ◌<◌}
use mathlib.Core.List.{List, [], ◌∷◌, ◌++◌, Memᴰ}
use Rattle.terms.specs.Terms.{Term, var, inst, Closed, Vars}
use Rattle.protocol.specs.Strands.{TermStep, At}
use Rattle.lifting.specs.Lift.{Analz}
use Rattle.runs.specs.Protocols.{Protocol, Written, Plain, PlainAction, LawfulProtocol}
use Rattle.runs.specs.Runs.{under, nowhere}
use Rattle.runs.specs.Schedules.{Plan, Breaking}
use Rattle.runs.specs.Apart.{mentions}
use Rattle.runs.specs.Bridge.{action}
use Rattle.runs.specs.Last.{BreakBy}
use Rattle.runs.specs.Told.{said}
use Rattle.runs.specs.Sizes.{one_side, other_side, ProtocolSized}
use Rattle.deciding.specs.Ways.{Meets}
use Rattle.deciding.specs.Scan.{Fits, Grounded}
use Rattle.deciding.specs.Found.{EnvFree, Solved, freshly}

-- what taking apart reaches is decided
abbrev pub AnalzTold : Type 0
AnalzTold = (S : List Term) (t : Term) → Dec (Analz S t)

-- a table of what taking apart reaches
abbrev pub AnalzTable : Type 0
AnalzTable = (S : List Term) → (L : List Term) × ((t : Term) → Memᴰ t L → Analz S t) × ((t : Term) → Analz S t → Memᴰ t L)

-- walked: every variable of the term is one of the first V and unbound, and no name is of the environment
abbrev pub Neat : ℕ → (ℕ → Term) → Term → Type 0
Neat V σ t = Vars (λ y. (y < V) × (σ y ≡ var y)) t × EnvFree t

-- bindings that are walked, among the first V variables, with no name of the environment
pub record Fine (V : ℕ) (σ : ℕ → Term) : Type 0 where
  pub still : (x : ℕ) → Vars (λ y. σ y ≡ var y) (σ x)
  pub few : (x : ℕ) → x < V → Vars (λ y. (y < V) × (σ y ≡ var y)) (σ x)
  pub plain : (x : ℕ) → EnvFree (σ x)

-- matching two unequal walked terms: no instance makes them equal, or exactly the instances of new bindings do, which leave less room
pub record Matcher (V : ℕ) : Type 0 where
  pub room : (ℕ → Term) → ℕ
  pub tries :
      (σ : ℕ → Term) → Fine V σ → (s c : Term) → Neat V σ s → Neat V σ c → ¬ (s ≡ c) →
      ((ρ : ℕ → Term) → ((x : ℕ) → Closed (ρ x)) → Meets σ ρ → ¬ (inst ρ s ≡ inst ρ c)) ⊎ ((σ' : ℕ → Term) × Fine V σ' × Meets σ σ' × (inst σ' s ≡ inst σ' c) × ((ρ : ℕ → Term) → ((x : ℕ) → Closed (ρ x)) → Meets σ ρ → inst ρ s ≡ inst ρ c → Meets σ' ρ) × (room σ' < room σ))

-- what is fixed: the protocol, the steps
pub record Setting (V : ℕ) (S : Protocol) (ps : List TermStep) (p : TermStep) : Type 0 where
  pub grounded : Grounded (ps ++ (p ∷ []))
  pub written : (q : TermStep) → Memᴰ q (ps ++ (p ∷ [])) → Written q
  pub plain_earlier : PlainAction S.earlier
  pub below : (q : TermStep) → Memᴰ q (ps ++ (p ∷ [])) → (t : Term) → Memᴰ t (said q) → Vars (λ x. x < V) t

-- the bindings solve the steps' equations and the last step's match with the later action
pub record Ready (V : ℕ) (S : Protocol) (ps : List TermStep) (p : TermStep) (σ : ℕ → Term) : Type 0 where
  pub fine : Fine V σ
  pub fits : (q : TermStep) → Memᴰ q (ps ++ (p ∷ [])) → Fits σ q
  pub now : action σ p ≡ under σ S.later ∷ []

-- the recursion decides
abbrev pub Decides : Type 0
Decides =
    (V : ℕ) (S : Protocol) (ps : List TermStep) (p : TermStep) →
    AnalzTable → Matcher V → Setting V S ps p →
    (σ : ℕ → Term) → Ready V S ps p σ →
    ((ρ : ℕ → Term) → BreakBy S ps p ρ → Meets σ ρ) →
    ((σ' : ℕ → Term) × Solved S ps p σ') ⊎ ((ρ : ℕ → Term) → ¬ BreakBy S ps p ρ)

-- all variables of the steps and of the later action are among the first V
pub record Sized (V : ℕ) (S : Protocol) (ps : List TermStep) (p : TermStep) : Type 0 where
  pub sides : (q : TermStep) → Memᴰ q (ps ++ (p ∷ [])) → Vars (λ x. x < V) (one_side q) × Vars (λ x. x < V) (other_side q)
  pub later_small : Vars (λ x. x < V) S.later.term
  pub later_plain : Plain S.later.term

-- a break at the last step is decided
abbrev pub BreakDecided : Type 0
BreakDecided =
    (V : ℕ) (S : Protocol) (ps : List TermStep) (p : TermStep) →
    AnalzTable → Matcher V → Setting V S ps p → Sized V S ps p →
    ((σ : ℕ → Term) × Solved S ps p σ × BreakBy S ps p (freshly σ)) ⊎ ((ρ : ℕ → Term) → ¬ BreakBy S ps p ρ)

-- with a matcher alone: whether the schedule s·k is breaking, where s is not
abbrev pub BreakingDecided : Type 0
BreakingDecided =
    (V : ℕ) (S : Protocol) → LawfulProtocol S → ProtocolSized V S → Matcher V →
    (s : List ℕ) (k : ℕ) → ¬ Breaking S s →
    (ps : List TermStep) (p : TermStep) → Plan S nowhere s ps → At S.strands k (mentions k s) p →
    Dec (Breaking S (s ++ (k ∷ [])))

-- there is a matcher
abbrev pub SomeMatcher : Type 0
SomeMatcher = (V : ℕ) → Matcher V

-- and so with no assumption but the law
abbrev pub BreakingTold : Type 0
BreakingTold =
    (V : ℕ) (S : Protocol) → LawfulProtocol S → ProtocolSized V S →
    (s : List ℕ) (k : ℕ) → ¬ Breaking S s →
    (ps : List TermStep) (p : TermStep) → Plan S nowhere s ps → At S.strands k (mentions k s) p →
    Dec (Breaking S (s ++ (k ∷ [])))

-- of a matching that is told by its closed instances: what all of them make equal is equal walked
abbrev pub InstancesEquate : Type 0
InstancesEquate = (V : ℕ) (σ : ℕ → Term) → Fine V σ → (s c : Term) → EnvFree s → EnvFree c → ((ρ : ℕ → Term) → ((x : ℕ) → Closed (ρ x)) → Meets σ ρ → inst ρ s ≡ inst ρ c) → inst σ s ≡ inst σ c

-- and what they all meet is extended
abbrev pub InstancesExtend : Type 0
InstancesExtend = (V : ℕ) (σ σ' : ℕ → Term) → Fine V σ → Fine V σ' → ((ρ : ℕ → Term) → ((x : ℕ) → Closed (ρ x)) → Meets σ' ρ → Meets σ ρ) → Meets σ σ'
