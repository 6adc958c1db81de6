-- A way of the decision: the steps, the bindings, what is forced; and what is sure on it.
use Rattle.std.specs.Prelude.{◌≡◌, ℕ, ◌<◌, length, take}
use Rattle.std.proofs.Math.Option.{some}
use mathlib.Core.List.{List, [], ◌∷◌, ◌++◌, map, Memᴰ}
use Rattle.std.proofs.Math.ListN.{get_elem?}
use Rattle.terms.specs.Terms.{Term, name, env, var, pair, seal, inst, Vars}
use Rattle.protocol.specs.Strands.{TermStep, input}
use Rattle.derivation.specs.Derive.{Derives}
use Rattle.lifting.specs.Lift.{Analz, known}
use Rattle.runs.specs.Protocols.{Protocol}
use Rattle.runs.specs.Last.{BreakBy}
use Rattle.runs.specs.Told.{all_said}

-- the valuation is an instance of the bindings
abbrev pub Meets : (ℕ → Term) → (ℕ → Term) → Type 0
Meets σ ρ = (x : ℕ) → ρ x ≡ inst ρ (σ x)

-- a variable that is taken for derived from a time on
pub record Mark : Type 0 where
  pub who : ℕ
  pub time : ℕ

-- the protocol, the steps before, the last step, the bindings and what is forced on this way
pub record Way : Type 0 where
  pub protocol : Protocol
  pub before : List TermStep
  pub last : TermStep
  -- each variable, walked
  pub binds : ℕ → Term
  pub forced : List Mark

-- all steps of the way
abbrev pub steps : Way → List TermStep
steps w = w.before ++ (w.last ∷ [])

-- the open terms of the actions, walked
abbrev pub acts : Way → List Term
acts w = map (inst w.binds) (all_said (steps w))

-- a break that is on this way
pub record Good (w : Way) (ρ : ℕ → Term) : Type 0 where
  pub breaks : BreakBy w.protocol w.before w.last ρ
  pub meets : Meets w.binds ρ
  pub forces : (m : Mark) → Memᴰ m w.forced → Derives (known (acts w) ρ m.time) (ρ m.who)

-- the answer no
abbrev pub No : Way → Type 0
No w = (ρ : ℕ → Term) → ¬ Good w ρ

-- on this way the term is always derived before action j
abbrev pub Sure : Way → ℕ → Term → Type 0
Sure w j t = (ρ : ℕ → Term) → Good w ρ → Derives (known (acts w) ρ j) (inst ρ t)

-- every variable of an action before j is sure at that action's time
abbrev pub Settled : Way → ℕ → Type 0
Settled w j = (i : ℕ) (t : Term) → i < j → get_elem? (acts w) i ≡ some t → Vars (λ x. Sure w i (var x)) t

-- what taking apart reaches before action j
abbrev pub Reached : Way → ℕ → Term → Type 0
Reached w j t = Analz (take j (acts w)) t

-- which names are reached is decided
abbrev pub ToldNames : Way → ℕ → Type 0
ToldNames w j = (n : ℕ) → Dec (Reached w j (name n))

-- the two terms are equal in no break on this way
abbrev pub Unmatched : Way → Term → Term → Type 0
Unmatched w s c = (ρ : ℕ → Term) → Good w ρ → ¬ (inst ρ s ≡ inst ρ c)

-- no box under a name that is not reached is this term
abbrev pub NoBox : Way → ℕ → Term → Type 0
NoBox w j s = (b : Term) (n : ℕ) → Reached w j (seal b (name n)) → ¬ Reached w j (name n) → Unmatched w s (seal b (name n))

-- the same way with the variable taken for derived from time j on
abbrev pub force : Way → ℕ → ℕ → Way
force w x j = record { protocol = w.protocol; before = w.before; last = w.last; binds = w.binds; forced = record { who = x; time = j } ∷ w.forced }

-- new bindings, and nothing forced
abbrev pub rebind : Way → (ℕ → Term) → Way
rebind w σ = record { protocol = w.protocol; before = w.before; last = w.last; binds = σ; forced = [] }

-- the need of a term is met, from what taking S apart reaches and the marked variables M
pub data Met (S : List Term) (M : List ℕ) : Term → Type 0 where
  by_mark : {x : ℕ} → Memᴰ x M → Met S M (var x)
  by_name : {n : ℕ} → Analz S (name n) → Met S M (name n)
  by_env : (n : ℕ) → Met S M (env n)
  by_pair : {a b : Term} → Met S M a → Met S M b → Met S M (pair a b)
  by_open_key : {m : Term} {n : ℕ} → Analz S (name n) → Met S M m → Met S M (seal m (name n))
  by_env_key : {m : Term} (n : ℕ) → Met S M m → Met S M (seal m (env n))
  by_marked_key : {m : Term} {x : ℕ} → Memᴰ x M → Met S M m → Met S M (seal m (var x))
  by_equal_box : {m u : Term} → Analz S (seal m u) → Met S M (seal m u)

-- each input at place j is met from the walked actions before it
abbrev pub Through : (ℕ → Term) → List TermStep → Type 0
Through σ ps =
    (qs : List TermStep) (l x : ℕ) (rs : List TermStep) → ps ≡ qs ++ (input l x ∷ rs) →
    (M : List ℕ) × Met (take (length (all_said qs)) (map (inst σ) (all_said ps))) M (σ x)
