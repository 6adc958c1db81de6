-- States, moves and runs of a protocol, and when a run is broken.
use Rattle.std.specs.Prelude.{◌≡◌, ℕ, suc, cond, List, [], ◌∷◌, ◌++◌, map, ◌==◌}
use Rattle.std.proofs.Math.Option.{Option, none, some}
use mathlib.Core.List.{Memᴰ}
use Rattle.terms.specs.Terms.{Term, name, env, var, pair, seal, inst, Closed, Message}
use Rattle.protocol.specs.Strands.{TermStep, input, output, opens, splits, same, At}
use Rattle.protocol.specs.declared.step.Direction.TheVariants.{Input, Output}
use Rattle.derivation.specs.Derive.{Derives}
use Rattle.runs.specs.Protocols.{TermAction, Protocol}

-- partial values of the variables
abbrev pub Values : Type 0
Values = ℕ → Option Term

-- under these values the term's value is that
pub data Means (v : Values) : Term → Term → Type 0 where
  a_name : (n : ℕ) → Means v (name n) (name n)
  an_env : (n : ℕ) → Means v (env n) (env n)
  a_value : {x : ℕ} {M : Term} → v x ≡ some M → Means v (var x) M
  a_pair : {a b A B : Term} → Means v a A → Means v b B → Means v (pair a b) (pair A B)
  a_seal : {b k B K : Term} → Means v b B → Means v k K → Means v (seal b k) (seal B K)

-- one value more
abbrev pub bind : Values → ℕ → Term → Values
bind v x M y = cond (y == x) (some M) (v y)

-- an input action
abbrev pub received : ℕ → Term → TermAction
received l M = record { direction = Input; label = l; term = M }

-- an output action
abbrev pub sent : ℕ → Term → TermAction
sent l M = record { direction = Output; label = l; term = M }

-- what a step does to the values, and the actions that it adds; K are the run's terms
pub data Does (v : Values) (K : List Term) : TermStep → Values → List TermAction → Type 0 where
  fed : {l x : ℕ} (M : Term) → Closed M → Message M → Derives K M → Does v K (input l x) (bind v x M) (received l M ∷ [])
  put_out : {l : ℕ} {n M : Term} → Means v n M → Message M → Does v K (output l n) v (sent l M ∷ [])
  opened : {s k b c : Term} {x : ℕ} → Means v s (seal b c) → Means v k c → Does v K (opens s x k) (bind v x b) []
  halved : {s a b : Term} {x y : ℕ} → Means v s (pair a b) → Does v K (splits s x y) (bind (bind v x a) y b) []
  agreed : {n m M : Term} → Means v n M → Means v m M → Does v K (same n m) v []

-- where each strand stands, the values, and the run so far
pub record State : Type 0 where
  pub next : ℕ → ℕ
  pub value : Values
  pub run : List TermAction

-- strand k one step further
abbrev pub onward : (ℕ → ℕ) → ℕ → ℕ → ℕ
onward next k j = cond (j == k) (suc (next j)) (next j)

-- the terms of the run's actions
abbrev pub messages : List TermAction → List Term
messages r = map (λ (a : TermAction). a.term) r

-- no strand has taken a step
abbrev pub nowhere : ℕ → ℕ
nowhere k = 0

-- the start: no step, no value, no action
abbrev pub start : State
start = record { next = nowhere; value = λ x. none; run = [] }

-- strand k takes its next step
pub data Moves (S : Protocol) (st : State) (k : ℕ) : State → Type 0 where
  moved : {p : TermStep} {v : Values} {more : List TermAction} → At S.strands k (st.next k) p → Does st.value (messages st.run) p v more → Moves S st k (record { next = onward st.next k; value = v; run = st.run ++ more })

-- the strands of the schedule move in its order
pub data Goes (S : Protocol) : State → List ℕ → State → Type 0 where
  stop : {st st' : State} → st ≡ st' → Goes S st [] st'
  step : {st : State} {k : ℕ} {s : List ℕ} {st₁ st₂ : State} → Moves S st k st₁ → Goes S st₁ s st₂ → Goes S st (k ∷ s) st₂

-- the schedule's steps in its order lead from the start to this state
abbrev pub Runs : Protocol → List ℕ → State → Type 0
Runs S s st = Goes S start s st

-- the action under a valuation
abbrev pub under : (ℕ → Term) → TermAction → TermAction
under ρ a = record { direction = a.direction; label = a.label; term = inst ρ a.term }

-- the action, where there is one, is not in the run
abbrev pub Absent : (ℕ → Term) → Option TermAction → List TermAction → Type 0
Absent ρ none r = Unit {0}
Absent ρ (some a) r = ¬ Memᴰ (under ρ a) r

-- these messages put the later action after `before`, and no earlier action in it
abbrev pub Breaks : Protocol → (ℕ → Term) → List TermAction → List TermAction → List TermAction → Type 0
Breaks S ρ before after r = ((x : ℕ) → Closed (ρ x)) × ((x : ℕ) → Message (ρ x)) × (r ≡ before ++ (under ρ S.later ∷ after)) × Absent ρ S.earlier before

-- some messages break the property in the run
abbrev pub Broken : Protocol → List TermAction → Type 0
Broken S r = (ρ : ℕ → Term) × (before : List TermAction) × (after : List TermAction) × Breaks S ρ before after r
