-- What each step of taking apart does: s is what was reached before it, s' after it.
use Rattle.std.specs.Prelude.{◌≡◌, ℕ, ◌<◌, ◌≤◌, Bool, true, false, List, length}
use Rattle.terms.specs.Terms.{Term, var}
use Rattle.terms.specs.Nodes.{node}
use Rattle.terms.specs.declared.node.Node.{Node}
use Rattle.terms.specs.declared.node.Node.TheVariants.{Name, Env, Var, Pair, Seal}
use Rattle.lifting.specs.Lift.{Analz}
use Rattle.unification.specs.Bindings.{variable_at, node_at, val, Extension}
use Rattle.unification.specs.declared.binding.Binding.{Binding}
use Rattle.reach.specs.Parts.{marked, Seen, Opening, Opens, Sound, Grows, AllFiled, left}
use Rattle.reach.specs.declared.parts.Parts.{Parts}

-- the values under the bindings: a bound variable has that of its node, an unbound one stands for itself
abbrev pub Values : List Node → List Binding → (ℕ → Term) → Type 0
Values ns B θ = Extension ns B var θ

-- some binding binds the variable
abbrev pub Bound : List Binding → ℕ → Type 0
Bound B x = (k : ℕ) × (k < length B) × (variable_at B k ≡ x)

-- s' has what s has, and no more than what taking apart reaches
pub record Above (ns : List Node) (B : List Binding) (s s' : Parts) : Type 0 where
  pub grows : Grows s s'
  pub filed : AllFiled ns s → AllFiled ns s'
  pub sound : (θ : ℕ → Term) (S : List Term) → Values ns B θ → Sound ns θ S s → Sound ns θ S s'

-- a step that changes something leaves less to mark, and after one that changes nothing P holds
abbrev pub Step : List Node → List Binding → Parts → Parts → Type 0 → Bool → Type 0
Step ns B s s' P true = Above ns B s s' × (left s' < left s)
Step ns B s s' P false = (s' ≡ s) × P

-- node n is marked, where it is a node
pub record Marked (ns : List Node) (s : Parts) (n : ℕ) (s' : Parts) : Type 0 where
  pub grows : Grows s s'
  pub filed : AllFiled ns s → AllFiled ns s'
  pub sound : (θ : ℕ → Term) (S : List Term) → (n < length ns → Analz S (val ns θ n)) → Sound ns θ S s → Sound ns θ S s'
  pub here : n < length ns → marked s' n ≡ true

-- one mark, and whether it is new
abbrev pub Marking : List Node → Parts → ℕ → Parts → Bool → Type 0
Marking ns s n s' true = Marked ns s n s' × (left s' < left s)
Marking ns s n s' false = (s' ≡ s) × (n < length ns → marked s n ≡ true)

-- what the node comes apart into is marked
abbrev pub Apart : List Node → Parts → Node → Type 0
Apart ns s (Name a) = Unit {0}
Apart ns s (Env e) = Unit {0}
Apart ns s (Var x) = Unit {0}
Apart ns s (Pair l r) = (marked s l.0 ≡ true) × (marked s r.0 ≡ true)
Apart ns s (Seal b k) = Opens s (node ns k.0) → marked s b.0 ≡ true

-- node i is taken apart, if it is marked
abbrev pub TakenApart : List Node → Parts → ℕ → Type 0
TakenApart ns s i = marked s i ≡ true → Apart ns s (node ns i)

-- where the variable is marked, its node is
abbrev pub MarkPassed : List Node → Parts → ℕ → ℕ → Type 0
MarkPassed ns s x n = Seen s x → n < length ns → marked s n ≡ true

-- where its node opens, the variable does
abbrev pub OpenPassed : List Node → Parts → ℕ → ℕ → Type 0
OpenPassed ns s x n = x < 64 → n < length ns → Opens s (node ns n) → Opening s x

-- the same of binding k
abbrev pub MarksPassed : List Node → List Binding → Parts → ℕ → Type 0
MarksPassed ns B s k = MarkPassed ns s (variable_at B k) (node_at B k)

abbrev pub OpensPassed : List Node → List Binding → Parts → ℕ → Type 0
OpensPassed ns B s k = OpenPassed ns s (variable_at B k) (node_at B k)

-- P holds of each number from i on, below n
abbrev pub Each : (ℕ → Type 0) → ℕ → ℕ → Type 0
Each P i n = (k : ℕ) → i ≤ k → k < n → P k

-- every marked variable is followed, and every marked node taken apart
abbrev pub AllMarked : List Node → List Binding → Parts → Type 0
AllMarked ns B s = Each (MarksPassed ns B s) 0 (length B) × Each (TakenApart ns s) 0 (length ns)

-- nothing more is reached
abbrev pub Rests : List Node → List Binding → Parts → Type 0
Rests ns B s = AllMarked ns B s × Each (OpensPassed ns B s) 0 (length B)

-- all that comes of s is reached in s'
abbrev pub Settled : List Node → List Binding → Parts → Parts → Type 0
Settled ns B s s' = Above ns B s s' × Rests ns B s'
