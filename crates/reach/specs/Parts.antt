-- What taking apart has reached so far.
use Rattle.std.specs.Prelude.{◌≡◌, ℕ, ◌+◌, ◌-◌, ◌^◌, ◌<◌, Bool, true, List, length}
use Rattle.terms.specs.Terms.{Term, name, env, var, pair, seal}
use Rattle.terms.specs.Bits.{In}
use Rattle.terms.specs.Nodes.{node}
use Rattle.terms.specs.Sets.{bits}
use Rattle.terms.specs.declared.node.Node.{Node}
use Rattle.terms.specs.declared.node.Node.TheVariants.{Name, Env, Var, Pair, Seal}
use Rattle.lifting.specs.Lift.{Analz}
use Rattle.unification.specs.Bindings.{val}
use Rattle.reach.specs.Numbers.{has, room}
use Rattle.reach.specs.declared.parts.Parts.{Parts}

abbrev pub marked : Parts → ℕ → Bool
marked s i = has s.marks i

abbrev pub named : Parts → ℕ → Bool
named s a = has s.names a

abbrev pub sealed : Parts → ℕ → Bool
sealed s i = has s.seals i

-- a marked node is the variable
abbrev pub Seen : Parts → ℕ → Type 0
Seen s x = In x (bits s.variables)

-- the value of the variable opens what it is the key of
abbrev pub Opening : Parts → ℕ → Type 0
Opening s x = In x (bits s.opening)

-- as a key the node opens
abbrev pub Opens : Parts → Node → Type 0
Opens s (Name a) = named s a.0 ≡ true
Opens s (Env e) = Unit {0}
Opens s (Var x) = Opening s x.0
Opens s (Pair l r) = ⊥
Opens s (Seal b k) = ⊥

-- the key is taken for known: a variable, a name of the environment, or a local name that is reached
abbrev pub Unlocks : List Term → Term → Type 0
Unlocks S (name n) = Analz S (name n)
Unlocks S (env n) = Unit {0}
Unlocks S (var x) = Unit {0}
Unlocks S (pair a b) = ⊥
Unlocks S (seal b k) = ⊥

abbrev pub SealNode : Node → Type 0
SealNode (Name a) = ⊥
SealNode (Env e) = ⊥
SealNode (Var x) = ⊥
SealNode (Pair l r) = ⊥
SealNode (Seal b k) = Unit {0}

-- every mark is of what taking S apart reaches under the values θ
pub record Sound (ns : List Node) (θ : ℕ → Term) (S : List Term) (s : Parts) : Type 0 where
  pub marks : (i : ℕ) → marked s i ≡ true → (i < length ns) × Analz S (val ns θ i)
  pub names : (a : ℕ) → named s a ≡ true → Analz S (name a)
  pub seals : (i : ℕ) → sealed s i ≡ true → (marked s i ≡ true) × SealNode (node ns i)
  pub variables : (x : ℕ) → Seen s x → Analz S (θ x)
  pub opening : (x : ℕ) → Opening s x → Unlocks S (θ x)

-- s' has all that s has
pub record Grows (s s' : Parts) : Type 0 where
  pub marks : (i : ℕ) → marked s i ≡ true → marked s' i ≡ true
  pub names : (a : ℕ) → named s a ≡ true → named s' a ≡ true
  pub seals : (i : ℕ) → sealed s i ≡ true → sealed s' i ≡ true
  pub variables : (x : ℕ) → Seen s x → Seen s' x
  pub opening : (x : ℕ) → Opening s x → Opening s' x

-- a name, a seal and a variable stand in the sets of their kind
abbrev pub Filed : Parts → ℕ → Node → Type 0
Filed s i (Name a) = named s a.0 ≡ true
Filed s i (Env e) = Unit {0}
Filed s i (Var x) = x.0 < 64 → Seen s x.0
Filed s i (Pair l r) = Unit {0}
Filed s i (Seal b k) = sealed s i ≡ true

-- each marked node does so
abbrev pub AllFiled : List Node → Parts → Type 0
AllFiled ns s = (i : ℕ) → marked s i ≡ true → Filed s i (node ns i)

-- how much is not marked
abbrev pub left : Parts → ℕ
left s = room s.marks + (2 ^ 64 - bits s.opening)
