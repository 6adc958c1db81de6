-- The variables that a node's value depends on, as a set that the bindings do not lead out of.
use Rattle.std.specs.Prelude.{◌≡◌, Bool, false, List, ℕ, ◌<◌, ◌≤◌, T, length}
use Rattle.terms.specs.Terms.{Term, Occurs}
use Rattle.unification.specs.Sizes.{size}
use Rattle.terms.specs.Bits.{In}
use Rattle.terms.specs.Nodes.{term, node}
use Rattle.terms.specs.declared.node.Node.{Node}
use Rattle.terms.specs.declared.node.Node.TheVariants.{Var}
use Rattle.unification.specs.Bindings.{variable_at, node_at, val, Instance, Unbound}
use Rattle.unification.specs.declared.binding.Binding.{Binding}

-- with a bound variable the set s has in s' the variables of its term
abbrev pub Leads : List Node → List Binding → ℕ → ℕ → Type 0
Leads ns B s s' = (k : ℕ) → k < length B → In (variable_at B k) s → (y : ℕ) → Occurs y (term ns (node_at B k)) → In y s'

-- the test p passes from a bound variable to the variables of its term
abbrev pub Passes : List Node → List Binding → (ℕ → Bool) → Type 0
Passes ns B p = (k : ℕ) → k < length B → T (p (variable_at B k)) → (y : ℕ) → Occurs y (term ns (node_at B k)) → T (p y)

-- one look through the bindings: s' has s, what the bindings of s lead to, and nothing that they do not lead to
pub record Widened (ns : List Node) (B : List Binding) (s s' : ℕ) : Type 0 where
  pub grows : (y : ℕ) → In y s → In y s'
  pub leads : Leads ns B s s'
  pub only : (p : ℕ → Bool) → Passes ns B p → ((y : ℕ) → In y s → T (p y)) → (y : ℕ) → In y s' → T (p y)
  pub larger : s ≤ s'

-- x is not reached from the node n
pub record Apart (ns : List Node) (B : List Binding) (x n : ℕ) : Type 0 where
  pub set : ℕ
  pub starts : (y : ℕ) → Occurs y (term ns n) → In y set
  pub leads : Leads ns B set set
  pub away : In x set → ⊥

-- the node n is walked, and is not the variable x
pub record Start (ns : List Node) (B : List Binding) (x n : ℕ) : Type 0 where
  pub walked : (y : ℕ) → node ns n ≡ Var (record { 0 = y }) → Unbound B y
  pub other : node ns n ≡ Var (record { 0 = x }) → ⊥

-- the value of x is a proper part of that of n
abbrev pub Inside : List Node → List Binding → ℕ → ℕ → Type 0
Inside ns B x n = (θ : ℕ → Term) → Instance ns B θ → size (θ x) < size (val ns θ n)

-- whether x is reached from the node n
pub record Answered (ns : List Node) (B : List Binding) (x n : ℕ) (found : Bool) : Type 0 where
  pub inside : T found → Inside ns B x n
  pub apart : found ≡ false → Apart ns B x n
