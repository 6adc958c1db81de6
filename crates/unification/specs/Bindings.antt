-- Bindings of variables to the nodes of a table, and the substitutions that agree with them.
use Rattle.std.specs.Prelude.{◌≡◌, List, ℕ, ◌<◌, ◌≤◌, length, get_or}
use Rattle.terms.specs.Terms.{Term, name, env, var, pair, seal, inst, Vars}
use Rattle.terms.specs.Nodes.{term, node}
use Rattle.terms.specs.declared.node.Node.{Node}
use Rattle.terms.specs.declared.node.Node.TheVariants.{Name, Env, Var, Pair, Seal}
use Rattle.unification.specs.declared.binding.Binding.{Binding}

-- what a read past the end of a list of bindings gives
abbrev pub no_binding : Binding
no_binding = record { variable = record { 0 = 0 }; node = record { 0 = 0 } }

-- the variable of binding k, and its node
abbrev pub variable_at : List Binding → ℕ → ℕ
variable_at B k = (get_or B k no_binding).variable.0

abbrev pub node_at : List Binding → ℕ → ℕ
node_at B k = (get_or B k no_binding).node.0

-- the value of a node under a substitution
abbrev pub val : List Node → (ℕ → Term) → ℕ → Term
val ns θ i = inst θ (term ns i)

-- what a node says of the values
abbrev pub reads : (ℕ → Term) → (ℕ → Term) → Node → Term
reads θ v (Name n) = name n.0
reads θ v (Env e) = env e.0
reads θ v (Var x) = θ x.0
reads θ v (Pair l r) = pair (v l.0) (v r.0)
reads θ v (Seal b k) = seal (v b.0) (v k.0)

-- the substitution is an instance of the bindings: it gives each bound variable the value of its node
abbrev pub Instance : List Node → List Binding → (ℕ → Term) → Type 0
Instance ns B θ = (k : ℕ) → k < length B → θ (variable_at B k) ≡ val ns θ (node_at B k)

abbrev pub Unbound : List Binding → ℕ → Type 0
Unbound B x = (k : ℕ) → k < length B → variable_at B k ≡ x → ⊥

-- every binding's node stands in the table
abbrev pub Within : List Node → List Binding → Type 0
Within ns B = (k : ℕ) → k < length B → node_at B k < length ns

-- no variable is bound twice
abbrev pub Once : List Binding → Type 0
Once B = (j k : ℕ) → j < k → k < length B → variable_at B j ≡ variable_at B k → ⊥

-- a binding to a variable is to one that is not bound up to there
abbrev pub Forward : List Node → List Binding → Type 0
Forward ns B = (j k x : ℕ) → j ≤ k → k < length B → node ns (node_at B k) ≡ Var (record { 0 = x }) → variable_at B j ≡ x → ⊥

-- a rank falls from each bound variable to those of its term: no variable occurs in its own value
abbrev pub Falls : List Node → List Binding → (ℕ → ℕ) → Type 0
Falls ns B r = (k : ℕ) → k < length B → Vars (λ y. r y < r (variable_at B k)) (term ns (node_at B k))

-- some rank falls so; which one need not be known
abbrev pub Ranked : List Node → List Binding → Type 0
Ranked ns B = ∥ ((r : ℕ → ℕ) × Falls ns B r) ∥₁

-- bindings as matching makes them
pub record Good (ns : List Node) (B : List Binding) : Type 0 where
  pub within : Within ns B
  pub once : Once B
  pub forward : Forward ns B
  pub rank : ℕ → ℕ
  pub falls : Falls ns B rank

-- an instance that gives the unbound variables what σ gives them
abbrev pub Extension : List Node → List Binding → (ℕ → Term) → (ℕ → Term) → Type 0
Extension ns B σ θ = Instance ns B θ × ((x : ℕ) → Unbound B x → θ x ≡ σ x)

-- the walk from node i through the bindings ends at node c: it has the same value, and is no bound variable
pub record Walked (ns : List Node) (B : List Binding) (i c : ℕ) : Type 0 where
  pub within : c < length ns
  pub same : (θ : ℕ → Term) → Instance ns B θ → val ns θ i ≡ val ns θ c
  pub ends : (x : ℕ) → node ns c ≡ Var (record { 0 = x }) → Unbound B x

-- there is such an instance, and only one
abbrev pub Only : List Node → List Binding → (ℕ → Term) → (ℕ → Term) → Type 0
Only ns B σ θ = Extension ns B σ θ × ((η : ℕ → Term) → Extension ns B σ η → (x : ℕ) → η x ≡ θ x)

-- every assignment of the unbound variables extends to exactly one instance
abbrev pub Extends : List Node → List Binding → Type 0
Extends ns B = (σ : ℕ → Term) → (θ : ℕ → Term) × Only ns B σ θ

-- where the unbound variables stand for themselves, no bound variable occurs in a value: so none occurs in its own
abbrev pub FreeValues : List Node → List Binding → Type 0
FreeValues ns B = (θ : ℕ → Term) → Extension ns B var θ → (x : ℕ) → Vars (Unbound B) (θ x)

-- what all good bindings have; that they are good need only be known to be so
abbrev pub ExactlyOne : Type 0
ExactlyOne = (ns : List Node) (B : List Binding) → ∥ Good ns B ∥₁ → Extends ns B

abbrev pub NeverInside : Type 0
NeverInside = (ns : List Node) (B : List Binding) → ∥ Good ns B ∥₁ → FreeValues ns B

abbrev pub NeverTwice : Type 0
NeverTwice = (ns : List Node) (B : List Binding) → ∥ Good ns B ∥₁ → Once B
