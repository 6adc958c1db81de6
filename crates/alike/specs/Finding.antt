-- How heads are found, and what they tell.
use Rattle.std.specs.Prelude.{◌≡◌, ℕ, ◌^◌, ◌<◌, ◌⊎◌, List, length, Some, None, Option}
use Rattle.terms.specs.Terms.{Term}
use Rattle.terms.specs.Nodes.{node}
use Rattle.terms.specs.declared.node.Node.{Node}
use Rattle.terms.specs.declared.node.Node.TheVariants.{Var}
use Rattle.terms.specs.declared.number.NodeNo.{NodeNo}
use Rattle.unification.specs.Bindings.{variable_at, node_at, val, Unbound}
use Rattle.unification.specs.declared.binding.Binding.{Binding}
use Rattle.matching.specs.Matchings.{MostGeneral}
use Rattle.reach.specs.Steps.{Values}
use Rattle.alike.specs.Heads.{head, key, Same}
use Rattle.alike.specs.declared.heads.Alike.{Alike}

-- a binding binds the variable to the node
abbrev pub Binds : List Binding → ℕ → NodeNo → Type 0
Binds B x v = (k : ℕ) × (k < length B) × (variable_at B k ≡ x) × (node_at B k ≡ v.0)

-- the node that the variable is bound to, if it is
abbrev pub Valued : List Binding → ℕ → Option NodeNo → Type 0
Valued B x None = Unbound B x
Valued B x (Some v) = Binds B x v

-- the same of a node that is a variable; any other leads nowhere
abbrev pub Leads : List Binding → Node → Option NodeNo → Type 0
Leads B n None = (x : ℕ) → n ≡ Var (record { 0 = x }) → Unbound B x
Leads B n (Some v) = (x : ℕ) × (n ≡ Var (record { 0 = x })) × Binds B x v

-- node c is a head, and the key is its
abbrev pub Fits : List Node → Alike → ℕ → Node → Type 0
Fits ns s c k = (head s c ≡ Some (record { 0 = c })) × (c < length ns) × (key s (node ns c) ≡ Some k)

-- a head with the key, or i itself where there is none
abbrev pub Sought : List Node → Alike → ℕ → Node → NodeNo → Type 0
Sought ns s i k c = Fits ns s c.0 k ⊎ ((c.0 ≡ i) × ((j : ℕ) → Fits ns s j k → ⊥))

-- the node is bound to one without a head, or a part of it has none
abbrev pub Waits : List Binding → Alike → Node → Type 0
Waits B s n = ((v : NodeNo) × (v.0 < 2 ^ 16) × Leads B n (Some v) × (head s v.0 ≡ None)) ⊎ (key s n ≡ None)

-- c is the head of the node that node i is bound to, or the head with its key
abbrev pub Finds : List Node → List Binding → Alike → ℕ → NodeNo → Type 0
Finds ns B s i c = ((v : NodeNo) × Leads B (node ns i) (Some v) × (head s v.0 ≡ Some c)) ⊎ (Leads B (node ns i) None × (k : Node) × (key s (node ns i) ≡ Some k) × Sought ns s i k c)

-- the head that node i comes to have, or none yet
abbrev pub Answered : List Node → List Binding → Alike → ℕ → Option NodeNo → Type 0
Answered ns B s i None = i < length ns → head s i ≡ None → Waits B s (node ns i)
Answered ns B s i (Some c) = (i < length ns) × (i < 2 ^ 16) × (head s i ≡ None) × Finds ns B s i c

-- some node and the head that it comes to have, or none where all nodes without a head wait
abbrev pub Fresh : List Node → List Binding → Alike → Option (NodeNo × NodeNo) → Type 0
Fresh ns B s None = (i : ℕ) → i < length ns → i < 2 ^ 16 → head s i ≡ None → Waits B s (node ns i)
Fresh ns B s (Some p) = Answered ns B s p.0.0 (Some p.1)

-- under bindings as matching gives them two nodes are the same exactly where they are nodes of the table with one value
abbrev pub Told : List Node → List Binding → Alike → Type 0
Told ns B s =
    MostGeneral ns B → (θ : ℕ → Term) → Values ns B θ → (a b : ℕ) → a < 2 ^ 16 → b < 2 ^ 16 → (Same s a b → (a < length ns) × (b < length ns) × (val ns θ a ≡ val ns θ b)) × (a < length ns → b < length ns → val ns θ a ≡ val ns θ b → Same s a b)

-- and each node has a head: a node of its value that is no bound variable
abbrev pub Ended : List Node → List Binding → Alike → Type 0
Ended ns B s = MostGeneral ns B → (θ : ℕ → Term) → Values ns B θ → (a : ℕ) → a < 2 ^ 16 → a < length ns → (c : NodeNo) × (head s a ≡ Some c) × (c.0 < length ns) × (val ns θ a ≡ val ns θ c.0) × Leads B (node ns c.0) None
