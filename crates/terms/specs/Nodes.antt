-- A table of nodes, and the terms that it holds.
use Rattle.std.specs.Prelude.{◌≡◌, ℕ, suc, ◌<◌, ◌≤◌, Bool, true, ◌&&◌, List, [], ◌∷◌, ◌++◌, length, Some, None, Ok, Err, Option, Result, nat_lt, slice_index_or}
use Rattle.terms.specs.Terms.{Term, name, env, var, pair, seal}
use Rattle.terms.specs.declared.node.NodeFault.{NodeFault}
use Rattle.terms.specs.declared.node.NodeFault.TheVariants.{Reference, Variable, NoMemory}
use Rattle.terms.specs.declared.node.Node.{Node}
use Rattle.terms.specs.declared.node.Node.TheVariants.{Name, Env, Var, Pair, Seal}

-- what a read past the end of a table gives
abbrev pub no_node : Node
no_node = Name (record { 0 = 0 })

abbrev pub node : List Node → ℕ → Node
node ns i = slice_index_or ns i no_node

-- the term that a node says, over the terms at its parts
abbrev pub says : (ℕ → Term) → Node → Term
says at (Name n) = name n.0
says at (Env e) = env e.0
says at (Var x) = var x.0
says at (Pair a b) = pair (at a.0) (at b.0)
says at (Seal b k) = seal (at b.0) (at k.0)

-- the term at a place of a list of terms
abbrev pub at : List Term → ℕ → Term
at ts i = slice_index_or ts i (name 0)

-- the terms, front to back: ts is what was made of the nodes before
abbrev pub build : List Term → List Node → List Term
build ts [] = ts
build ts (n ∷ ns) = build (ts ++ (says (at ts) n ∷ [])) ns

-- the terms of the nodes of a table
unfoldable pub terms : List Node → List Term
terms ns = build [] ns

-- the term of node i: its whole tree
abbrev pub term : List Node → ℕ → Term
term ns i = at (terms ns) i

-- the node refers only to numbers below i
abbrev pub Below : ℕ → Node → Type 0
Below i (Name n) = Unit {0}
Below i (Env e) = Unit {0}
Below i (Var x) = Unit {0}
Below i (Pair a b) = (a.0 < i) × (b.0 < i)
Below i (Seal b k) = (b.0 < i) × (k.0 < i)

-- each node refers only to smaller numbers
abbrev pub Ordered : List Node → Type 0
Ordered ns = (i : ℕ) → i < length ns → Below i (node ns i)

-- a variable number that a set of variables can hold
abbrev pub Narrow : Node → Type 0
Narrow (Name n) = Unit {0}
Narrow (Env e) = Unit {0}
Narrow (Var x) = x.0 < 64
Narrow (Pair a b) = Unit {0}
Narrow (Seal b k) = Unit {0}

-- Below, as a test
abbrev pub below? : ℕ → Node → Bool
below? i (Name n) = true
below? i (Env e) = true
below? i (Var x) = true
below? i (Pair a b) = nat_lt a.0 i && nat_lt b.0 i
below? i (Seal b k) = nat_lt b.0 i && nat_lt k.0 i

-- Ordered, as a test; the first of the nodes has number i
abbrev pub ordered? : ℕ → List Node → Bool
ordered? i [] = true
ordered? i (n ∷ ns) = below? i n && ordered? (suc i) ns

-- the unfolding law: the term of a node is what the node says over the terms at its parts
abbrev pub Unfolds : Type 0
Unfolds = (ns : List Node) → Ordered ns → (i : ℕ) → i < length ns → term ns i ≡ says (term ns) (node ns i)

-- one node more changes no term before it
abbrev pub Grows : Type 0
Grows = (ns : List Node) (n : Node) → terms (ns ++ (n ∷ [])) ≡ terms ns ++ (says (term ns) n ∷ [])

-- the node with a number, or none where the table has no such number
abbrev pub Found : List Node → ℕ → Option Node → Type 0
Found ns i None = length ns ≤ i
Found ns i (Some n) = (i < length ns) × (n ≡ node ns i)

-- what taking a node into a table answers, and the table's nodes after
abbrev pub Pushed : List Node → Node → Result (Unit {0}) NodeFault → List Node → Type 0
Pushed ns n (Ok u) ns' = Below (length ns) n × Narrow n × (ns' ≡ ns ++ (n ∷ []))
Pushed ns n (Err Reference) ns' = ¬ Below (length ns) n × (ns' ≡ ns)
Pushed ns n (Err Variable) ns' = Below (length ns) n × ¬ Narrow n × (ns' ≡ ns)
Pushed ns n (Err NoMemory) ns' = ns' ≡ ns
