-- Pages as two lists.
use Rattle.std.specs.Prelude.{ℕ, ◌<◌, List, map, length}
use Rattle.std.specs.Coded.{×_prop, Π_prop, →_prop, le_prop}
use Rattle.terms.specs.Nodes.{node}
use Rattle.terms.specs.declared.node.Node.{Node}
use Rattle.terms.specs.declared.node.Node.TheVariants.{Name, Env, Var, Pair, Seal}
use Rattle.terms.specs.declared.number.NodeNo.{NodeNo}
use Rattle.notebook.specs.Calls.{Lawful}
use Rattle.pages.specs.declared.page.Page.{Page}

-- each node is lawful at its place, which is so in one way at most
abbrev pub AllLawful : List Node → Type 0
AllLawful ns = (i : ℕ) → i < length ns → Lawful i (node ns i)

Lawful-prop : (i : ℕ) (n : Node) → IsProp (Lawful i n)
Lawful-prop i (Name n) = le_prop
Lawful-prop i (Env e) = le_prop
Lawful-prop i (Var x) = λ a b. absurd a
Lawful-prop i (Pair a b) = ×_prop le_prop le_prop
Lawful-prop i (Seal b k) = ×_prop le_prop le_prop

pub AllLawful-prop : (ns : List Node) → IsProp (AllLawful ns)
AllLawful-prop ns = Π_prop (λ i. →_prop (Lawful-prop i (node ns i)))

-- the nodes of a list of pages, and the first places beside them
abbrev pub nodes_in : List Page → List Node
nodes_in ps = map (λ p. p.node) ps

abbrev pub firsts_in : List Page → List NodeNo
firsts_in ps = map (λ p. p.first) ps
