-- The heads of nodes, as far as they are known.
use Rattle.std.specs.Prelude.{◌≡◌, ℕ, ◌<◌, Some, None, Option, sum_by, slice_index_or}
use Rattle.terms.specs.declared.node.Node.{Node}
use Rattle.terms.specs.declared.node.Node.TheVariants.{Name, Env, Var, Pair, Seal}
use Rattle.terms.specs.declared.number.NodeNo.{NodeNo}
use Rattle.alike.specs.declared.heads.Alike.{Alike}

abbrev pub head : Alike → ℕ → Option NodeNo
head s i = slice_index_or s.heads i None

-- both have one head
abbrev pub Same : Alike → ℕ → ℕ → Type 0
Same s a b = (c : NodeNo) × (head s a ≡ Some c) × (head s b ≡ Some c)

-- two parts, where both are known
abbrev pub both : (NodeNo → NodeNo → Node) → Option NodeNo → Option NodeNo → Option Node
both f (Some c) (Some d) = Some (f c d)
both f (Some c) None = None
both f None q = None

-- the node with heads for its parts
abbrev pub key : Alike → Node → Option Node
key s (Name a) = Some (Name a)
key s (Env e) = Some (Env e)
key s (Var x) = Some (Var x)
key s (Pair l r) = both Pair (head s l.0) (head s r.0)
key s (Seal b k) = both Seal (head s b.0) (head s k.0)

abbrev pub unknown : Option NodeNo → ℕ
unknown None = 1
unknown (Some c) = 0

-- how many heads are not known
abbrev pub room : Alike → ℕ
room s = sum_by unknown s.heads

-- node n has got the head c
pub record Headed (s : Alike) (n : ℕ) (c : NodeNo) (s' : Alike) : Type 0 where
  pub here : head s' n ≡ Some c
  pub others : (i : ℕ) → (i ≡ n → ⊥) → head s' i ≡ head s i
  pub less : head s n ≡ None → room s' < room s
