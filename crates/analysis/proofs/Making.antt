-- The table of what is put together, place by place; and what marks a key opens by.
use Rattle.std.proofs.Common.{◌≡◌, ℕ, ◌<◌, Bool, true, ◌&&◌, ◌||◌, List, length, refl, ap, ◌∙◌}
use Rattle.terms.specs.Terms.{Term, name, env, var, pair, seal}
use Rattle.terms.specs.Nodes.{node, says, term, Ordered}
use Rattle.terms.specs.declared.node.Node.{Node}
use Rattle.terms.proofs.Unfolding.{unfolds}
use Rattle.analysis.specs.Parts.{name?, composed}

module _ (ns : List Node) (o : Ordered ns) (i : ℕ) (l : i < length ns) (kn : Term → Bool) where
  at_node : (n : Node) → node ns i ≡ n → term ns i ≡ says (term ns) n
  at_node n e = unfolds ns o i l ∙ ap (says (term ns)) e

  pub made_known : kn (term ns i) ≡ true → composed kn (term ns i) ≡ true
  made_known h = go (term ns i) h
    where
      go : (t : Term) → kn t ≡ true → composed kn t ≡ true
      go (name n) e = e
      go (env n) e = refl
      go (var n) e = e
      go (pair a b) e = ap (λ (x : Bool). x || (composed kn a && composed kn b)) e
      go (seal b k) e = ap (λ (x : Bool). x || (name? k && (composed kn b && composed kn k))) e
