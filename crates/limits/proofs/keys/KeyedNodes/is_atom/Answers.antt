use Rattle.std.proofs.Common.{Bool, List, Decides, sym, ap, subst, ◌∙◌}
use Rattle.terms.specs.Nodes.{term}
use Rattle.terms.specs.Tables.{nodes_in}
use Rattle.terms.specs.Terms.{Atom}
use Rattle.terms.specs.declared.node.Node.{Node}
use Rattle.terms.proofs.Unfolding.{ordered_true}
use Rattle.limits.specs.Keys.{partless?}
use Rattle.limits.proofs.Keying.{atom_told}
use Rattle.limits.proofs.keys.KeyedNodes.is_atom.Goals as goal

pub returns : goal.returns
returns c =
    let ns : List Node = nodes_in c.args.self.now.nodes in
    let found = rw c.unwrap.ensures at c.get.ensures in
    subst (λ (b : Bool). Decides b (Atom (term ns c.args.n.0))) (sym (c.has_no_parts.ensures ∙ ap partless? found.1)) (atom_told ns c.args.n.0 (ordered_true ns c.args.self.now.nodes.ordered) c.requires)
