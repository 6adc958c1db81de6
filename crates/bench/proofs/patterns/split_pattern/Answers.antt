use Rattle.std.proofs.Common.{List, sym, ap, ◌∙◌}
use Rattle.terms.specs.Nodes.{node}
use Rattle.terms.specs.declared.node.Node.{Node}
use Rattle.bench.proofs.Patterned.{split_by}
use Rattle.bench.proofs.patterns.split_pattern.Goals as goal

pub returns : goal.returns
returns c =
    let nodes = c.nodes-nodes.ensures in
    let whole = sym c.in-Pair.is ∙ ap (λ (l : List Node). node l c.args.pattern.0) nodes in
    let left = sym c.in-Var.is ∙ ap (λ (l : List Node). node l c.in-Pair.left.0) nodes in
    let right = sym c.in-Var-nodes.is ∙ ap (λ (l : List Node). node l c.in-Pair.right.0) nodes in
    split_by c.args.sheet.now c.args.pattern.0 c.in-Pair.left c.in-Pair.right c.in-Var.x c.in-Var-nodes.y c.requires.held whole left right
