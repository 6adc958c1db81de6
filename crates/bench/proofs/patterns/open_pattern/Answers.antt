use Rattle.std.proofs.Common.{List, sym, ap, ◌∙◌}
use Rattle.terms.specs.Nodes.{node}
use Rattle.terms.specs.declared.node.Node.{Node}
use Rattle.bench.proofs.Patterned.{opened_by}
use Rattle.bench.proofs.patterns.open_pattern.Goals as goal

pub returns : goal.returns
returns c =
    let nodes = c.nodes-nodes.ensures in
    let whole = sym c.in-Seal.is ∙ ap (λ (l : List Node). node l c.args.pattern.0) nodes in
    let body = sym c.in-Var.is ∙ ap (λ (l : List Node). node l c.in-Seal.body.0) nodes in
    opened_by c.args.sheet.now c.args.pattern.0 c.in-Seal.body c.in-Seal.key c.in-Var.variable c.requires.held whole body
