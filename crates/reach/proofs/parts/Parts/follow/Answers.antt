use Rattle.std.proofs.Common.{List}
use Rattle.terms.specs.Tables.{nodes_in}
use Rattle.terms.specs.declared.node.Node.{Node}
use Rattle.terms.proofs.Unfolding.{ordered_true}
use Rattle.reach.proofs.Stepping.{follow_step}
use Rattle.reach.proofs.parts.Parts.follow.Goals as goal

pub returns-then-contains : goal.returns-then-contains
returns-then-contains c B k w e =
    let ns : List Node = nodes_in c.args.nodes.now in
    follow_step ns (ordered_true ns c.args.nodes.now.ordered) B k w c.args.b e c.args.self.now c.mark.new.self c.mark.result (c.contains.ensures.0 c.if-contains.true) c.mark.ensures
