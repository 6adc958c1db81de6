use Rattle.terms.specs.Nodes.{term}
use Rattle.terms.specs.Tables.{nodes_in}
use Rattle.limits.proofs.Following.{message_passed}
use Rattle.limits.proofs.demands.Demands.pass_message.Goals as goal

pub returns-then-contains : goal.returns-then-contains
returns-then-contains c =
    message_passed c.args.self c.args.b.variable.0 (term (nodes_in c.args.nodes.now.nodes) c.args.b.node.0) c.with_message.result (c.contains.ensures.0 c.if-contains.true) c.with_message.ensures
