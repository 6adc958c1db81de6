use Rattle.terms.specs.Tables.{nodes_in}
use Rattle.limits.proofs.Keying.{gathered_set}
use Rattle.limits.proofs.keys.KeyedNodes.variables.Goals as goal

pub returns : goal.returns
returns c = gathered_set (nodes_in c.args.self.now.nodes) c.args.n.0 c.unwrap.result (rw c.unwrap.ensures at c.variables.ensures)
