use Rattle.std.proofs.Common.{vec_items}
use Rattle.terms.specs.Tables.{nodes_in}
use Rattle.limits.proofs.Keying.{KeysTold}
use Rattle.limits.proofs.keys.all_keys.Given as goal

abbrev pub invariant-loop-node : goal.invariant-loop-node
invariant-loop-node l = KeysTold (nodes_in l.nodes) (vec_items l.keys) l.node-index
