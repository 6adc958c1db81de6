use Rattle.std.proofs.Common.{List, None, arith}
use Rattle.terms.specs.Tables.{nodes_in}
use Rattle.terms.specs.declared.node.Node.{Node}
use Rattle.reach.proofs.Stepping.{each_up}
use Rattle.alike.specs.Finding.{Answered}
use Rattle.alike.proofs.heads.Alike.next.Goals as goal

pub loop-i-preserved : goal.loop-i-preserved
loop-i-preserved c j l =
    let ns : List Node = nodes_in c.args.nodes.now in
    each_up (λ i. Answered ns c.args.bindings.now c.args.self.now i None) c.loop-i.i (λ i a b. c.loop-i.invariant i b) (rw c.in_default.is at c.find.ensures) j (omega arith) l
