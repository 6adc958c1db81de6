use Rattle.std.proofs.Common.{List, arith}
use Rattle.terms.specs.Tables.{nodes_in}
use Rattle.terms.specs.declared.node.Node.{Node}
use Rattle.terms.proofs.Unfolding.{ordered_true}
use Rattle.reach.proofs.Finding.{begun_more, told}
use Rattle.reach.proofs.reaching.reach.Goals as goal

pub loop-head-preserved : goal.loop-head-preserved
loop-head-preserved c =
    let ns : List Node = nodes_in c.args.nodes.now in
    begun_more ns c.args.bindings.now c.args.heads.now c.loop-head.head-index c.loop-head.parts c.mark.new.self c.mark.result c.loop-head-test.true (c.contains.ensures.0 c.if-not-contains.false) c.mark.ensures c.loop-head.invariant

pub returns : goal.returns
returns c =
    let ns : List Node = nodes_in c.args.nodes.now in
    told ns c.args.bindings.now c.args.heads.now (ordered_true ns c.args.nodes.now.ordered) c.args.nodes.now.narrow c.loop-head.head-index (omega (arith, c.loop-head-test.false)) c.loop-head.parts c.settle.new.self c.loop-head.invariant c.settle.ensures c.unbound-unbound.result c.common.result c.unbound-unbound.ensures c.common.ensures.small c.common.ensures.both
