use Rattle.std.proofs.Common.{List}
use Rattle.terms.specs.Tables.{nodes_in}
use Rattle.terms.specs.declared.node.Node.{Node}
use Rattle.terms.proofs.Unfolding.{ordered_true}
use Rattle.alike.proofs.Heading.{none_headed, headed_more}
use Rattle.alike.proofs.Ending.{told, ended}
use Rattle.alike.proofs.finding.alike.Goals as goal

pub loop-n-init : goal.loop-n-init
loop-n-init c =
    let ns : List Node = nodes_in c.args.nodes.now in
    none_headed ns c.args.bindings.now c.none-alike.result c.none-alike.ensures

pub loop-n-preserved : goal.loop-n-preserved
loop-n-preserved c =
    let ns : List Node = nodes_in c.args.nodes.now in
    headed_more ns (ordered_true ns c.args.nodes.now.ordered) c.args.bindings.now c.loop-n.alike c.set.new.self c.in-Some.n c.in-Some.c c.loop-n.invariant (rw c.in-Some.is at c.next.ensures) c.set.ensures

pub returns-clause-values : goal.returns-clause-values
returns-clause-values c =
    let ns : List Node = nodes_in c.args.nodes.now in
    told ns (ordered_true ns c.args.nodes.now.ordered) c.args.bindings.now c.loop-n.alike c.loop-n.invariant (rw c.in_default.is at c.next.ensures)

pub returns-clause-heads : goal.returns-clause-heads
returns-clause-heads c =
    let ns : List Node = nodes_in c.args.nodes.now in
    ended ns (ordered_true ns c.args.nodes.now.ordered) c.args.bindings.now c.loop-n.alike c.loop-n.invariant (rw c.in_default.is at c.next.ensures)
