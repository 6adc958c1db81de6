use Rattle.std.proofs.Common.{List, sym, ◌∙◌, arith}
use Rattle.terms.specs.Tables.{nodes_in}
use Rattle.terms.specs.declared.node.Node.{Node}
use Rattle.terms.proofs.Unfolding.{ordered_true}
use Rattle.needs.proofs.Growing.{begun_none, begun_first, begun_more}
use Rattle.needs.proofs.Meeting.{told_against, told_met}
use Rattle.needs.proofs.settling.need.Goals as goal
use Rattle.needs.proofs.settling.need.Goals.{in-Some, in_default}

pub loop-c-init : goal.loop-c-init
loop-c-init c =
    let ns : List Node = nodes_in c.args.nodes.now in
    let o = ordered_true ns c.args.nodes.now.ordered in
    elim c.match-head.branch [
      | in-Some w ↦ rw w.asked-is (begun_first ns o c.args.bindings.now c.args.reached.now c.args.alike.now c.args.marked c.args.node.0 c.none-asked.result w.add.new.self w.in-Some.c c.none-asked.ensures (c.contains.ensures.0 c.if-not-contains.false) (sym c.head.ensures ∙ w.in-Some.is) w.add.ensures)
      | in_default w ↦ rw w.asked-is (begun_none ns o c.args.bindings.now c.args.reached.now c.args.alike.now c.args.marked c.args.node.0 c.none-asked.result c.none-asked.ensures (sym c.head.ensures ∙ w.in_default.is))
    ]

pub loop-c-preserved : goal.loop-c-preserved
loop-c-preserved c =
    let ns : List Node = nodes_in c.args.nodes.now in
    begun_more ns (ordered_true ns c.args.nodes.now.ordered) c.args.bindings.now c.args.reached.now c.args.alike.now c.args.marked c.args.node.0 c.loop-c.asked c.add-in-Some-next.new.self c.in-Some-next.c (rw c.in-Some-next.is at c.next.ensures) c.add-in-Some-next.ensures c.loop-c.invariant

pub returns-in-Some-judge_all : goal.returns-in-Some-judge_all
returns-in-Some-judge_all c =
    let ns : List Node = nodes_in c.args.nodes.now in
    told_against ns (ordered_true ns c.args.nodes.now.ordered) c.args.bindings.now c.args.reached.now c.args.alike.now c.args.marked c.args.node.0 c.loop-c.asked (c.contains.ensures.0 c.if-not-contains.false) c.loop-c.invariant c.in-Some-judge_all.w (rw c.in-Some-judge_all.is at c.judge_all.ensures)

pub returns-in-None : goal.returns-in-None
returns-in-None c =
    let ns : List Node = nodes_in c.args.nodes.now in
    told_met ns (ordered_true ns c.args.nodes.now.ordered) c.args.bindings.now c.args.reached.now c.args.alike.now c.args.marked c.args.node.0 c.loop-c.asked (c.contains.ensures.0 c.if-not-contains.false) c.loop-c.invariant (rw c.in_default-next.is at c.next.ensures) (rw c.in-None.is at c.judge_all.ensures) c.variables.result (omega arith) c.variables.ensures
