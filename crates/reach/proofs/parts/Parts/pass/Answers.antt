use Rattle.std.proofs.Common.{List}
use Rattle.terms.specs.Tables.{nodes_in}
use Rattle.terms.specs.declared.node.Node.{Node}
use Rattle.terms.proofs.Unfolding.{ordered_true}
use Rattle.unification.specs.declared.binding.Binding.{Binding}
use Rattle.reach.proofs.Stepping.{looked, or_first, or_second}
use Rattle.reach.proofs.parts.Parts.pass.Goals as goal

pub returns-then-marked : goal.returns-then-marked
returns-then-marked c =
    let ns : List Node = nodes_in c.args.nodes.now in
    let o = ordered_true ns c.args.nodes.now.ordered in
    let B : List Binding = c.args.bindings.now in
    or_first ns o B _ _ _ c.mark_all-marked.result c.open_all-opened.result c.if-marked.true
    (looked ns o B c.args.self.now c.mark_all-marked.new.self c.open_all-opened.new.self c.mark_all-marked.result c.open_all-opened.result c.mark_all-marked.ensures c.open_all-opened.ensures)

pub returns-else-marked : goal.returns-else-marked
returns-else-marked c =
    let ns : List Node = nodes_in c.args.nodes.now in
    let o = ordered_true ns c.args.nodes.now.ordered in
    let B : List Binding = c.args.bindings.now in
    or_second ns o B _ _ _ c.mark_all-marked.result c.open_all-opened.result c.if-marked.false
    (looked ns o B c.args.self.now c.mark_all-marked.new.self c.open_all-opened.new.self c.mark_all-marked.result c.open_all-opened.result c.mark_all-marked.ensures c.open_all-opened.ensures)
