use Rattle.std.proofs.Common.{List}
use Rattle.terms.specs.Tables.{nodes_in}
use Rattle.terms.specs.declared.node.Node.{Node}
use Rattle.terms.proofs.Unfolding.{ordered_true}
use Rattle.unification.specs.declared.binding.Binding.{Binding}
use Rattle.reach.proofs.Stepping.{all_marked, or_first, or_second}
use Rattle.reach.proofs.parts.Parts.mark_all.Goals as goal

pub returns-then-followed : goal.returns-then-followed
returns-then-followed c =
    let ns : List Node = nodes_in c.args.nodes.now in
    let o = ordered_true ns c.args.nodes.now.ordered in
    let B : List Binding = c.args.bindings.now in
    or_first ns o B _ _ _ c.follow_all-followed.result c.take_all-taken.result c.if-followed.true
    (all_marked ns o B c.args.self.now c.follow_all-followed.new.self c.take_all-taken.new.self c.follow_all-followed.result c.take_all-taken.result c.follow_all-followed.ensures (c.take_all-taken.ensures B))

pub returns-else-followed : goal.returns-else-followed
returns-else-followed c =
    let ns : List Node = nodes_in c.args.nodes.now in
    let o = ordered_true ns c.args.nodes.now.ordered in
    let B : List Binding = c.args.bindings.now in
    or_second ns o B _ _ _ c.follow_all-followed.result c.take_all-taken.result c.if-followed.false
    (all_marked ns o B c.args.self.now c.follow_all-followed.new.self c.take_all-taken.new.self c.follow_all-followed.result c.take_all-taken.result c.follow_all-followed.ensures (c.take_all-taken.ensures B))
