use Rattle.std.proofs.Common.{List, refl, ◌+◌}
use Rattle.terms.specs.Tables.{nodes_in}
use Rattle.terms.specs.declared.node.Node.{Node}
use Rattle.terms.proofs.Unfolding.{ordered_true}
use Rattle.unification.specs.declared.binding.Binding.{Binding}
use Rattle.unification.specs.Bindings.{variable_at, node_at}
use Rattle.reach.specs.Steps.{MarkPassed, MarksPassed, Each}
use Rattle.reach.proofs.Stepping.{more_changed, more_same, each_up}
use Rattle.reach.proofs.parts.Parts.follow_all.Goals as goal
use Rattle.reach.proofs.parts.Parts.follow_all.Goals.{then-follow, else-follow}

pub loop-b-preserved : goal.loop-b-preserved
loop-b-preserved c =
    let ns : List Node = nodes_in c.args.nodes.now in
    let o = ordered_true ns c.args.nodes.now.ordered in
    let B : List Binding = c.args.bindings.now in
    let k = c.loop-b.b-index in
    let s = c.args.self.now in
    let step = c.follow.ensures B k c.loop-b-test.true refl in
    elim c.if-follow.branch [
      | then-follow w ↦ rw w.changed-is (more_changed ns o B s c.loop-b.self c.follow.new.self (Each (MarksPassed ns B s) 0 k) (MarkPassed ns c.loop-b.self (variable_at B k) (node_at B k)) c.loop-b.changed c.loop-b.invariant (rw w.if-follow.true at step))
      | else-follow w ↦
          rw w.changed-is (more_same ns o B s c.loop-b.self c.follow.new.self (Each (MarksPassed ns B s) 0 k) (Each (MarksPassed ns B s) 0 (k + 1)) (λ u. MarkPassed ns u (variable_at B k) (node_at B k)) c.loop-b.changed (each_up (MarksPassed ns B s) k) c.loop-b.invariant (rw w.if-follow.false at step))
    ]
