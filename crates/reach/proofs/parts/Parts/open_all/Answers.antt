use Rattle.std.proofs.Common.{List, refl, ◌+◌}
use Rattle.terms.specs.Tables.{nodes_in}
use Rattle.terms.specs.declared.node.Node.{Node}
use Rattle.terms.proofs.Unfolding.{ordered_true}
use Rattle.unification.specs.declared.binding.Binding.{Binding}
use Rattle.unification.specs.Bindings.{variable_at, node_at}
use Rattle.reach.specs.Steps.{OpenPassed, OpensPassed, Each}
use Rattle.reach.proofs.Stepping.{more_changed, more_same, each_up}
use Rattle.reach.proofs.parts.Parts.open_all.Goals as goal
use Rattle.reach.proofs.parts.Parts.open_all.Goals.{then-open, else-open}

pub loop-b-preserved : goal.loop-b-preserved
loop-b-preserved c =
    let ns : List Node = nodes_in c.args.nodes.now in
    let o = ordered_true ns c.args.nodes.now.ordered in
    let B : List Binding = c.args.bindings.now in
    let k = c.loop-b.b-index in
    let s = c.args.self.now in
    let step = c.open.ensures B k c.loop-b-test.true refl in
    elim c.if-open.branch [
      | then-open w ↦ rw w.changed-is (more_changed ns o B s c.loop-b.self c.open.new.self (Each (OpensPassed ns B s) 0 k) (OpenPassed ns c.loop-b.self (variable_at B k) (node_at B k)) c.loop-b.changed c.loop-b.invariant (rw w.if-open.true at step))
      | else-open w ↦
          rw w.changed-is (more_same ns o B s c.loop-b.self c.open.new.self (Each (OpensPassed ns B s) 0 k) (Each (OpensPassed ns B s) 0 (k + 1)) (λ u. OpenPassed ns u (variable_at B k) (node_at B k)) c.loop-b.changed (each_up (OpensPassed ns B s) k) c.loop-b.invariant (rw w.if-open.false at step))
    ]
