use Rattle.std.proofs.Common.{◌≡◌, List, ◌-◌, length, arith}
use Rattle.terms.specs.Tables.{nodes_in}
use Rattle.terms.specs.declared.node.Node.{Node}
use Rattle.terms.proofs.Unfolding.{ordered_true}
use Rattle.reach.specs.Steps.{TakenApart, Each}
use Rattle.reach.proofs.Stepping.{more_changed, more_same, each_down}
use Rattle.reach.proofs.parts.Parts.take_all.Goals as goal

pub loop-i-preserved-then-take_apart : goal.loop-i-preserved-then-take_apart
loop-i-preserved-then-take_apart c B =
    let ns : List Node = nodes_in c.args.nodes.now in
    more_changed ns (ordered_true ns c.args.nodes.now.ordered) B c.args.self.now c.loop-i.self c.take_apart.new.self (Each (TakenApart ns c.args.self.now) c.loop-i.i (length ns)) (TakenApart ns c.loop-i.self (c.loop-i.i - 1)) c.loop-i.changed (c.loop-i.invariant B) (c.if-take_apart.ensures B)

pub loop-i-preserved : goal.loop-i-preserved
loop-i-preserved c B =
    let ns : List Node = nodes_in c.args.nodes.now in
    let s = c.args.self.now in
    let i = c.loop-i.i in
    let n = length ns in
    more_same ns (ordered_true ns c.args.nodes.now.ordered) B s c.loop-i.self c.take_apart.new.self (Each (TakenApart ns s) i n) (Each (TakenApart ns s) (i - 1) n) (λ u. TakenApart ns u (i - 1)) c.loop-i.changed (each_down (TakenApart ns s) i n (omega arith)) (c.loop-i.invariant B) (c.if-take_apart.ensures B)

pub returns : goal.returns
returns c B =
    let ns : List Node = nodes_in c.args.nodes.now in
    let e : c.loop-i.i ≡ 0 = omega (arith, c.loop-i-test.false) in
    rw e at c.loop-i.invariant B
