use Rattle.std.proofs.Common.{List, vec_items}
use Rattle.terms.specs.declared.node.Node.{Node}
use Rattle.terms.proofs.Unfolding.{ordered_true}
use Rattle.unification.specs.declared.binding.Binding.{Binding}
use Rattle.unification.proofs.Reaching.{spread_on, spread_inside}
use Rattle.std.proofs.lemmas.Bool.{true≢false}
use Rattle.matching.proofs.bindings.Bindings.reaches.Goals as goal

pub loop-b-preserved : goal.loop-b-preserved
loop-b-preserved c = spread_on (vec_items c.args.nodes.now.nodes) (vec_items c.args.self.now.list) c.unwrap-reach.result.0 c.loop-b.reach.0 c.widen-wider.result.0 c.widen-wider.ensures c.loop-b.invariant

pub returns : goal.returns
returns c =
    let ns : List Node = vec_items c.args.nodes.now.nodes in
    let B : List Binding = vec_items c.args.self.now.list in
    record {
      inside = λ t. spread_inside ns (ordered_true ns c.args.nodes.now.ordered) B c.args.b.variable.0 c.args.b.node.0 c.requires.within c.requires.start c.unwrap-reach.result.0 c.loop-b.reach.0 (rw c.unwrap-reach.ensures at c.variables.ensures).1 c.loop-b.invariant (c.contains.ensures.0 c.loop-b-test.false);
      apart = λ e. absurd (true≢false e);
    }
