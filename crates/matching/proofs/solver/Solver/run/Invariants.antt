use Rattle.std.proofs.Common.{◌≡◌, vec_items}
use Rattle.stack.specs.Waiting.{waiting, room}
use Rattle.unification.specs.Steps.{Running, effort}
use Rattle.matching.proofs.solver.Solver.run.Given as goal

abbrev pub invariant-loop-w : goal.invariant-loop-w
invariant-loop-w l = record {
  running : Running (vec_items l.initial.self.nodes.nodes) (vec_items l.initial.self.bindings.list) (waiting l.initial.asks) (vec_items l.self.bindings.list) (vec_items l.self.classes.parents) (waiting l.asks);
  nodes : vec_items l.self.nodes.nodes ≡ vec_items l.initial.self.nodes.nodes;
  size : room l.asks ≡ room l.initial.asks;
}

abbrev pub decreases-loop-w : goal.decreases-loop-w
decreases-loop-w l = effort (vec_items l.self.classes.parents) (waiting l.asks)
