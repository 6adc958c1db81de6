use Rattle.std.proofs.Common.{◌≡◌, List, [], ◌∷◌, ◌++◌, vec_items, ap, ◌∙◌, subst}
use Rattle.stack.specs.Waiting.{waiting}
use Rattle.terms.specs.declared.node.Node.{Node}
use Rattle.unification.specs.Steps.{Stepped}
use Rattle.unification.specs.declared.ask.Ask.{Ask}
use Rattle.unification.proofs.Moves.{ask}
use Rattle.unification.proofs.Running.{running_on, running_stops, running_ends}
use Rattle.matching.proofs.solver.Solver.run.Goals as goal
use Rattle.matching.proofs.solver.Solver.run.Goals.{After-wait, After-step}

-- the one pair that waits at the start
first : (c : After-wait) → waiting c.wait.new.asks ≡ ask c.args.first.left.0 c.args.first.right.0 ∷ []
first c = c.wait.ensures.items ∙ ap (λ (W : List Ask). W ++ (ask c.args.first.left.0 c.args.first.right.0 ∷ [])) c.new-asks.ensures.empty

-- a step, of the nodes that there were at the start
stepped : (c : After-step) → Stepped (vec_items c.args.self.now.nodes.nodes) (vec_items c.loop-w.self.bindings.list) (vec_items c.loop-w.self.classes.parents) (waiting c.pop.new.self) c.in-Some.w (vec_items c.step.new.self.bindings.list) (vec_items c.step.new.self.classes.parents) (waiting c.step.new.asks) c.step.result
stepped c = subst (λ (ns : List Node). Stepped ns (vec_items c.loop-w.self.bindings.list) (vec_items c.loop-w.self.classes.parents) (waiting c.pop.new.self) c.in-Some.w (vec_items c.step.new.self.bindings.list) (vec_items c.step.new.self.classes.parents) (waiting c.step.new.asks) c.step.result) c.loop-w.invariant.nodes c.step.ensures.answer

pub returns-then-not-step : goal.returns-then-not-step
returns-then-not-step c =
    let s = c.args.self.now in
    let d = goal.at.returns-then-not-step c in
    record {
      answer = running_stops (vec_items s.nodes.nodes) (vec_items s.bindings.list) (waiting c.wait.new.asks) (vec_items c.loop-w.self.bindings.list) (vec_items c.step.new.self.bindings.list) (vec_items c.loop-w.self.classes.parents) (vec_items c.step.new.self.classes.parents) (waiting c.loop-w.asks) (waiting c.pop.new.self) (waiting c.step.new.asks) c.in-Some.w c.step.result c.args.first.left.0 c.args.first.right.0 (first d.After-wait) (stepped d.After-step) c.in-Some.ensures.items c.if-not-step.true c.loop-w.invariant.running;
      nodes = c.step.ensures.nodes ∙ c.loop-w.invariant.nodes;
    }

pub loop-w-preserved : goal.loop-w-preserved
loop-w-preserved c =
    let s = c.args.self.now in
    record {
      running = running_on (vec_items s.nodes.nodes) (vec_items s.bindings.list) (waiting c.wait.new.asks) (vec_items c.loop-w.self.bindings.list) (vec_items c.step.new.self.bindings.list) (vec_items c.loop-w.self.classes.parents) (vec_items c.step.new.self.classes.parents) (waiting c.loop-w.asks) (waiting c.pop.new.self) (waiting c.step.new.asks) c.in-Some.w c.step.result (stepped (goal.at.loop-w-preserved c).After-step) c.in-Some.ensures.items c.if-not-step.false c.loop-w.invariant.running;
      nodes = c.step.ensures.nodes ∙ c.loop-w.invariant.nodes;
      size = c.step.ensures.size ∙ c.in-Some.ensures.size ∙ c.loop-w.invariant.size;
    }

pub returns : goal.returns
returns c =
    let s = c.args.self.now in
    record {
      answer = running_ends (vec_items s.nodes.nodes) (vec_items s.bindings.list) (waiting c.wait.new.asks) c.args.first.left.0 c.args.first.right.0 (vec_items c.loop-w.self.bindings.list) (vec_items c.loop-w.self.classes.parents) (waiting c.loop-w.asks) (first (goal.at.returns c).After-wait) c.in_default.ensures.items.0 c.loop-w.invariant.running;
      nodes = c.loop-w.invariant.nodes;
    }
