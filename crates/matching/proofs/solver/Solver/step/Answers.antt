use Rattle.std.proofs.Common.{List, vec_items, subst, inl, inr}
use Rattle.stack.specs.Waiting.{waiting}
use Rattle.terms.specs.Nodes.{node}
use Rattle.terms.specs.declared.node.Node.{Node}
use Rattle.terms.specs.declared.number.NodeNo.{NodeNo}
use Rattle.terms.proofs.Unfolding.{ordered_true}
use Rattle.unification.specs.Asking.{Tells}
use Rattle.unification.specs.declared.ask.Ask.{Ask}
use Rattle.unification.specs.declared.ask.Compared.{Compared}
use Rattle.unification.specs.declared.ask.Compared.TheVariants.{Same, Clash, Left, Right, Parts}
use Rattle.unification.specs.declared.binding.Binding.{Binding}
use Rattle.unification.proofs.Stepping.{step_same, step_clash, step_left, step_right, step_known, step_united}
use Rattle.matching.proofs.solver.Solver.step.Goals as goal
use Rattle.matching.proofs.solver.Solver.step.Goals.{After-compare}

-- Each answer below leads to a lemma of its own, with the same two ends before its own facts: one lemma for all six ways would
-- have to state each of them.

-- what the two ends say, of the nodes themselves
tells : (c : After-compare) (r : Compared) → Tells (node c.as_slice-table.result.now c.walk-c.result.0) (node c.as_slice-table.result.now c.walk-d.result.0) r → Tells (node (vec_items c.args.self.now.nodes.nodes) c.walk-c.result.0) (node (vec_items c.args.self.now.nodes.nodes) c.walk-d.result.0) r
tells c r = subst (λ (t : List Node). Tells (node t c.walk-c.result.0) (node t c.walk-d.result.0) r) c.as_slice-table.ensures

pub returns-in-Same-clause-answer : goal.returns-in-Same-clause-answer
returns-in-Same-clause-answer c =
    let s = c.args.self.now in
    let ns : List Node = vec_items s.nodes.nodes in
    step_same ns (ordered_true ns s.nodes.ordered) (vec_items s.bindings.list) (vec_items s.classes.parents) (waiting c.args.asks.now) c.args.w c.walk-c.result.0 c.walk-d.result.0 c.walk-c.ensures c.walk-d.ensures s.good s.classes.lower (tells (goal.at.returns-in-Same-clause-answer c).After-compare Same c.in-Same.ensures)

pub returns-in-Clash-clause-answer : goal.returns-in-Clash-clause-answer
returns-in-Clash-clause-answer c =
    let s = c.args.self.now in
    let ns : List Node = vec_items s.nodes.nodes in
    step_clash ns (ordered_true ns s.nodes.ordered) (vec_items s.bindings.list) (vec_items s.classes.parents) (waiting c.args.asks.now) c.args.w c.walk-c.result.0 c.walk-d.result.0 c.walk-c.ensures c.walk-d.ensures s.good s.classes.lower (tells (goal.at.returns-in-Clash-clause-answer c).After-compare Clash c.in-Clash.ensures)

pub returns-in-Left-clause-answer : goal.returns-in-Left-clause-answer
returns-in-Left-clause-answer c =
    let s = c.args.self.now in
    let ns : List Node = vec_items s.nodes.nodes in
    step_left ns (ordered_true ns s.nodes.ordered) (vec_items s.bindings.list) (vec_items s.classes.parents) (waiting c.args.asks.now) c.args.w c.walk-c.result.0 c.walk-d.result.0 c.walk-c.ensures c.walk-d.ensures s.good s.classes.lower (vec_items c.assign.new.self.list) c.in-Left.variable c.assign.result (tells (goal.at.returns-in-Left-clause-answer c).After-compare (Left c.in-Left.variable) c.in-Left.ensures) c.assign.ensures

pub returns-in-Right-clause-answer : goal.returns-in-Right-clause-answer
returns-in-Right-clause-answer c =
    let s = c.args.self.now in
    let ns : List Node = vec_items s.nodes.nodes in
    step_right ns (ordered_true ns s.nodes.ordered) (vec_items s.bindings.list) (vec_items s.classes.parents) (waiting c.args.asks.now) c.args.w c.walk-c.result.0 c.walk-d.result.0 c.walk-c.ensures c.walk-d.ensures s.good s.classes.lower (vec_items c.assign-in-Right.new.self.list) c.in-Right.variable c.assign-in-Right.result (tells (goal.at.returns-in-Right-clause-answer c).After-compare (Right c.in-Right.variable) c.in-Right.ensures) c.assign-in-Right.ensures

pub returns-in-Parts-clause-answer : goal.returns-in-Parts-clause-answer
returns-in-Parts-clause-answer c =
    let s = c.args.self.now in
    let ns : List Node = vec_items s.nodes.nodes in
    let B : List Binding = vec_items s.bindings.list in
    let P : List NodeNo = vec_items s.classes.parents in
    let W : List Ask = waiting c.args.asks.now in
    let P' : List NodeNo = vec_items c.join.new.self.parents in
    let W' : List Ask = waiting c.join.new.asks in
    let o = ordered_true ns s.nodes.ordered in
    elim c.join.ensures.joined [
      | inl k ↦ step_known ns o B P W c.args.w c.walk-c.result.0 c.walk-d.result.0 c.walk-c.ensures c.walk-d.ensures s.good s.classes.lower P' W' k
      | inr u ↦ step_united ns o B P W c.args.w c.walk-c.result.0 c.walk-d.result.0 c.walk-c.ensures c.walk-d.ensures s.good s.classes.lower c.in-Parts.first c.in-Parts.second P' W' (tells (goal.at.returns-in-Parts-clause-answer c).After-compare (Parts c.in-Parts.first c.in-Parts.second) c.in-Parts.ensures) u
    ]
