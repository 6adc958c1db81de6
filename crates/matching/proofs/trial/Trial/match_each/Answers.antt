use Rattle.std.proofs.Common.{◌≡◌, ℕ, Bool, true, false, List, get_or, Ok, Err, ◌∙◌, subst, take_all}
use Rattle.terms.specs.declared.node.Node.{Node}
use Rattle.unification.specs.Bindings.{Good}
use Rattle.unification.specs.declared.ask.Ask.{Ask}
use Rattle.matching.specs.Matchings.{nodes_of, bound, Matches}
use Rattle.matching.proofs.Trying.{no_ask, one_more, when_refused, joint_on, joint_stops, joint_refused, joint_ends}
use Rattle.matching.proofs.trial.Trial.match_each.Goals as goal

pub loop-w-preserved : goal.loop-w-preserved
loop-w-preserved c =
    let m = c.args.self.now.matching.now in
    let n = c.loop-w.self.matching.now in
    let z = c.matches.new.self.matching.now in
    let ps : List Ask = c.args.asks.now in
    let k : ℕ = c.loop-w.w-index in
    let w : Ask = get_or ps k no_ask in
    let here = one_more ps k c.loop-w-test.true in
    let nodes : nodes_of n ≡ nodes_of m = c.loop-w.invariant.2 in
    let e = c.in_ok-matches.ensures in
    let yes-now = subst (λ (v : Bool). Matches (nodes_of n) (bound n) w.left.0 w.right.0 (Ok v) (bound z)) c.if-not-branch.false e.answer in
    let h = subst (λ (t : List Node). Matches t (bound n) w.left.0 w.right.0 (Ok true) (bound z)) nodes yes-now in (
      e.same ∙ c.loop-w.invariant.0,
      e.kept ∙ c.loop-w.invariant.1,
      e.nodes ∙ nodes,
      joint_on (nodes_of m) (bound m) ps k w here (bound n) (bound z) c.loop-w.invariant.3 h,
    )

pub returns-in_err-matches : goal.returns-in_err-matches
returns-in_err-matches c =
    let m = c.args.self.now.matching.now in
    let n = c.loop-w.self.matching.now in
    let z = c.matches.new.self.matching.now in
    let ps : List Ask = c.args.asks.now in
    let k : ℕ = c.loop-w.w-index in
    let w : Ask = get_or ps k no_ask in
    let here = one_more ps k c.loop-w-test.true in
    let nodes : nodes_of n ≡ nodes_of m = c.loop-w.invariant.2 in
    let e = c.in_err-matches.ensures in
    let h = subst (λ (t : List Node). Matches t (bound n) w.left.0 w.right.0 (Err c.in_err-matches.field-0.0) (bound z)) nodes e.answer in
    let g : ∥ Good (nodes_of m) (bound n) ∥₁ = subst (λ (t : List Node). ∥ Good t (bound n) ∥₁) nodes n.solver.good in
    record {
      same = e.same ∙ c.loop-w.invariant.0;
      kept = e.kept ∙ c.loop-w.invariant.1;
      nodes = e.nodes ∙ nodes;
      answer = when_refused (nodes_of m) (bound m) ps c.from_residual.result c.from_residual.ensures.0 (joint_refused (nodes_of m) (bound m) ps k w here c.in_err-matches.field-0.0 (bound n) (bound z) c.loop-w-test.true g c.loop-w.invariant.3 h);
    }

pub returns-then-not-branch : goal.returns-then-not-branch
returns-then-not-branch c =
    let m = c.args.self.now.matching.now in
    let n = c.loop-w.self.matching.now in
    let z = c.matches.new.self.matching.now in
    let ps : List Ask = c.args.asks.now in
    let k : ℕ = c.loop-w.w-index in
    let w : Ask = get_or ps k no_ask in
    let here = one_more ps k c.loop-w-test.true in
    let nodes : nodes_of n ≡ nodes_of m = c.loop-w.invariant.2 in
    let e = c.in_ok-matches.ensures in
    let no-now = subst (λ (v : Bool). Matches (nodes_of n) (bound n) w.left.0 w.right.0 (Ok v) (bound z)) c.if-not-branch.true e.answer in
    let h = subst (λ (t : List Node). Matches t (bound n) w.left.0 w.right.0 (Ok false) (bound z)) nodes no-now in
    record {
      same = e.same ∙ c.loop-w.invariant.0;
      kept = e.kept ∙ c.loop-w.invariant.1;
      nodes = e.nodes ∙ nodes;
      answer = joint_stops (nodes_of m) (bound m) ps k w here (bound n) (bound z) c.loop-w-test.true c.loop-w.invariant.3 h;
    }

pub returns : goal.returns
returns c =
    let m = c.args.self.now.matching.now in
    let n = c.loop-w.self.matching.now in
    let g : ∥ Good (nodes_of m) (bound n) ∥₁ = subst (λ (t : List Node). ∥ Good t (bound n) ∥₁) c.loop-w.invariant.2 n.solver.good in
    record {
      same = c.loop-w.invariant.0;
      kept = c.loop-w.invariant.1;
      nodes = c.loop-w.invariant.2;
      answer = joint_ends (nodes_of m) (bound m) c.args.asks.now c.loop-w.w-index (bound n) (take_all c.loop-w.w-index c.args.asks.now c.loop-w-test.false) g c.loop-w.invariant.3;
    }
