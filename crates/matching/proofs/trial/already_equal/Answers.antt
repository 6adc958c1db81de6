use Rattle.std.proofs.Common.{◌≡◌, ℕ, Bool, true, false, eqb, List, length, Ok, Result, sym, ap, ◌∙◌, subst, rules}
use Rattle.terms.specs.declared.node.Node.{Node}
use Rattle.unification.specs.Bindings.{Good}
use Rattle.matching.specs.declared.matching.Matching.{Matching}
use Rattle.matching.specs.declared.fault.MatchFault.{MatchFault}
use Rattle.matching.specs.Matchings.{nodes_of, bound, Matches, Already}
use Rattle.matching.proofs.Trying.{already_apart, already_counted}
use Rattle.matching.proofs.trial.already_equal.Goals as goal

-- a match of the trial is a match of what it is a trial of
from : (m t : Matching) (a b : ℕ) (r : Result Bool MatchFault) (z : Matching) → t ≡ m → Matches (nodes_of t) (bound t) a b r (bound z) → Matches (nodes_of m) (bound m) a b r (bound z)
from m t a b r z e h = subst (λ (x : Matching). Matches (nodes_of x) (bound x) a b r (bound z)) e h

pub returns-then-not-branch : goal.returns-then-not-branch
returns-then-not-branch c =
    let m = c.args.m.now in
    let t = c.of-trial.result.matching.now in
    let z = c.matches.new.self.matching.now in
    let e = c.in_ok-matches.ensures in
    let h = subst (λ (v : Bool). Matches (nodes_of t) (bound t) c.args.a.0 c.args.b.0 (Ok v) (bound z)) c.if-not-branch.true e.answer in
    let table : nodes_of z ≡ nodes_of m = e.nodes ∙ ap nodes_of c.of-trial.ensures.matching in
    record {
      answer = already_apart (nodes_of m) (bound m) (bound z) c.args.a.0 c.args.b.0 m.solver.good (from m t c.args.a.0 c.args.b.0 (Ok false) z c.of-trial.ensures.matching h);
      bound = search rules;
      nodes = search rules;
    }

pub returns : goal.returns
returns c =
    let m = c.args.m.now in
    let t = c.of-trial.result.matching.now in
    let z = c.matches.new.self.matching.now in
    let e = c.in_ok-matches.ensures in
    let h = subst (λ (v : Bool). Matches (nodes_of t) (bound t) c.args.a.0 c.args.b.0 (Ok v) (bound z)) c.if-not-branch.false e.answer in
    let table : nodes_of z ≡ nodes_of m = e.nodes ∙ ap nodes_of c.of-trial.ensures.matching in
    let good : ∥ Good (nodes_of m) (bound z) ∥₁ = subst (λ (ns : List Node). ∥ Good ns (bound z) ∥₁) table z.solver.good in
    let a = already_counted (nodes_of m) (bound m) (bound z) c.args.a.0 c.args.b.0 m.solver.good good (from m t c.args.a.0 c.args.b.0 (Ok true) z c.of-trial.ensures.matching h) in
    let now-count : length c.bindings.result.now ≡ length (bound z) = ap length c.bindings.ensures.list in
    let then-count : length c.bindings-before.result.now ≡ length (bound m) = ap length c.bindings-before.ensures.list in
    record {
      answer = subst (λ (i : ℕ). Already (nodes_of m) (bound m) c.args.a.0 c.args.b.0 (Ok (eqb i (length c.bindings-before.result.now)))) (sym now-count) (subst (λ (j : ℕ). Already (nodes_of m) (bound m) c.args.a.0 c.args.b.0 (Ok (eqb (length (bound z)) j))) (sym then-count) a);
      bound = search rules;
      nodes = search rules;
    }
