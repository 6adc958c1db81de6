use Rattle.std.proofs.Common.{List, sym, subst}
use Rattle.unification.specs.Bindings.{Good}
use Rattle.unification.specs.declared.binding.Binding.{Binding}
use Rattle.unification.proofs.Goodness.{good_front}
use Rattle.matching.specs.Matchings.{nodes_of, bound}
use Rattle.matching.proofs.matching.Matching.cut.Goals as goal

pub invariant_of-self : goal.invariant_of-self
invariant_of-self c =
    let m = c.args.self.now in
    let good = subst (λ (B : List Binding). ∥ Good (nodes_of m) B ∥₁) (sym c.cut.ensures) (good_front (nodes_of m) (bound m) c.args.n m.solver.good) in
    ((good, (m.solver.fits, tt)), (m.calm, (m.roomy, tt)))
