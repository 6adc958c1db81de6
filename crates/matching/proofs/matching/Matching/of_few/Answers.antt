use Rattle.std.proofs.Common.{List, vec_items, sym, subst, arith}
use Rattle.unification.specs.Bindings.{Good}
use Rattle.unification.specs.declared.binding.Binding.{Binding}
use Rattle.unification.proofs.Goodness.{good_none}
use Rattle.matching.proofs.matching.Matching.of_few.Goals as goal

pub invariant_of-solver : goal.invariant_of-solver
invariant_of-solver c =
    let t = c.args.nodes in
    record {
      good = subst (λ (B : List Binding). ∥ Good (vec_items t.nodes) B ∥₁) (sym c.in_ok-bindings.ensures) (good_none (vec_items t.nodes));
      fits = omega (arith, c.in_ok-classes.ensures.0, c.len-n.ensures);
    }
