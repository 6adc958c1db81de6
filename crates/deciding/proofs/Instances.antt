-- A matching told by its closed instances, in open terms.
use mathlib.Core.Path.{refl, sym, ap, ◌∙◌}
use Prim.Native.Nat.{ℕ}
use Rattle.terms.specs.Terms.{Term, inst, Closed}
use Rattle.lifting.proofs.Instances.{inst_closed, vars_map}
use Rattle.deciding.specs.Ways.{Meets}
use Rattle.deciding.specs.Found.{fresh, freshly}
use Rattle.deciding.specs.Decide.{Fine, InstancesEquate, InstancesExtend}
use Rattle.deciding.proofs.Walked.{inst_walked}
use Rattle.deciding.proofs.Finding.{fresh_injective}
use Rattle.deciding.proofs.Unifying.{inst_vars, free_inst}

-- the fresh valuation is an instance
pub fresh_meets : (V : ℕ) (σ : ℕ → Term) → Fine V σ → Meets σ (freshly σ)
fresh_meets V σ f x = inst_vars fresh (freshly σ) (σ x) (vars_map (λ y e. sym (ap (inst fresh) e)) (σ x) (f.still x))

fresh_closed : (σ : ℕ → Term) (x : ℕ) → Closed (freshly σ x)
fresh_closed σ x = inst_closed fresh (λ y. tt) (σ x)

pub instances_equate : InstancesEquate
instances_equate V σ f s c es ec h =
    fresh_injective (inst σ s) (inst σ c) (free_inst σ f.plain s es) (free_inst σ f.plain c ec)
    (sym (inst_walked σ fresh (freshly σ) (λ x. refl) s) ∙ (h (freshly σ) (fresh_closed σ) (fresh_meets V σ f) ∙ inst_walked σ fresh (freshly σ) (λ x. refl) c))

pub instances_extend : InstancesExtend
instances_extend V σ τ f g h x =
    fresh_injective (τ x) (inst τ (σ x)) (g.plain x) (free_inst τ g.plain (σ x) (f.plain x))
    (h (freshly τ) (fresh_closed τ) (fresh_meets V τ g) x ∙ inst_walked τ fresh (freshly τ) (λ y. refl) (σ x))
