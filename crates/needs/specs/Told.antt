-- What is told of a need.
use Rattle.std.specs.Prelude.{◌≡◌, ℕ, ◌^◌, ◌<◌, ◌≤◌, ◌⊎◌, List, length, Some, None, Option}
use mathlib.Core.List.{Memᴰ}
use Rattle.terms.specs.Terms.{Term, name, var, seal}
use Rattle.terms.specs.Bits.{In}
use Rattle.terms.specs.Sets.{bits}
use Rattle.terms.specs.declared.node.Node.{Node}
use Rattle.terms.specs.declared.variables.VarSet.{VarSet}
use Rattle.lifting.specs.Lift.{Analz}
use Rattle.unification.specs.Bindings.{val, Unbound}
use Rattle.unification.specs.declared.binding.Binding.{Binding}
use Rattle.matching.specs.Matchings.{MostGeneral}
use Rattle.deciding.specs.Ways as ways
use Rattle.reach.specs.Steps.{Values}
use Rattle.reach.specs.Reached.{Reached}
use Rattle.reach.specs.declared.reached.Reach.{Reach}
use Rattle.alike.specs.Finding as alikes
use Rattle.alike.specs.declared.heads.Alike.{Alike}
use Rattle.needs.specs.Needed.{Needed, Hopeless}
use Rattle.needs.specs.declared.answer.Need.{Need}
use Rattle.needs.specs.declared.answer.Need.TheVariants.{Met, Never, Shut, Keyed}

abbrev pub Marks : VarSet → ℕ → Type 0
Marks m x = In x (bits m)

-- the answer is right of the need of t, from what taking S apart reaches and the variables m
abbrev pub Right : List Node → List Binding → (ℕ → Term) → List Term → VarSet → Term → Need → Type 0
Right ns B θ S m t (Met v) = ((x : ℕ) → In x (bits m) → In x (bits v)) × ((x : ℕ) → In x (bits v) → In x (bits m) ⊎ Needed S (Marks m) t (var x)) × (L : List ℕ) × ((x : ℕ) → Memᴰ x L → In x (bits v)) × ways.Met S L t
Right ns B θ S m t Never = (u : Term) × Needed S (Marks m) t u × Hopeless S u
Right ns B θ S m t (Shut i) = (i.0 < length ns) × (b : Term) × (n : ℕ) × (val ns θ i.0 ≡ seal b (name n)) × Needed S (Marks m) t (seal b (name n)) × ¬ Analz S (name n) × ¬ Analz S (seal b (name n))
Right ns B θ S m t (Keyed i x) = (i.0 < length ns) × (b : Term) × (val ns θ i.0 ≡ seal b (var x.0)) × Needed S (Marks m) t (seal b (var x.0)) × Unbound B x.0 × ¬ In x.0 (bits m) × ¬ Analz S (seal b (var x.0))

-- the table is as matching takes it, the values are those of the bindings, r is what taking S apart reaches, and s tells which nodes have one value
pub record Given (ns : List Node) (B : List Binding) (r : Reach) (s : Alike) (θ : ℕ → Term) (S : List Term) : Type 0 where
  pub small : length ns ≤ 2 ^ 16
  pub general : MostGeneral ns B
  pub values : Values ns B θ
  pub reached : Reached ns B θ S r
  pub told : alikes.Told ns B s
  pub ended : alikes.Ended ns B s

-- what the need of a node comes down to, or that the table has no such node
abbrev pub Told : List Node → List Binding → Reach → Alike → VarSet → ℕ → Option Need → Type 0
Told ns B r s m i None = length ns ≤ i
Told ns B r s m i (Some w) = (i < length ns) × ((θ : ℕ → Term) (S : List Term) → Given ns B r s θ S → Right ns B θ S m (val ns θ i) w)
