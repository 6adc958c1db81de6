-- What is known of good bindings without knowing their rank.
use mathlib.Core.HLevel.{Π_prop, ⊥_prop}
use mathlib.Core.Logic.{∥∥₁_elim, ∥∥₁_map}
use mathlib.Core.Path.{◌≡◌, sym, ◌∙◌, ap, subst}
use mathlib.Core.List.{List, []}
use Prim.Native.Nat.{ℕ, ◌<◌}
use native.Mathlib.Bridge.{le_prop}
use native.Mathlib.Omega.{arith}
use lib.ListN.{take, length-take}
use lib.Seq.{get_or-take}
use Rattle.terms.specs.Terms.{Vars}
use Rattle.terms.specs.Nodes.{term, node}
use Rattle.terms.specs.declared.node.Node.{Node}
use Rattle.unification.specs.Bindings.{no_binding, variable_at, node_at, Within, Once, Forward, Ranked, Good}
use Rattle.unification.specs.declared.binding.Binding.{Binding}

module _ (ns : List Node) (B : List Binding) (g : ∥ Good ns B ∥₁) where
  pub good_within : Within ns B
  good_within = ∥∥₁_elim g (Π_prop (λ k. Π_prop (λ h. le_prop))) (λ k. k.within)

  pub good_once : Once B
  good_once = ∥∥₁_elim g (Π_prop (λ j. Π_prop (λ k. Π_prop (λ h. Π_prop (λ l. Π_prop (λ e. ⊥_prop)))))) (λ k. k.once)

  pub good_ranked : Ranked ns B
  good_ranked = ∥∥₁_map g (λ k. (k.rank, k.falls))

  pub good_forward : Forward ns B
  good_forward = ∥∥₁_elim g (Π_prop (λ j. Π_prop (λ k. Π_prop (λ x. Π_prop (λ h. Π_prop (λ l. Π_prop (λ e. Π_prop (λ f. ⊥_prop)))))))) (λ k. k.forward)

-- no bindings are good
pub good_none : (ns : List Node) → ∥ Good ns [] ∥₁
good_none ns = ∣ record {
  within = λ k h. absurd (omega arith);
  once = λ j k l h. absurd (omega arith);
  forward = λ j k x l h. absurd (omega arith);
  rank = λ x. 0;
  falls = λ k h. absurd (omega arith);
} ∣₁

-- a beginning of good bindings is good
module _ (B : List Binding) (n : ℕ) where
  variable_front : (k : ℕ) → k < n → variable_at (take n B) k ≡ variable_at B k
  variable_front k h = ap (λ (b : Binding). b.variable.0) (get_or-take n B k no_binding h)

  node_front : (k : ℕ) → k < n → node_at (take n B) k ≡ node_at B k
  node_front k h = ap (λ (b : Binding). b.node.0) (get_or-take n B k no_binding h)

good_take : (ns : List Node) (B : List Binding) (n : ℕ) → Good ns B → Good ns (take n B)
good_take ns B n g = record {
  within = λ k h. let a = node_front B n k (omega (arith, length-take n B)) in let b = g.within k (omega (arith, length-take n B)) in omega arith;
  once = λ j k l h e. g.once j k l (omega (arith, length-take n B)) (sym (variable_front B n j (omega (arith, length-take n B))) ∙ e ∙ variable_front B n k (omega (arith, length-take n B)));
  forward = λ j k x l h e f. g.forward j k x l (omega (arith, length-take n B)) (sym (ap (node ns) (node_front B n k (omega (arith, length-take n B)))) ∙ e) (sym (variable_front B n j (omega (arith, length-take n B))) ∙ f);
  rank = g.rank;
  falls = λ k h.
      let p = variable_front B n k (omega (arith, length-take n B)) in
      let q = node_front B n k (omega (arith, length-take n B)) in
      subst (λ (m : ℕ). Vars (λ y. g.rank y < g.rank (variable_at (take n B) k)) (term ns m)) (sym q) (subst (λ (x : ℕ). Vars (λ y. g.rank y < g.rank x) (term ns (node_at B k))) (sym p) (g.falls k (omega (arith, length-take n B))));
}

pub good_front : (ns : List Node) (B : List Binding) (n : ℕ) → ∥ Good ns B ∥₁ → ∥ Good ns (take n B) ∥₁
good_front ns B n g = ∥∥₁_map g (good_take ns B n)
