-- An assignment of the unbound variables extends to exactly one instance.
use mathlib.Core.Path.{◌≡◌, refl, sym, ap, ◌∙◌, subst, fun_ext}
use mathlib.Core.HLevel.{Π_prop, ×_prop, Σ_prop_path, Unit-prop, ⊥_prop}
use mathlib.Core.Logic.{∥∥₁_elim}
use mathlib.Core.List.{List}
use Prim.Native.Nat.{ℕ, zero, suc, ◌<◌, ◌≤◌}
use native.Mathlib.Nat.{not-suc-le-zero}
use native.Mathlib.Decide.{dec_lt}
use native.Mathlib.Omega.{arith}
use lib.ListN.{length, take}
use lib.Seq.{get_or-take}
use Rattle.terms.specs.Terms.{Term, name, env, var, pair, seal, inst, Vars}
use Rattle.terms.specs.Nodes.{term}
use Rattle.terms.specs.declared.node.Node.{Node}
use Rattle.terms.proofs.Equality.{term_set}
use Rattle.unification.specs.Bindings.{no_binding, variable_at, node_at, val, Instance, Unbound, Once, Falls, Good, Extension, Only, Extends, ExactlyOne, NeverInside}
use Rattle.unification.specs.declared.binding.Binding.{Binding}
use Rattle.unification.proofs.Variables.{vars_map, inst_cong}
use Rattle.unification.proofs.Deciding.{Place, bound?}
use Rattle.unification.proofs.Goodness.{good_once}

abbrev pick : {A : Type 0} → Dec A → (A → Term) → Term → Term
pick (yes a) f t = f a
pick (no g) f t = t

pick_yes : {A : Type 0} (d : Dec A) (f : A → Term) (t u : Term) → A → ((a : A) → f a ≡ u) → pick d f t ≡ u
pick_yes (yes a) f t u p e = e a
pick_yes (no g) f t u p e = absurd (g p)

pick_no : {A : Type 0} (d : Dec A) (f : A → Term) (t : Term) → (A → ⊥) → pick d f t ≡ t
pick_no (yes a) f t g = absurd (g a)
pick_no (no h) f t g = refl

-- each variable's binding is followed, at most n deep
abbrev deep : List Node → List Binding → (ℕ → Term) → ℕ → ℕ → Term
deep ns B σ zero x = σ x
deep ns B σ (suc n) x = pick (bound? B x) (λ p. inst (deep ns B σ n) (term ns (node_at B p.0))) (σ x)

once_same : (B : List Binding) → Once B → (j k : ℕ) → j < length B → k < length B → variable_at B j ≡ variable_at B k → j ≡ k
once_same B once j k hj hk e =
    elim (dec_lt j k) [
      | yes h ↦ absurd (once j k h hk e)
      | no h ↦ elim (dec_lt k j) [ yes g ↦ absurd (once k j g hj (sym e)) | no g ↦ omega arith ]
    ]

module _ (ns : List Node) (B : List Binding) (r : ℕ → ℕ) (falls : Falls ns B r) (σ : ℕ → Term) where
  -- deeper than its rank, the value of a variable stays
  stable : (m n x : ℕ) → r x < m → r x < n → deep ns B σ m x ≡ deep ns B σ n x
  stable zero n x h k = absurd (not-suc-le-zero h)
  stable (suc m) zero x h k = absurd (not-suc-le-zero k)
  stable (suc m) (suc n) x h k = go (bound? B x) (λ y hy ky. stable m n y hy ky)
    where
      go : (d : Dec (Place B x)) → ((y : ℕ) → r y < m → r y < n → deep ns B σ m y ≡ deep ns B σ n y) → pick d (λ p. inst (deep ns B σ m) (term ns (node_at B p.0))) (σ x) ≡ pick d (λ p. inst (deep ns B σ n) (term ns (node_at B p.0))) (σ x)
      go (no f) ih = refl
      go (yes p) ih =
          let e : r (variable_at B p.0) ≡ r x = ap r p.2 in
          inst_cong (deep ns B σ m) (deep ns B σ n) (term ns (node_at B p.0)) (vars_map (λ y hy. ih y (omega arith) (omega arith)) (term ns (node_at B p.0)) (falls p.0 p.1))

  abbrev full : ℕ → Term
  full x = deep ns B σ (suc (r x)) x

  full_unbound : (x : ℕ) → Unbound B x → full x ≡ σ x
  full_unbound x u = pick_no (bound? B x) (λ p. inst (deep ns B σ (r x)) (term ns (node_at B p.0))) (σ x) (λ p. u p.0 p.1 p.2)

  full_instance : Once B → Instance ns B full
  full_instance once k h =
      let x : ℕ = variable_at B k in
      pick_yes (bound? B x) (λ p. inst (deep ns B σ (r x)) (term ns (node_at B p.0))) (σ x) (val ns full (node_at B k)) (k, h, refl)
      (λ p. ap (λ (j : ℕ). inst (deep ns B σ (r x)) (term ns (node_at B j))) (once_same B once p.0 k p.1 h p.2)
      ∙ inst_cong (deep ns B σ (r x)) full (term ns (node_at B k)) (vars_map (λ y hy. stable (r x) (suc (r y)) y hy (omega arith)) (term ns (node_at B k)) (falls k h)))

  -- two extensions agree, by the rank
  agree : (θ η : ℕ → Term) → Extension ns B σ θ → Extension ns B σ η → (n x : ℕ) → r x < n → η x ≡ θ x
  agree θ η e f zero x h = absurd (not-suc-le-zero h)
  agree θ η e f (suc n) x h = go (bound? B x) (λ y l. agree θ η e f n y l)
    where
      go : Dec (Place B x) → ((y : ℕ) → r y < n → η y ≡ θ y) → η x ≡ θ x
      go (no g) ih = let u : Unbound B x = λ k l q. g (k, l, q) in f.1 x u ∙ sym (e.1 x u)
      go (yes p) ih =
          let q : r (variable_at B p.0) ≡ r x = ap r p.2 in
          ap η (sym p.2) ∙ f.0 p.0 p.1
          ∙ inst_cong η θ (term ns (node_at B p.0)) (vars_map (λ y hy. ih y (omega arith)) (term ns (node_at B p.0)) (falls p.0 p.1))
          ∙ sym (e.0 p.0 p.1) ∙ ap θ p.2

extends : (ns : List Node) (B : List Binding) → Good ns B → Extends ns B
extends ns B g σ =
    let θ : ℕ → Term = full ns B g.rank g.falls σ in
    let e : Extension ns B σ θ = (full_instance ns B g.rank g.falls σ g.once, full_unbound ns B g.rank g.falls σ) in
    (θ, (e, λ η f x. agree ns B g.rank g.falls σ θ η e f (suc (g.rank x)) x (omega arith)))

only_prop : (ns : List Node) (B : List Binding) (σ θ : ℕ → Term) → IsProp (Only ns B σ θ)
only_prop ns B σ θ =
    ×_prop
    (×_prop (Π_prop (λ k. Π_prop (λ h. term_set _ _))) (Π_prop (λ x. Π_prop (λ u. term_set _ _))))
    (Π_prop (λ η. Π_prop (λ e. Π_prop (λ x. term_set _ _))))

-- two such instances are one
one_prop : (ns : List Node) (B : List Binding) (σ : ℕ → Term) → IsProp ((θ : ℕ → Term) × Only ns B σ θ)
one_prop ns B σ u v = Σ_prop_path (only_prop ns B σ) (fun_ext (λ x. v.1.1 u.0 u.1.0 x))

pub exactly_one : ExactlyOne
exactly_one ns B g σ = ∥∥₁_elim g (one_prop ns B σ) (λ h. extends ns B h σ)

-- what holds of the variables of each value holds of those of an instance
vars_inst : (P : ℕ → Type 0) (θ : ℕ → Term) (t : Term) → Vars (λ y. Vars P (θ y)) t → Vars P (inst θ t)
vars_inst P θ (name m) v = tt
vars_inst P θ (env m) v = tt
vars_inst P θ (var x) v = v
vars_inst P θ (pair a b) v = (vars_inst P θ a v.0, vars_inst P θ b v.1)
vars_inst P θ (seal a b) v = (vars_inst P θ a v.0, vars_inst P θ b v.1)

vars_prop : (P : ℕ → Type 0) → ((x : ℕ) → IsProp (P x)) → (t : Term) → IsProp (Vars P t)
vars_prop P h (name m) = Unit-prop
vars_prop P h (env m) = Unit-prop
vars_prop P h (var x) = h x
vars_prop P h (pair a b) = ×_prop (vars_prop P h a) (vars_prop P h b)
vars_prop P h (seal a b) = ×_prop (vars_prop P h a) (vars_prop P h b)

-- the value of a variable, by the rank
free_below : (ns : List Node) (B : List Binding) (r : ℕ → ℕ) → Falls ns B r → (θ : ℕ → Term) → Extension ns B var θ → (n x : ℕ) → r x < n → Vars (Unbound B) (θ x)
free_below ns B r falls θ e zero x h = absurd (not-suc-le-zero h)
free_below ns B r falls θ e (suc n) x h = go (bound? B x) (λ y l. free_below ns B r falls θ e n y l)
  where
    go : Dec (Place B x) → ((y : ℕ) → r y < n → Vars (Unbound B) (θ y)) → Vars (Unbound B) (θ x)
    go (no g) ih = let u : Unbound B x = λ k l q. g (k, l, q) in subst (Vars (Unbound B)) (sym (e.1 x u)) u
    go (yes p) ih =
        let q : r (variable_at B p.0) ≡ r x = ap r p.2 in
        let value : θ x ≡ val ns θ (node_at B p.0) = ap θ (sym p.2) ∙ e.0 p.0 p.1 in
        subst (Vars (Unbound B)) (sym value) (vars_inst (Unbound B) θ (term ns (node_at B p.0)) (vars_map (λ y hy. ih y (omega arith)) (term ns (node_at B p.0)) (falls p.0 p.1)))

pub never_inside : NeverInside
never_inside ns B g θ e x =
    ∥∥₁_elim g (vars_prop (Unbound B) (λ y. Π_prop (λ k. Π_prop (λ h. Π_prop (λ q. ⊥_prop)))) (θ x)) (λ h. free_below ns B h.rank h.falls θ e (suc (h.rank x)) x (omega arith))

-- bindings that all instances of a beginning of them are instances of are that beginning
module _ (ns : List Node) (B B' : List Binding) (g : ∥ Good ns B ∥₁) (g' : ∥ Good ns B' ∥₁) (front : take (length B) B' ≡ B) where
  pub no_longer : ((θ : ℕ → Term) → Instance ns B θ → Instance ns B' θ) → length B' ≤ length B
  no_longer same =
      elim (dec_lt (length B) (length B')) [
        | no h ↦ omega arith
        | yes h ↦
            let x : ℕ = variable_at B' (length B) in
            let e = exactly_one ns B g var in
            let θ : ℕ → Term = e.0 in
            let old : (j : ℕ) → j < length B → variable_at B' j ≡ variable_at B j = λ j l. sym (ap (λ (b : Binding). b.variable.0) (get_or-take (length B) B' j no_binding l)) ∙ ap (λ (C : List Binding). variable_at C j) front in
            let unbound : Unbound B x = λ j l q. good_once ns B' g' j (length B) l h (old j l ∙ q) in
            let all : Extension ns B' var θ = (same θ e.1.0.0, λ y u. e.1.0.1 y (λ j l q. u j (omega (arith, h, l)) (old j l ∙ q))) in
            let here : Vars (Unbound B') (var x) = subst (Vars (Unbound B')) (e.1.0.1 x unbound) (never_inside ns B' g' θ all x) in
            absurd (here (length B) h refl)
      ]
