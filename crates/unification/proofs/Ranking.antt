-- Binding a variable to a node from which it is not reached keeps bindings good.
use mathlib.Core.Path.{◌≡◌, sym, ap, ◌∙◌, subst}
use mathlib.Core.List.{List, [], ◌∷◌, ◌++◌}
use Prim.Native.Nat.{ℕ, ◌+◌, ◌<◌, ◌≤◌}
use native.Mathlib.Decide.{dec_lt}
use native.Mathlib.Omega.{arith}
use lib.ListN.{length, get_or, length-append, get_or-append}
use lib.Seq.{get_or-append_seam}
use Rattle.terms.specs.Terms.{Term, Vars}
use Rattle.terms.specs.Bits.{In}
use Rattle.terms.specs.Nodes.{term, node}
use Rattle.terms.specs.declared.node.Node.{Node}
use Rattle.terms.specs.declared.node.Node.TheVariants.{Var}
use Rattle.terms.proofs.Bitsets.{vars_from}
use Rattle.unification.specs.Bindings.{no_binding, variable_at, node_at, val, Instance, Unbound, Falls, Good}
use Rattle.unification.specs.Reaching.{Apart, Start}
use Rattle.unification.specs.Steps.{with_binding}
use Rattle.unification.specs.declared.binding.Binding.{Binding}
use Rattle.unification.proofs.Variables.{vars_map, vars_both, top, below_top}
use Rattle.unification.proofs.Deciding.{in?, choose, choose_yes, choose_no, choose_le}

abbrev pub at : List Binding → ℕ → Binding
at B k = get_or B k no_binding

-- what holds of each binding and of one more holds of each of the longer list
pub snoc : (B : List Binding) (b : Binding) (P : Binding → Type 0) → ((k : ℕ) → k < length B → P (at B k)) → P b → (k : ℕ) → k < length (B ++ (b ∷ [])) → P (at (B ++ (b ∷ [])) k)
snoc B b P all here k h =
    elim (dec_lt k (length B)) [
      | yes l ↦ subst P (sym (get_or-append B (b ∷ []) no_binding k l)) (all k l)
      | no l ↦
          let e : k ≡ length B = omega (arith, length-append B (b ∷ [])) in
          subst (λ (j : ℕ). P (at (B ++ (b ∷ [])) j)) (sym e) (subst P (sym (get_or-append_seam B b [] no_binding)) here)
    ]

pub old : (B : List Binding) (b : Binding) (P : Binding → Type 0) → ((k : ℕ) → k < length (B ++ (b ∷ [])) → P (at (B ++ (b ∷ [])) k)) → (k : ℕ) → k < length B → P (at B k)
old B b P all k h = subst P (get_or-append B (b ∷ []) no_binding k h) (all k (omega (arith, length-append B (b ∷ []))))

pub new : (B : List Binding) (b : Binding) (P : Binding → Type 0) → ((k : ℕ) → k < length (B ++ (b ∷ [])) → P (at (B ++ (b ∷ [])) k)) → P b
new B b P all = subst P (get_or-append_seam B b [] no_binding) (all (length B) (omega (arith, length-append B (b ∷ []))))

abbrev Agrees : List Node → (ℕ → Term) → Binding → Type 0
Agrees ns θ b = θ b.variable.0 ≡ val ns θ b.node.0

pub instance_old : (ns : List Node) (B : List Binding) (b : Binding) (θ : ℕ → Term) → Instance ns (B ++ (b ∷ [])) θ → Instance ns B θ
instance_old ns B b θ = old B b (Agrees ns θ)

pub instance_new : (ns : List Node) (B : List Binding) (b : Binding) (θ : ℕ → Term) → Instance ns (B ++ (b ∷ [])) θ → θ b.variable.0 ≡ val ns θ b.node.0
instance_new ns B b θ = new B b (Agrees ns θ)

pub instance_snoc : (ns : List Node) (B : List Binding) (b : Binding) (θ : ℕ → Term) → Instance ns B θ → θ b.variable.0 ≡ val ns θ b.node.0 → Instance ns (B ++ (b ∷ [])) θ
instance_snoc ns B b θ = snoc B b (Agrees ns θ)

-- the variable and the node of an old binding, and of the new one
pub variable_old : (B : List Binding) (b : Binding) (k : ℕ) → k < length B → variable_at (B ++ (b ∷ [])) k ≡ variable_at B k
variable_old B b k h = ap (λ (c : Binding). c.variable.0) (get_or-append B (b ∷ []) no_binding k h)

pub variable_new : (B : List Binding) (b : Binding) → variable_at (B ++ (b ∷ [])) (length B) ≡ b.variable.0
variable_new B b = ap (λ (c : Binding). c.variable.0) (get_or-append_seam B b [] no_binding)

node_old : (B : List Binding) (b : Binding) (k : ℕ) → k < length B → node_at (B ++ (b ∷ [])) k ≡ node_at B k
node_old B b k h = ap (λ (c : Binding). c.node.0) (get_or-append B (b ∷ []) no_binding k h)

node_new : (B : List Binding) (b : Binding) → node_at (B ++ (b ∷ [])) (length B) ≡ b.node.0
node_new B b = ap (λ (c : Binding). c.node.0) (get_or-append_seam B b [] no_binding)

module _ (ns : List Node) (B : List Binding) (x n : ℕ) (apart : Apart ns B x n) where
  -- a variable of the set keeps its rank, every other is lifted above the new term's variables
  abbrev lifted : (ℕ → ℕ) → ℕ → ℕ
  lifted r y = choose (in? y apart.set) (r y) (r y + top r (term ns n))

  lifted_in : (r : ℕ → ℕ) (y : ℕ) → In y apart.set → lifted r y ≡ r y
  lifted_in r y s = choose_yes (in? y apart.set) (r y) (r y + top r (term ns n)) s

  lifted_out : (r : ℕ → ℕ) (y : ℕ) → (In y apart.set → ⊥) → lifted r y ≡ r y + top r (term ns n)
  lifted_out r y s = choose_no (in? y apart.set) (r y) (r y + top r (term ns n)) s

  lifted_le : (r : ℕ → ℕ) (y : ℕ) → lifted r y ≤ r y + top r (term ns n)
  lifted_le r y = choose_le (in? y apart.set) (r y) (top r (term ns n))

  falls_old : (r : ℕ → ℕ) → Falls ns B r → (k : ℕ) → k < length B → Vars (λ y. lifted r y < lifted r (variable_at B k)) (term ns (node_at B k))
  falls_old r falls k h = go (in? (variable_at B k) apart.set)
    where
      go : Dec (In (variable_at B k) apart.set) → Vars (λ y. lifted r y < lifted r (variable_at B k)) (term ns (node_at B k))
      go (yes s) =
          let inside : Vars (λ y. In y apart.set) (term ns (node_at B k)) = vars_from (λ y. In y apart.set) (term ns (node_at B k)) (λ y o. apart.leads k h s y o) in
          vars_map (λ y p. let a = lifted_in r y p.1 in let b = lifted_in r (variable_at B k) s in let q = p.0 in omega arith) (term ns (node_at B k)) (vars_both (λ y. r y < r (variable_at B k)) (λ y. In y apart.set) (term ns (node_at B k)) (falls k h) inside)
      go (no s) =
          vars_map (λ y p. let a = lifted_le r y in let b = lifted_out r (variable_at B k) s in omega arith) (term ns (node_at B k)) (falls k h)

  falls_new : (r : ℕ → ℕ) → Vars (λ y. lifted r y < lifted r x) (term ns n)
  falls_new r =
      vars_map (λ y p. let a = lifted_in r y p.1 in let b = lifted_out r x apart.away in let q = p.0 in omega arith) (term ns n) (vars_both (λ y. r y < top r (term ns n)) (λ y. In y apart.set) (term ns n) (below_top r (term ns n)) (vars_from (λ y. In y apart.set) (term ns n) apart.starts))

  pub good_snoc : n < length ns → Good ns B → Unbound B x → Start ns B x n → Good ns (with_binding B x n)
  good_snoc h g unbound start =
      let b : Binding = record { variable = record { 0 = x }; node = record { 0 = n } } in
      record {
        within = snoc B b (λ b. b.node.0 < length ns) g.within h;
        once = λ j k l m e.
            elim (dec_lt k (length B)) [
              | yes q ↦ g.once j k l q (sym (variable_old B b j (omega arith)) ∙ e ∙ variable_old B b k q)
              | no q ↦
                  let here : k ≡ length B = omega (arith, length-append B (b ∷ [])) in
                  unbound j (omega arith) (sym (variable_old B b j (omega arith)) ∙ e ∙ ap (λ (i : ℕ). variable_at (B ++ (b ∷ [])) i) here ∙ variable_new B b)
            ];
        forward = λ j k y l m e f.
            elim (dec_lt k (length B)) [
              | yes q ↦ g.forward j k y l q (sym (ap (node ns) (node_old B b k q)) ∙ e) (sym (variable_old B b j (omega arith)) ∙ f)
              | no q ↦
                  let here : k ≡ length B = omega (arith, length-append B (b ∷ [])) in
                  let at_n : node ns n ≡ Var (record { 0 = y }) = sym (ap (λ (i : ℕ). node ns (node_at (B ++ (b ∷ [])) i)) here ∙ ap (node ns) (node_new B b)) ∙ e in
                  elim (dec_lt j (length B)) [
                    | yes s ↦ start.walked y at_n j s (sym (variable_old B b j s) ∙ f)
                    | no s ↦
                        let there : j ≡ length B = omega arith in
                        let same : y ≡ x = sym f ∙ ap (λ (i : ℕ). variable_at (B ++ (b ∷ [])) i) there ∙ variable_new B b in
                        start.other (at_n ∙ ap (λ (z : ℕ). Var (record { 0 = z })) same)
                  ]
            ];
        rank = lifted g.rank;
        falls = snoc B b (λ b. Vars (λ y. lifted g.rank y < lifted g.rank b.variable.0) (term ns b.node.0)) (falls_old g.rank g.falls) (falls_new g.rank);
      }
