-- The index through one binding more and one less, and a walk through the bindings.
use mathlib.Core.Path.{◌≡◌, refl, sym, ap, ◌∙◌, subst}
use mathlib.Core.List.{List, [], ◌∷◌, ◌++◌}
use Prim.Native.Nat.{ℕ, ◌-◌, ◌<◌, ◌≤◌}
use native.Mathlib.Decide.{dec_lt, ℕ_discrete}
use native.Mathlib.Omega.{arith}
use lib.ListN.{length, get_or, set, take, length-set, length-append}
use lib.Seq.{get_or-set_same, get_or-set_other, take-append-le}
use Rattle.terms.specs.Terms.{Term}
use Rattle.terms.specs.Nodes.{node, Ordered}
use Rattle.terms.specs.declared.node.Node.{Node}
use Rattle.terms.specs.declared.number.Variable.{Variable}
use Rattle.terms.specs.declared.node.Node.TheVariants.{Name, Env, Var, Pair, Seal}
use Rattle.std.specs.Prelude.{Option, Some, None}
use Rattle.unification.specs.Bindings.{variable_at, node_at, val, Instance, Unbound, Within, Forward}
use Rattle.unification.specs.Index.{Indexed, Placed}
use Rattle.unification.specs.declared.binding.Binding.{Binding}
use Rattle.unification.proofs.Values.{val_is}
use Rattle.unification.proofs.Ranking.{variable_old, variable_new}

some_same : (j k : ℕ) → Some j ≡ Some k → j ≡ k
some_same j k e = cc

-- what the index has for a variable is the place of its binding
pub placed : (B : List Binding) (I : List (Option ℕ)) (x : ℕ) (o : Option ℕ) → Indexed B I → get_or I x None ≡ o → Placed B (Var (record { 0 = x })) o
placed B I x None d e = λ y q k h p.
    let v : Variable = record { 0 = x } in
    let w : Variable = record { 0 = y } in
    let g : v ≡ w = cc in
    let f : x ≡ y = ap (λ (z : Variable). z.0) g in
    let r : get_or I y None ≡ Some k = ap (λ (z : ℕ). get_or I z None) (sym p) ∙ (d.0 k h).1 in
    let s : get_or I y None ≡ None = ap (λ (z : ℕ). get_or I z None) (sym f) ∙ e in
    cc
placed B I x (Some k) d e = let a = d.1 x k e in (a.0, ap (λ (z : ℕ). Var (record { 0 = z })) (sym a.1))

pub indexed_put : (B : List Binding) (I : List (Option ℕ)) (b : Binding) → Indexed B I → Unbound B b.variable.0 → b.variable.0 < length I → Indexed (B ++ (b ∷ [])) (set I b.variable.0 (Some (length B)))
indexed_put B I b d u h =
    let x : ℕ = b.variable.0 in
    let here : Option ℕ = Some (length B) in (
      λ k m.
          elim (dec_lt k (length B)) [
            | yes l ↦
                let a = d.0 k l in
                let other : variable_at B k ≡ x → ⊥ = λ e. u k l e in (
                  omega (arith, length-set I x here, variable_old B b k l, a.0),
                  ap (λ (y : ℕ). get_or (set I x here) y None) (variable_old B b k l) ∙ get_or-set_other I x (variable_at B k) here None other ∙ a.1,
                )
            | no l ↦
                let e : k ≡ length B = omega (arith, length-append B (b ∷ [])) in
                let v : variable_at (B ++ (b ∷ [])) k ≡ x = ap (λ (j : ℕ). variable_at (B ++ (b ∷ [])) j) e ∙ variable_new B b in (
                  omega (arith, length-set I x here),
                  ap (λ (y : ℕ). get_or (set I x here) y None) v ∙ get_or-set_same I x here None h ∙ ap Some (sym e),
                )
          ],
      λ z k e.
          elim (ℕ_discrete z x) [
            | yes p ↦
                let q : here ≡ Some k = sym (get_or-set_same I x here None h) ∙ ap (λ (y : ℕ). get_or (set I x here) y None) (sym p) ∙ e in
                let r : k ≡ length B = cc in
                (omega (arith, length-append B (b ∷ [])), ap (λ (j : ℕ). variable_at (B ++ (b ∷ [])) j) r ∙ variable_new B b ∙ sym p)
            | no p ↦
                let a = d.1 z k (sym (get_or-set_other I x z here None p) ∙ e) in
                (omega (arith, a.0, length-append B (b ∷ [])), variable_old B b k a.0 ∙ a.1)
          ],
    )

pub indexed_pop : (B : List Binding) (I : List (Option ℕ)) (b : Binding) → Indexed (B ++ (b ∷ [])) I → Indexed B (set I b.variable.0 None)
indexed_pop B I b d =
    let x : ℕ = b.variable.0 in
    let here = d.0 (length B) (omega (arith, length-append B (b ∷ []))) in
    let last : get_or I x None ≡ Some (length B) = ap (λ (y : ℕ). get_or I y None) (sym (variable_new B b)) ∙ here.1 in
    let room : x < length I = omega (arith, here.0, variable_new B b) in (
      λ k h.
          let a = d.0 k (omega (arith, length-append B (b ∷ []))) in
          let v : get_or I (variable_at B k) None ≡ Some k = ap (λ (y : ℕ). get_or I y None) (sym (variable_old B b k h)) ∙ a.1 in
          let other : variable_at B k ≡ x → ⊥ = λ e. (let q : k ≡ length B = some_same k (length B) (sym v ∙ ap (λ (y : ℕ). get_or I y None) e ∙ last) in omega arith) in
          (omega (arith, length-set I x None, a.0, variable_old B b k h), get_or-set_other I x (variable_at B k) None None other ∙ v),
      λ z k e.
          elim (ℕ_discrete z x) [
            | yes p ↦
                let q : None ≡ Some k = sym (get_or-set_same I x None None room) ∙ ap (λ (y : ℕ). get_or (set I x None) y None) (sym p) ∙ e in
                absurd (cc)
            | no p ↦
                let a = d.1 z k (sym (get_or-set_other I x z None None p) ∙ e) in
                let other : k ≡ length B → ⊥ = λ q. p (sym a.1 ∙ ap (λ (j : ℕ). variable_at (B ++ (b ∷ [])) j) q ∙ variable_new B b) in
                let l : k < length B = elim (dec_lt k (length B)) [ yes h ↦ h | no h ↦ absurd (other (omega (arith, a.0, length-append B (b ∷ [])))) ] in
                (l, sym (variable_old B b k l) ∙ a.1)
          ],
    )

-- the walk from i has come to `here`
pub record Reached (ns : List Node) (B : List Binding) (i here : ℕ) : Type 0 where
  pub within : here < length ns
  pub same : (θ : ℕ → Term) → Instance ns B θ → val ns θ i ≡ val ns θ here

pub stays : (ns : List Node) (B : List Binding) (i : ℕ) → i < length ns → Reached ns B i i
stays ns B i h = record { within = h; same = λ θ e. refl }

pub hop : (ns : List Node) (B : List Binding) (i here k : ℕ) → Ordered ns → Within ns B → k < length B → node ns here ≡ Var (record { 0 = variable_at B k }) → Reached ns B i here → Reached ns B i (node_at B k)
hop ns B i here k o w h e r = record {
  within = w k h;
  same = λ θ inst. r.same θ inst ∙ val_is ns o θ here r.within (Var (record { 0 = variable_at B k })) e ∙ inst k h;
}

-- how many bindings the walk may still go through from a place, and from a node
abbrev pub from_place : List Binding → Option ℕ → ℕ
from_place B None = 0
from_place B (Some k) = length B - k

abbrev pub ahead : List Binding → List (Option ℕ) → Node → ℕ
ahead B I (Var x) = from_place B (get_or I x.0 None)
ahead B I (Name n) = 0
ahead B I (Env e) = 0
ahead B I (Pair l r) = 0
ahead B I (Seal b k) = 0

-- the node of binding k is bound later, if at all
module _ (ns : List Node) (B : List Binding) (I : List (Option ℕ)) (k : ℕ) (f : Forward ns B) (d : Indexed B I) (h : k < length B) where
  later : (y : ℕ) (o : Option ℕ) → node ns (node_at B k) ≡ Var (record { 0 = y }) → get_or I y None ≡ o → from_place B o < length B - k
  later y None e p = omega arith
  later y (Some j) e p =
      let a = d.1 y j p in
      elim (dec_lt k j) [ yes l ↦ omega (arith, a.0) | no l ↦ absurd (f j k y (omega arith) h e a.1) ]

  closer : (m : Node) → node ns (node_at B k) ≡ m → ahead B I m < length B - k
  closer (Var y) e = later y.0 (get_or I y.0 None) e refl
  closer (Name n) e = omega arith
  closer (Env n) e = omega arith
  closer (Pair l r) e = omega arith
  closer (Seal b m) e = omega arith

  pub nearer : (here : ℕ) → node ns here ≡ Var (record { 0 = variable_at B k }) → ahead B I (node ns (node_at B k)) < ahead B I (node ns here)
  nearer here e =
      let p : ahead B I (node ns here) ≡ length B - k = ap (ahead B I) e ∙ ap (from_place B) (d.0 k h).1 in
      omega (arith, closer (node ns (node_at B k)) refl)

pub cut_on : (B B₀ B₁ : List Binding) (I : List (Option ℕ)) (b : Binding) (n : ℕ) → n < length B₀ → B₀ ≡ B ++ (b ∷ []) → Indexed B₀ I × (take n B₀ ≡ take n B₁) → Indexed B (set I b.variable.0 None) × (take n B ≡ take n B₁)
cut_on B B₀ B₁ I b n h e p =
    let l : n ≤ length B = omega (arith, ap length e, length-append B (b ∷ [])) in (
      indexed_pop B I b (subst (λ (C : List Binding). Indexed C I) e p.0),
      sym (take-append-le n B (b ∷ []) l) ∙ ap (λ (C : List Binding). take n C) (sym e) ∙ p.1,
    )
