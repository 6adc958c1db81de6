-- A set of variables widened through the bindings, and what its end says of the variable looked for.
use mathlib.Core.Path.{◌≡◌, refl, sym, ap, ◌∙◌, subst}
use mathlib.Core.Bool.{Bool}
use mathlib.Core.Logic.{inl, inr, ⊎_elim}
use mathlib.Core.List.{List}
use Prim.Native.Nat.{ℕ, ◌+◌, ◌<◌, ◌≤◌}
use native.Mathlib.Decide.{dec_lt}
use native.Mathlib.Omega.{arith}
use lib.Bits.{bit_or, or_add_and, and_le_r}
use lib.Dec.{T, ltb, eqb, eqb_refl, eqb→eq, ltb→lt, lt→ltb}
use lib.ListN.{length}
use Rattle.terms.specs.Terms.{Term, name, env, var, pair, seal, inst, Occurs}
use Rattle.terms.specs.Bits.{In}
use Rattle.terms.specs.Nodes.{term, node, says, Ordered}
use Rattle.terms.specs.declared.node.Node.{Node}
use Rattle.terms.specs.declared.node.Node.TheVariants.{Name, Env, Var, Pair, Seal}
use Rattle.terms.proofs.Bitsets.{in_or, or_in}
use Rattle.terms.proofs.Unfolding.{unfolds}
use Rattle.unification.specs.Sizes.{size}
use Rattle.unification.specs.Bindings.{variable_at, node_at, val, Instance}
use Rattle.unification.specs.Reaching.{Passes, Widened, Start, Inside}
use Rattle.unification.specs.declared.binding.Binding.{Binding}

-- the first k bindings were looked through: s has become s'
pub record Looked (ns : List Node) (B : List Binding) (s s' k : ℕ) : Type 0 where
  pub grows : (y : ℕ) → In y s → In y s'
  pub leads : (j : ℕ) → j < k → In (variable_at B j) s → (y : ℕ) → Occurs y (term ns (node_at B j)) → In y s'
  pub only : (p : ℕ → Bool) → Passes ns B p → ((y : ℕ) → In y s → T (p y)) → (y : ℕ) → In y s' → T (p y)
  pub larger : s ≤ s'

-- a binding whose variable is not in the set so far
pub looked_past : (ns : List Node) (B : List Binding) (s s' k : ℕ) → (In (variable_at B k) s' → ⊥) → Looked ns B s s' k → Looked ns B s s' (k + 1)
looked_past ns B s s' k out l = record {
  grows = l.grows;
  leads = λ j h i y o. elim (dec_lt j k) [
    | yes m ↦ l.leads j m i y o
    | no m ↦ let e : j ≡ k = omega arith in absurd (out (subst (λ (n : ℕ). In (variable_at B n) s') e (l.grows (variable_at B j) i)))
  ];
  only = l.only;
  larger = l.larger;
}

-- a binding whose variable is in it: its term's variables go in
pub looked_in : (ns : List Node) (B : List Binding) (s s' v k : ℕ) → k < length B → In (variable_at B k) s' → ((y : ℕ) → (In y v → Occurs y (term ns (node_at B k))) × (Occurs y (term ns (node_at B k)) → In y v)) → Looked ns B s s' k → Looked ns B s (bit_or s' v) (k + 1)
looked_in ns B s s' v k h here set l = record {
  grows = λ y i. or_in y s' v (inl (l.grows y i));
  leads = λ j m i y o. elim (dec_lt j k) [
    | yes q ↦ or_in y s' v (inl (l.leads j q i y o))
    | no q ↦ let e : j ≡ k = omega arith in or_in y s' v (inr ((set y).1 (subst (λ (n : ℕ). Occurs y (term ns (node_at B n))) e o)))
  ];
  only = λ p q a y i. ⊎_elim (λ w. l.only p q a y w) (λ w. q k h (l.only p q a (variable_at B k) here) y ((set y).0 w)) (in_or y s' v i);
  larger = let a = or_add_and s' v in let b = and_le_r s' v in let c = l.larger in omega arith;
}

pub widened : (ns : List Node) (B : List Binding) (s s' k : ℕ) → length B ≤ k → Looked ns B s s' k → Widened ns B s s'
widened ns B s s' k h l = record {
  grows = l.grows;
  leads = λ j m i y o. l.leads j (omega arith) i y o;
  only = l.only;
  larger = l.larger;
}

-- the set a has become s, which holds nothing that the bindings do not lead to from a
pub record Spread (ns : List Node) (B : List Binding) (a s : ℕ) : Type 0 where
  pub starts : (y : ℕ) → In y a → In y s
  pub only : (p : ℕ → Bool) → Passes ns B p → ((y : ℕ) → In y a → T (p y)) → (y : ℕ) → In y s → T (p y)

-- the set holds just the variables of the term of n
abbrev pub OfNode : List Node → ℕ → ℕ → Type 0
OfNode ns n a = (y : ℕ) → (In y a → Occurs y (term ns n)) × (Occurs y (term ns n) → In y a)

pub spread_on : (ns : List Node) (B : List Binding) (a s s' : ℕ) → Widened ns B s s' → Spread ns B a s → Spread ns B a s'
spread_on ns B a s s' w r = record { starts = λ y i. w.grows y (r.starts y i); only = λ p q h y i. w.only p q (λ z j. r.only p q h z j) y i }

-- one that is not within the set before it is larger
pub larger : (ns : List Node) (B : List Binding) (s s' : ℕ) → Widened ns B s s' → (((y : ℕ) → In y s' → In y s) → ⊥) → s < s'
larger ns B s s' w n =
    elim (dec_lt s s') [
      | yes l ↦ l
      | no l ↦ let e : s' ≡ s = let g = w.larger in omega arith in absurd (n (λ y i. subst (In y) e i))
    ]

-- a variable's value is no larger than that of a term in which it occurs
part_size : (θ : ℕ → Term) (t : Term) (y : ℕ) → Occurs y t → size (θ y) ≤ size (inst θ t)
part_size θ (name n) y o = absurd o
part_size θ (env n) y o = absurd o
part_size θ (var x) y o = let e : size (θ y) ≡ size (θ x) = ap (λ (z : ℕ). size (θ z)) o in omega arith
part_size θ (pair a b) y (inl o) = omega (arith, part_size θ a y o)
part_size θ (pair a b) y (inr o) = omega (arith, part_size θ b y o)
part_size θ (seal a b) y (inl o) = omega (arith, part_size θ a y o)
part_size θ (seal a b) y (inr o) = omega (arith, part_size θ b y o)

module _ (ns : List Node) (ordered : Ordered ns) (B : List Binding) (x n : ℕ) (h : n < length ns) (start : Start ns B x n) where
  -- smaller than n: passes through the bindings
  small_passes : (θ : ℕ → Term) → Instance ns B θ → Passes ns B (λ y. ltb (size (θ y)) (size (val ns θ n)))
  small_passes θ i k l t y o =
      let a = ltb→lt (size (θ (variable_at B k))) (size (val ns θ n)) t in
      let e : size (θ (variable_at B k)) ≡ size (val ns θ (node_at B k)) = ap size (i k l) in
      let b = part_size θ (term ns (node_at B k)) y o in
      lt→ltb (size (θ y)) (size (val ns θ n)) (omega arith)

  -- the variables of a node that is no variable are smaller than it
  small_starts : (θ : ℕ → Term) (m : Node) → ((y : ℕ) → m ≡ Var (record { 0 = y }) → ⊥) → (y : ℕ) → Occurs y (says (term ns) m) → size (θ y) < size (inst θ (says (term ns) m))
  small_starts θ (Name a) other y o = absurd o
  small_starts θ (Env a) other y o = absurd o
  small_starts θ (Var z) other y o = absurd (other z.0 refl)
  small_starts θ (Pair a b) other y (inl o) = omega (arith, part_size θ (term ns a.0) y o)
  small_starts θ (Pair a b) other y (inr o) = omega (arith, part_size θ (term ns b.0) y o)
  small_starts θ (Seal a b) other y (inl o) = omega (arith, part_size θ (term ns a.0) y o)
  small_starts θ (Seal a b) other y (inr o) = omega (arith, part_size θ (term ns b.0) y o)

  inside_other : (a s : ℕ) → OfNode ns n a → Spread ns B a s → In x s → ((y : ℕ) → node ns n ≡ Var (record { 0 = y }) → ⊥) → Inside ns B x n
  inside_other a s of r i other θ agrees =
      let u = unfolds ns ordered n h in
      let e : size (val ns θ n) ≡ size (inst θ (says (term ns) (node ns n))) = ap (λ (t : Term). size (inst θ t)) u in
      ltb→lt (size (θ x)) (size (val ns θ n)) (r.only (λ y. ltb (size (θ y)) (size (val ns θ n))) (small_passes θ agrees) (λ y o. let b = small_starts θ (node ns n) other y (subst (Occurs y) u ((of y).0 o)) in lt→ltb (size (θ y)) (size (val ns θ n)) (omega arith)) x i)

  -- from a variable that is not bound nothing else is reached
  only_itself : (a s : ℕ) → OfNode ns n a → Spread ns B a s → In x s → (y : ℕ) → node ns n ≡ Var (record { 0 = y }) → ⊥
  only_itself a s of r i y e =
      let u : term ns n ≡ var y = unfolds ns ordered n h ∙ ap (says (term ns)) e in
      let t = r.only (λ z. eqb z y) (λ k l t z o. absurd (start.walked y e k l (eqb→eq (variable_at B k) y t))) (λ z o. let f : z ≡ y = subst (Occurs z) u ((of z).0 o) in subst (λ (w : ℕ). T (eqb z w)) f (eqb_refl z)) x i in
      let f : y ≡ x = sym (eqb→eq x y t) in
      start.other (e ∙ ap (λ (w : ℕ). Var (record { 0 = w })) f)

  pub spread_inside : (a s : ℕ) → OfNode ns n a → Spread ns B a s → In x s → Inside ns B x n
  spread_inside a s of r i = inside_other a s of r i (only_itself a s of r i)
