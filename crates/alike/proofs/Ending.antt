-- Where no node waits for its parts any more, every node has a head, and heads tell all.
use mathlib.Core.HLevel.{⊥_prop}
use mathlib.Core.Logic.{∥∥₁_elim}
use Rattle.std.proofs.Common.{◌≡◌, ℕ, zero, suc, ◌<◌, ◌^◌, List, length, Some, None, Option, refl, sym, ap, ◌∙◌, subst, inl, inr, ◌⊎◌, arith, not-suc-le-zero}
use Rattle.lifting.proofs.Lists.{clash}
use Rattle.terms.specs.Terms.{Vars}
use Rattle.terms.specs.Nodes.{node, says, term, Below, Ordered}
use Rattle.terms.specs.declared.node.Node.{Node}
use Rattle.terms.specs.declared.node.Node.TheVariants.{Name, Env, Var, Pair, Seal}
use Rattle.terms.specs.declared.number.NodeNo.{NodeNo}
use Rattle.terms.specs.declared.number.Variable.{Variable}
use Rattle.terms.proofs.Unfolding.{unfolds}
use Rattle.unification.specs.Bindings.{node_at, Within, Unbound, Falls}
use Rattle.unification.specs.declared.binding.Binding.{Binding}
use Rattle.unification.proofs.Variables.{top, below_top}
use Rattle.matching.specs.Matchings.{MostGeneral}
use Rattle.alike.specs.Heads.{head, both, key}
use Rattle.alike.specs.Finding.{Valued, Leads, Fresh, Told, Ended}
use Rattle.alike.specs.declared.heads.Alike.{Alike}
use Rattle.alike.proofs.Heading.{Grouped, AllHeaded}

pub leads_variable : (B : List Binding) (n : Node) (x : Variable) (r : Option NodeNo) → n ≡ Var x → Valued B x.0 r → Leads B n r
leads_variable B n x None e h = λ y q. let z : x.0 ≡ y = cc in subst (Unbound B) z h
leads_variable B n x (Some v) e h = (x.0, e, h)

-- of two parts that are not both known one is not
not_both : (f : NodeNo → NodeNo → Node) (p q : Option NodeNo) → both f p q ≡ None → (p ≡ None) ⊎ (q ≡ None)
not_both f (Some c) (Some d) e = absurd (clash (cc))
not_both f (Some c) None e = inr refl
not_both f None q e = inl refl

module _ (ns : List Node) (o : Ordered ns) (B : List Binding) (within : Within ns B) (r : ℕ → ℕ) (falls : Falls ns B r) (s : Alike) (rests : Fresh ns B s None) where
  -- the variables of node i rank below m
  abbrev Under : ℕ → ℕ → Type 0
  Under m i = Vars (λ y. r y < m) (term ns i)

  -- none of the nodes that rank below m is without a head
  abbrev NoneBelow : ℕ → Type 0
  NoneBelow m = (i : ℕ) → i < length ns → i < 2 ^ 16 → Under m i → head s i ≡ None → ⊥

  under_says : (m i : ℕ) (n : Node) → i < length ns → node ns i ≡ n → Under m i → Vars (λ y. r y < m) (says (term ns) n)
  under_says m i n l e u = subst (Vars (λ y. r y < m)) (unfolds ns o i l ∙ ap (says (term ns)) e) u

  -- what a bound variable leads to ranks below it
  hop : (m : ℕ) → ((k : ℕ) → k < m → NoneBelow k) → (i : ℕ) → i < length ns → Under m i → (v : NodeNo) → v.0 < 2 ^ 16 → Leads B (node ns i) (Some v) → head s v.0 ≡ None → ⊥
  hop m less i l u v z (x, e, (k, w, p, q)) f =
      let a : r x < m = under_says m i (Var (record { 0 = x })) l e u in
      let b : Under (r x) v.0 = subst (λ (j : ℕ). Under (r x) j) q (subst (λ (y : ℕ). Vars (λ d. r d < r y) (term ns (node_at B k))) p (falls k w)) in
      less (r x) a v.0 (subst (λ (j : ℕ). j < length ns) q (within k w)) z b f

  -- of a node whose key is not known some part is without a head
  part : (m i : ℕ) → i < length ns → Under m i → key s (node ns i) ≡ None → ((j : ℕ) → j < i → Under m j → head s j ≡ None → ⊥) → ⊥
  part m i l u g none = go (node ns i) refl g
    where
      two : (f : NodeNo → NodeNo → Node) (a b : NodeNo) → both f (head s a.0) (head s b.0) ≡ None → (a.0 < i) × (b.0 < i) → Under m a.0 × Under m b.0 → ⊥
      two f a b g z v = elim (not_both f (head s a.0) (head s b.0) g) [ inl h ↦ none a.0 z.0 v.0 h | inr h ↦ none b.0 z.1 v.1 h ]

      go : (n : Node) → node ns i ≡ n → key s n ≡ None → ⊥
      go (Name a) e g = clash (cc)
      go (Env a) e g = clash (cc)
      go (Var x) e g = clash (cc)
      go (Pair a b) e g = two Pair a b g (subst (Below i) e (o i l)) (under_says m i (Pair a b) l e u)
      go (Seal a b) e g = two Seal a b g (subst (Below i) e (o i l)) (under_says m i (Seal a b) l e u)

  -- parts stand before their whole
  before : (m : ℕ) → ((k : ℕ) → k < m → NoneBelow k) → (d i : ℕ) → i < d → i < length ns → i < 2 ^ 16 → Under m i → head s i ≡ None → ⊥
  before m less zero i q l w u f = not-suc-le-zero q
  before m less (suc d) i q l w u f =
      elim (rests i l w f) [
        | inl h ↦ hop m less i l u h.0 h.1 h.2 h.3
        | inr g ↦ part m i l u g (λ j a v h. before m less d j (omega arith) (omega arith) (omega arith) v h)
      ]

  none_below : (n m : ℕ) → m < n → NoneBelow m
  none_below zero m q = absurd (not-suc-le-zero q)
  none_below (suc n) m q = λ i l w u f. before m (λ k a. none_below n k (omega arith)) (suc i) i (omega arith) l w u f

  none_left : (i : ℕ) → i < length ns → i < 2 ^ 16 → head s i ≡ None → ⊥
  none_left i l w f = let m = top r (term ns i) in none_below (suc m) m (omega arith) i l w (below_top r (term ns i)) f

headed : (q : Option NodeNo) → (q ≡ None → ⊥) → (c : NodeNo) × (q ≡ Some c)
headed None f = absurd (f refl)
headed (Some c) f = (c, refl)

found : (ns : List Node) → Ordered ns → (B : List Binding) (s : Alike) → Fresh ns B s None → MostGeneral ns B → (i : ℕ) → i < 2 ^ 16 → i < length ns → (c : NodeNo) × (head s i ≡ Some c)
found ns o B s rests general i w l = headed (head s i) (λ f. ∥∥₁_elim general.ranked ⊥_prop (λ g. none_left ns o B general.within g.0 g.1 s rests i l w f))

pub told : (ns : List Node) → Ordered ns → (B : List Binding) (s : Alike) → AllHeaded ns B s → Fresh ns B s None → Told ns B s
told ns o B s all rests general θ values a b u v = (
  λ (c, p, q). (h.inside a c p, h.inside b c q, h.same a c p ∙ sym (h.same b c q)),
  λ k l e.
      let (c, p) = found ns o B s rests general a u k in
      let (d, q) = found ns o B s rests general b v l in
      (c, p, q ∙ ap Some (sym (h.apart c d (h.own a c p).self (h.own b d q).self (sym (h.same a c p) ∙ e ∙ h.same b d q)))),
)
  where
    h : Grouped ns B θ s
    h = all θ values

pub ended : (ns : List Node) → Ordered ns → (B : List Binding) (s : Alike) → AllHeaded ns B s → Fresh ns B s None → Ended ns B s
ended ns o B s all rests general θ values a u l =
    let h : Grouped ns B θ s = all θ values in
    let (c, p) = found ns o B s rests general a u l in
    (c, p, h.inside c.0 c (h.own a c p).self, h.same a c p, (h.own a c p).free)
