-- What the heads tell while they are found: nodes have one head exactly where they have one value.
use Rattle.std.proofs.Common.{◌≡◌, ℕ, ◌<◌, List, length, get_or, replicate, Some, None, Option, refl, sym, ap, ap₂, ◌∙◌, subst, inl, inr, ⊎_elim, arith}
use Rattle.std.proofs.lemmas.Grind.{common_steps}
use Rattle.std.proofs.lemmas.Bool.{cases_eq}
use Rattle.lifting.proofs.Lists.{clash}
use Rattle.terms.specs.Terms.{Term, pair, seal}
use Rattle.terms.specs.Nodes.{node, Ordered}
use Rattle.terms.specs.declared.node.Node.{Node}
use Rattle.terms.specs.declared.node.Node.TheVariants.{Name, Env, Var, Pair, Seal}
use Rattle.terms.specs.declared.number.NodeNo.{NodeNo}
use Rattle.unification.specs.Bindings.{val, reads, Unbound}
use Rattle.unification.specs.declared.binding.Binding.{Binding}
use Rattle.unification.proofs.Values.{val_law, val_is}
use Rattle.reach.specs.Steps.{Values}
use Rattle.alike.specs.Heads.{head, both, key, Headed}
use Rattle.alike.specs.Finding.{Leads, Fits, Finds, Answered}
use Rattle.alike.specs.declared.heads.Alike.{Alike}

abbrev no_head : Option NodeNo
no_head = None

-- a row without heads
pub none_head : (n i : ℕ) → get_or (replicate n no_head) i no_head ≡ no_head
none_head n i = grind (arith, common_steps)

some_none : {A : Type 0} {q : Option A} {a : A} → q ≡ Some a → q ≡ None → ⊥
some_none e f = clash (cc)

-- node c is its own head: it is no bound variable, and its parts have heads
pub record Own (ns : List Node) (B : List Binding) (s : Alike) (c : NodeNo) : Type 0 where
  pub self : head s c.0 ≡ Some c
  pub free : Leads B (node ns c.0) None
  pub known : (k : Node) × (key s (node ns c.0) ≡ Some k)

-- a head is a node of the same value, and no two heads have one value
pub record Grouped (ns : List Node) (B : List Binding) (θ : ℕ → Term) (s : Alike) : Type 0 where
  pub inside : (i : ℕ) (c : NodeNo) → head s i ≡ Some c → i < length ns
  pub own : (i : ℕ) (c : NodeNo) → head s i ≡ Some c → Own ns B s c
  pub same : (i : ℕ) (c : NodeNo) → head s i ≡ Some c → val ns θ i ≡ val ns θ c.0
  pub apart : (c d : NodeNo) → head s c.0 ≡ Some c → head s d.0 ≡ Some d → val ns θ c.0 ≡ val ns θ d.0 → c ≡ d

abbrev pub AllHeaded : List Node → List Binding → Alike → Type 0
AllHeaded ns B s = (θ : ℕ → Term) → Values ns B θ → Grouped ns B θ s

-- both parts are known where the two are
both_known : (f : NodeNo → NodeNo → Node) (p q : Option NodeNo) (k : Node) → both f p q ≡ Some k → (c : NodeNo) × (d : NodeNo) × (p ≡ Some c) × (q ≡ Some d) × (k ≡ f c d)
both_known f (Some c) (Some d) k e = (c, d, refl, refl, cc)
both_known f (Some c) None k e = absurd (clash (cc))
both_known f None q k e = absurd (clash (cc))

module _ (ns : List Node) (o : Ordered ns) (B : List Binding) (θ : ℕ → Term) (values : Values ns B θ) where
  -- a key: its parts are heads, and a variable is unbound
  abbrev IsKey : Alike → Node → Type 0
  IsKey s (Name a) = Unit {0}
  IsKey s (Env e) = Unit {0}
  IsKey s (Var x) = Unbound B x.0
  IsKey s (Pair c d) = (head s c.0 ≡ Some c) × (head s d.0 ≡ Some d)
  IsKey s (Seal c d) = (head s c.0 ≡ Some c) × (head s d.0 ≡ Some d)

  is_key : (s : Alike) → Grouped ns B θ s → (n k : Node) → Leads B n None → key s n ≡ Some k → IsKey s k
  is_key s h (Name a) k f e = let z : Name a ≡ k = cc in subst (IsKey s) z tt
  is_key s h (Env a) k f e = let z : Env a ≡ k = cc in subst (IsKey s) z tt
  is_key s h (Var x) k f e = let z : Var x ≡ k = cc in subst (IsKey s) z (f x.0 refl)
  is_key s h (Pair l r) k f e = let (c, d, p, q, z) = both_known Pair (head s l.0) (head s r.0) k e in subst (IsKey s) (sym z) ((h.own l.0 c p).self, (h.own r.0 d q).self)
  is_key s h (Seal l r) k f e = let (c, d, p, q, z) = both_known Seal (head s l.0) (head s r.0) k e in subst (IsKey s) (sym z) ((h.own l.0 c p).self, (h.own r.0 d q).self)

  -- a node has the value of its key
  key_reads : (s : Alike) → Grouped ns B θ s → (n k : Node) → key s n ≡ Some k → reads θ (val ns θ) n ≡ reads θ (val ns θ) k
  key_reads s h (Name a) k e = let z : Name a ≡ k = cc in ap (reads θ (val ns θ)) z
  key_reads s h (Env a) k e = let z : Env a ≡ k = cc in ap (reads θ (val ns θ)) z
  key_reads s h (Var x) k e = let z : Var x ≡ k = cc in ap (reads θ (val ns θ)) z
  key_reads s h (Pair l r) k e = let (c, d, p, q, z) = both_known Pair (head s l.0) (head s r.0) k e in ap₂ pair (h.same l.0 c p) (h.same r.0 d q) ∙ ap (reads θ (val ns θ)) (sym z)
  key_reads s h (Seal l r) k e = let (c, d, p, q, z) = both_known Seal (head s l.0) (head s r.0) k e in ap₂ seal (h.same l.0 c p) (h.same r.0 d q) ∙ ap (reads θ (val ns θ)) (sym z)

  -- keys of one value are one key
  one_key : (s : Alike) → Grouped ns B θ s → (k m : Node) → IsKey s k → IsKey s m → reads θ (val ns θ) k ≡ reads θ (val ns θ) m → k ≡ m
  one_key s h (Name a) (Name b) p q e = let z : a.0 ≡ b.0 = cc in ap (λ (i : ℕ). Name (record { 0 = i })) z
  one_key s h (Name a) (Env b) p q e = absurd (clash (cc))
  one_key s h (Name a) (Var y) p q e = let z = values.1 y.0 q in absurd (clash (cc))
  one_key s h (Name a) (Pair c d) p q e = absurd (clash (cc))
  one_key s h (Name a) (Seal c d) p q e = absurd (clash (cc))
  one_key s h (Env a) (Name b) p q e = absurd (clash (cc))
  one_key s h (Env a) (Env b) p q e = let z : a.0 ≡ b.0 = cc in ap (λ (i : ℕ). Env (record { 0 = i })) z
  one_key s h (Env a) (Var y) p q e = let z = values.1 y.0 q in absurd (clash (cc))
  one_key s h (Env a) (Pair c d) p q e = absurd (clash (cc))
  one_key s h (Env a) (Seal c d) p q e = absurd (clash (cc))
  one_key s h (Var x) (Name b) p q e = let w = values.1 x.0 p in absurd (clash (cc))
  one_key s h (Var x) (Env b) p q e = let w = values.1 x.0 p in absurd (clash (cc))
  one_key s h (Var x) (Var y) p q e = let w = values.1 x.0 p in let v = values.1 y.0 q in let z : x.0 ≡ y.0 = cc in ap (λ (i : ℕ). Var (record { 0 = i })) z
  one_key s h (Var x) (Pair c d) p q e = let w = values.1 x.0 p in absurd (clash (cc))
  one_key s h (Var x) (Seal c d) p q e = let w = values.1 x.0 p in absurd (clash (cc))
  one_key s h (Pair a b) (Name c) p q e = absurd (clash (cc))
  one_key s h (Pair a b) (Env c) p q e = absurd (clash (cc))
  one_key s h (Pair a b) (Var y) p q e = let z = values.1 y.0 q in absurd (clash (cc))
  one_key s h (Pair a b) (Pair c d) p q e = ap₂ Pair (h.apart a c p.0 q.0 (cc)) (h.apart b d p.1 q.1 (cc))
  one_key s h (Pair a b) (Seal c d) p q e = absurd (clash (cc))
  one_key s h (Seal a b) (Name c) p q e = absurd (clash (cc))
  one_key s h (Seal a b) (Env c) p q e = absurd (clash (cc))
  one_key s h (Seal a b) (Var y) p q e = let z = values.1 y.0 q in absurd (clash (cc))
  one_key s h (Seal a b) (Pair c d) p q e = absurd (clash (cc))
  one_key s h (Seal a b) (Seal c d) p q e = ap₂ Seal (h.apart a c p.0 q.0 (cc)) (h.apart b d p.1 q.1 (cc))

  module _ (s s' : Alike) (n : ℕ) (c : NodeNo) (h : Grouped ns B θ s) (l : n < length ns) (new : head s n ≡ None) (t : Headed s n c s') where
    kept : (i : ℕ) (d : NodeNo) → head s i ≡ Some d → head s' i ≡ Some d
    kept i d e = t.others i (λ q. some_none e (ap (head s) q ∙ new)) ∙ e

    kept_key : (m k : Node) → key s m ≡ Some k → key s' m ≡ Some k
    kept_key (Name a) k e = e
    kept_key (Env a) k e = e
    kept_key (Var x) k e = e
    kept_key (Pair a b) k e = let (c, d, p, q, z) = both_known Pair (head s a.0) (head s b.0) k e in ap₂ (both Pair) (kept a.0 c p) (kept b.0 d q) ∙ ap Some (sym z)
    kept_key (Seal a b) k e = let (c, d, p, q, z) = both_known Seal (head s a.0) (head s b.0) k e in ap₂ (both Seal) (kept a.0 c p) (kept b.0 d q) ∙ ap Some (sym z)

    kept_own : (d : NodeNo) → Own ns B s d → Own ns B s' d
    kept_own d w = record { self = kept d.0 d w.self; free = w.free; known = (w.known.0, kept_key (node ns d.0) w.known.0 w.known.1) }

    -- a head of s' is the new one or one of s
    cases_head : {P : Type 0} (i : ℕ) (d : NodeNo) → head s' i ≡ Some d → (i ≡ n → d ≡ c → P) → (head s i ≡ Some d → P) → P
    cases_head i d e f g = ⊎_elim (λ q. f q (let z = t.here in let w : Some c ≡ Some d = sym z ∙ ap (head s') (sym q) ∙ e in cc)) (λ q. g (sym (t.others i q) ∙ e)) (cases_eq i n)

    -- what is kept of Grouped where c is a head, and no other one has its value
    grouped_from : Own ns B s' c → val ns θ n ≡ val ns θ c.0 → ((d : NodeNo) → head s d.0 ≡ Some d → val ns θ c.0 ≡ val ns θ d.0 → c ≡ d) → Grouped ns B θ s'
    grouped_from w v f = record {
      inside = λ i d e. cases_head i d e (λ q z. subst (λ (x : ℕ). x < length ns) (sym q) l) (λ g. h.inside i d g);
      own = λ i d e. cases_head i d e (λ q z. subst (Own ns B s') (sym z) w) (λ g. kept_own d (h.own i d g));
      same = λ i d e. cases_head i d e (λ q z. ap (val ns θ) q ∙ v ∙ ap (λ (x : NodeNo). val ns θ x.0) (sym z)) (λ g. h.same i d g);
      apart = λ d e p q v.
          cases_head d.0 d p
          (λ x y. cases_head e.0 e q (λ a b. y ∙ sym b) (λ g. y ∙ f e g (ap (λ (x : NodeNo). val ns θ x.0) (sym y) ∙ v)))
          (λ g. cases_head e.0 e q (λ a b. sym (f d g (ap (λ (x : NodeNo). val ns θ x.0) (sym b) ∙ sym v)) ∙ sym b) (λ j. h.apart d e g j v));
    }

    joined : head s c.0 ≡ Some c → val ns θ n ≡ val ns θ c.0 → Grouped ns B θ s'
    joined e v = grouped_from (kept_own c (h.own c.0 c e)) v (λ d g w. h.apart c d e g w)

    -- the value of a node with a key
    keyed : (i : ℕ) (k : Node) → i < length ns → key s (node ns i) ≡ Some k → val ns θ i ≡ reads θ (val ns θ) k
    keyed i k w e = val_law ns o θ i w ∙ key_reads s h (node ns i) k e

    led_on : (v : NodeNo) → Leads B (node ns n) (Some v) → val ns θ n ≡ val ns θ v.0
    led_on v (x, e, (k, w, p, q)) = val_is ns o θ n l (Var (record { 0 = x })) e ∙ ap θ (sym p) ∙ values.0 k w ∙ ap (val ns θ) q

    alone : (k : Node) → Leads B (node ns n) None → key s (node ns n) ≡ Some k → c.0 ≡ n → ((j : ℕ) → Fits ns s j k → ⊥) → Grouped ns B θ s'
    alone k f e z none = grouped_from own (ap (val ns θ) (sym z)) (λ d g v. absurd (other d g v))
      where
        own : Own ns B s' c
        own = record { self = ap (head s') z ∙ t.here; free = subst (λ (i : ℕ). Leads B (node ns i) None) (sym z) f; known = (k, ap (λ (i : ℕ). key s' (node ns i)) z ∙ kept_key (node ns n) k e) }

        other : (d : NodeNo) → head s d.0 ≡ Some d → val ns θ c.0 ≡ val ns θ d.0 → ⊥
        other d g v =
            let w = h.own d.0 d g in
            let i = h.inside d.0 d g in
            let m = w.known.0 in
            let a : reads θ (val ns θ) m ≡ reads θ (val ns θ) k = sym (keyed d.0 m i w.known.1) ∙ sym v ∙ ap (val ns θ) z ∙ keyed n k l e in
            none d.0 (g, i, w.known.1 ∙ ap Some (one_key s h m k (is_key s h (node ns d.0) m w.free w.known.1) (is_key s h (node ns n) k f e) a))

    grouped_on : Finds ns B s n c → Grouped ns B θ s'
    grouped_on (inl (v, f, e)) = joined (h.own v.0 c e).self (led_on v f ∙ h.same v.0 c e)
    grouped_on (inr (f, k, e, inl p)) = joined p.0 (keyed n k l e ∙ sym (keyed c.0 k p.1 p.2))
    grouped_on (inr (f, k, e, inr p)) = alone k f e p.0 p.1

pub none_headed : (ns : List Node) (B : List Binding) (s : Alike) → ((i : ℕ) → head s i ≡ None) → AllHeaded ns B s
none_headed ns B s f = λ θ v. record {
  inside = λ i c e. absurd (some_none e (f i));
  own = λ i c e. absurd (some_none e (f i));
  same = λ i c e. absurd (some_none e (f i));
  apart = λ c d e g q. absurd (some_none e (f c.0));
}

pub headed_more : (ns : List Node) → Ordered ns → (B : List Binding) (s s' : Alike) (n c : NodeNo) → AllHeaded ns B s → Answered ns B s n.0 (Some c) → Headed s n.0 c s' → AllHeaded ns B s'
headed_more ns o B s s' n c h a t = λ θ v. grouped_on ns o B θ v s s' n.0 c (h θ v) a.0 a.2 t a.3
