-- Every node that is asked for is needed.
use Rattle.std.proofs.Common.{◌≡◌, ℕ, ◌<◌, true, false, List, length, Some, None, refl, sym, ap, ◌∙◌, subst, inl, inr, arith}
use Rattle.std.proofs.lemmas.Bool.{cases_eq, false≢true}
use Rattle.lifting.proofs.Lists.{clash}
use Rattle.terms.specs.Terms.{Term, var, seal}
use Rattle.terms.specs.Nodes.{node, Below, Ordered}
use Rattle.terms.specs.declared.node.Node.{Node}
use Rattle.terms.specs.declared.node.Node.TheVariants.{Name, Env, Var, Pair, Seal}
use Rattle.terms.specs.declared.number.NodeNo.{NodeNo}
use Rattle.terms.specs.declared.variables.VarSet.{VarSet}
use Rattle.unification.specs.Bindings.{val}
use Rattle.unification.specs.declared.binding.Binding.{Binding}
use Rattle.unification.proofs.Values.{val_is}
use Rattle.reach.specs.declared.reached.Reach.{Reach}
use Rattle.alike.specs.Heads.{head}
use Rattle.alike.specs.Finding.{Leads}
use Rattle.alike.specs.declared.heads.Alike.{Alike}
use Rattle.needs.specs.Asked.{asked, Added}
use Rattle.needs.specs.Needed.{Needed}
use Rattle.needs.specs.Asking.{Knows, Opens, Part, Lacks, Next}
use Rattle.needs.specs.Told.{Marks, Given}
use Rattle.needs.specs.declared.asked.Asked.{Asked}

-- node i has a needed value, and is no bound variable
pub record At (ns : List Node) (B : List Binding) (θ : ℕ → Term) (S : List Term) (m : VarSet) (t : Term) (i : ℕ) : Type 0 where
  pub inside : i < length ns
  pub free : Leads B (node ns i) None
  pub needed : Needed S (Marks m) t (val ns θ i)

abbrev pub Sound : List Node → List Binding → (ℕ → Term) → List Term → VarSet → Term → Asked → Type 0
Sound ns B θ S m t a = (i : ℕ) → asked a i ≡ true → At ns B θ S m t i

module _ (ns : List Node) (o : Ordered ns) (B : List Binding) (r : Reach) (s : Alike) (m : VarSet) (θ : ℕ → Term) (S : List Term) (g : Given ns B r s θ S) where
  pub head_is : (k : ℕ) → k < length ns → (c : NodeNo) → head s k ≡ Some c → (c.0 < length ns) × (val ns θ k ≡ val ns θ c.0) × Leads B (node ns c.0) None
  head_is k l c e =
      let (d, p, q, v, f) = g.ended g.general θ g.values k (omega (arith, l, g.small)) l in
      let z : d ≡ c = cc in
      subst (λ (y : NodeNo). (y.0 < length ns) × (val ns θ k ≡ val ns θ y.0) × Leads B (node ns y.0) None) z (q, v, f)

  pub free_value : (i x : ℕ) → i < length ns → node ns i ≡ Var (record { 0 = x }) → Leads B (node ns i) None → val ns θ i ≡ var x
  free_value i x l e f = val_is ns o θ i l (Var (record { 0 = x })) e ∙ g.values.1 x (f x e)

  module _ (t : Term) (a : Asked) (h : Sound ns B θ S m t a) where
    abbrev N : Term → Type 0
    N u = Needed S (Marks m) t u

    body_needed : (b : Term) (k : NodeNo) → k.0 < length ns → Opens ns r s m a k → N (seal b (val ns θ k.0)) → N b
    body_needed b k l (c, p, q) z = let w = head_is k.0 l c p.0 in go w.0 w.2 (node ns c.0) refl q (subst (λ (y : Term). N (seal b y)) w.1 z)
      where
        go : c.0 < length ns → Leads B (node ns c.0) None → (n : Node) → node ns c.0 ≡ n → Knows r m a c.0 n → N (seal b (val ns θ c.0)) → N b
        go i f (Name d) e q z = Needed.by_name (subst (λ (y : Term). N (seal b y)) (val_is ns o θ c.0 i (Name d) e) z) ((g.reached.names d.0).0 q)
        go i f (Env d) e q z = Needed.by_env (subst (λ (y : Term). N (seal b y)) (val_is ns o θ c.0 i (Env d) e) z)
        go i f (Var x) e q z =
            let v = free_value c.0 x.0 i e f in
            let y = subst (λ (y : Term). N (seal b y)) v z in
            elim q [ inl j ↦ Needed.by_mark y j | inr j ↦ Needed.by_need y (subst N v (h c.0 j).needed) ]
        go i f (Pair d k) e q z = absurd q
        go i f (Seal d k) e q z = absurd q

    pub part_needed : (i : ℕ) → asked a i ≡ true → (p : NodeNo) → Part ns r s m a (node ns i) p → (p.0 < i) × N (val ns θ p.0)
    part_needed i w p q = go (node ns i) refl q
      where
        l : i < length ns
        l = (h i w).inside

        go : (n : Node) → node ns i ≡ n → Part ns r s m a n p → (p.0 < i) × N (val ns θ p.0)
        go (Name d) e q = absurd q
        go (Env d) e q = absurd q
        go (Var x) e q = absurd q
        go (Pair b d) e q =
            let z = subst (Below i) e (o i l) in
            let v = subst N (val_is ns o θ i l (Pair b d) e) (h i w).needed in
            elim q [
              | inl y ↦ subst (λ (c : NodeNo). (c.0 < i) × N (val ns θ c.0)) (sym y) (z.0, Needed.left v)
              | inr y ↦ subst (λ (c : NodeNo). (c.0 < i) × N (val ns θ c.0)) (sym y) (z.1, Needed.right v)
            ]
        go (Seal b k) e q =
            let z = subst (Below i) e (o i l) in
            let v = subst N (val_is ns o θ i l (Seal b k) e) (h i w).needed in
            subst (λ (c : NodeNo). (c.0 < i) × N (val ns θ c.0)) (sym q.0) (z.0, body_needed (val ns θ b.0) k (omega (arith, z.1, l)) q.1 v)

    sound_add : (c : NodeNo) (a' : Asked) → At ns B θ S m t c.0 → Added a c.0 a' → Sound ns B θ S m t a'
    sound_add c a' n d = λ i q. elim (cases_eq i c.0) [ inl e ↦ subst (At ns B θ S m t) (sym e) n | inr f ↦ h i (sym (d.others i f) ∙ q) ]

    sound_more : (i : ℕ) (c : NodeNo) (a' : Asked) → asked a i ≡ true → Lacks ns r s m a (node ns i) (Some c) → Added a c.0 a' → Sound ns B θ S m t a'
    sound_more i c a' w (p, q, k) d =
        let n = part_needed i w p q in
        let z = head_is p.0 (omega (arith, n.0, (h i w).inside)) c k.0 in
        sound_add c a' (record { inside = z.0; free = z.2; needed = subst N z.1 n.1 }) d

-- the head of the node is asked for, and all that are asked for are needed
pub record Begun (ns : List Node) (B : List Binding) (r : Reach) (s : Alike) (m : VarSet) (n : ℕ) (a : Asked) : Type 0 where
  pub first : (c : NodeNo) → head s n ≡ Some c → asked a c.0 ≡ true
  pub sound : (θ : ℕ → Term) (S : List Term) → Given ns B r s θ S → Sound ns B θ S m (val ns θ n) a

module _ (ns : List Node) (o : Ordered ns) (B : List Binding) (r : Reach) (s : Alike) (m : VarSet) (n : ℕ) where
  none_sound : (a : Asked) → ((i : ℕ) → asked a i ≡ false) → (θ : ℕ → Term) (S : List Term) → Sound ns B θ S m (val ns θ n) a
  none_sound a f θ S = λ i q. absurd (false≢true (sym (f i) ∙ q))

  pub begun_none : (a : Asked) → ((i : ℕ) → asked a i ≡ false) → head s n ≡ None → Begun ns B r s m n a
  begun_none a f e = record { first = λ c q. absurd (clash (cc)); sound = λ θ S g. none_sound a f θ S }

  pub begun_first : (a a' : Asked) (c : NodeNo) → ((i : ℕ) → asked a i ≡ false) → n < length ns → head s n ≡ Some c → Added a c.0 a' → Begun ns B r s m n a'
  begun_first a a' c f l e d = record {
    first = λ b q. let z : c ≡ b = cc in subst (λ (y : NodeNo). asked a' y.0 ≡ true) z d.here;
    sound = λ θ S g.
        let w = head_is ns o B r s m θ S g n l c e in
        sound_add ns o B r s m θ S g (val ns θ n) a (none_sound a f θ S) c a' (record { inside = w.0; free = w.2; needed = subst (Needed S (Marks m) (val ns θ n)) w.1 Needed.itself }) d;
  }

  pub begun_more : (a a' : Asked) (c : NodeNo) → Next ns r s m a (Some c) → Added a c.0 a' → Begun ns B r s m n a → Begun ns B r s m n a'
  begun_more a a' c (i, q) d b = record {
    first = λ e p. elim (cases_eq e.0 c.0) [ inl z ↦ ap (asked a') z ∙ d.here | inr f ↦ d.others e.0 f ∙ b.first e p ];
    sound = λ θ S g. sound_more ns o B r s m θ S g (val ns θ n) a (b.sound θ S g) i c a' q.1 q.2 d;
  }
