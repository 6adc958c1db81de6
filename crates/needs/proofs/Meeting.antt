-- What the judgement of the nodes tells of the need.
use mathlib.Core.List.{Memᴰ}
use Rattle.std.proofs.Common.{◌≡◌, ℕ, ◌<◌, ◌≤◌, ◌^◌, true, false, List, length, Some, None, ◌⊎◌, refl, sym, ap, ◌∙◌, subst, inl, inr, arith}
use Rattle.std.proofs.lemmas.Bool.{false≢true}
use Rattle.lifting.proofs.Lists.{clash}
use Rattle.terms.specs.Terms.{Term, name, env, var, pair, seal, Atom}
use Rattle.terms.specs.Bits.{In}
use Rattle.terms.specs.Nodes.{node, Below, Ordered}
use Rattle.terms.specs.Sets.{bits}
use Rattle.terms.specs.declared.node.Node.{Node}
use Rattle.terms.specs.declared.node.Node.TheVariants.{Name, Env, Var, Pair, Seal}
use Rattle.terms.specs.declared.number.NodeNo.{NodeNo}
use Rattle.terms.specs.declared.number.Variable.{Variable}
use Rattle.terms.specs.declared.variables.VarSet.{VarSet}
use Rattle.lifting.specs.Lift.{Analz}
use Rattle.unification.specs.Bindings.{val, reads}
use Rattle.unification.specs.declared.binding.Binding.{Binding}
use Rattle.unification.proofs.Values.{val_is}
use Rattle.deciding.specs.Ways as ways
use Rattle.reach.specs.Reached.{name_in}
use Rattle.reach.specs.declared.reached.Reach.{Reach}
use Rattle.alike.specs.Heads.{head}
use Rattle.alike.specs.Finding.{Leads}
use Rattle.alike.specs.declared.heads.Alike.{Alike}
use Rattle.needs.specs.Asked.{asked}
use Rattle.needs.specs.Needed.{Needed}
use Rattle.needs.specs.Asking.{Knows, HeadOf, Opens, Part, Next, Boxed, Compound, Fails, JudgedAt, JudgedAll, Fine, Collected}
use Rattle.needs.specs.Told.{Marks, Given, Right, Told}
use Rattle.needs.specs.declared.asked.Asked.{Asked}
use Rattle.needs.specs.declared.answer.Need.{Need}
use Rattle.needs.specs.declared.answer.Need.TheVariants.{Met, Never, Shut, Keyed}
use Rattle.needs.proofs.Growing.{Sound, Begun, head_is, free_value, part_needed}
use Rattle.needs.proofs.Members.{listed}

module _ (ns : List Node) (o : Ordered ns) (B : List Binding) (r : Reach) (s : Alike) (m : VarSet) (θ : ℕ → Term) (S : List Term) (g : Given ns B r s θ S) (t : Term) (a : Asked) (h : Sound ns B θ S m t a) where
  abbrev N : Term → Type 0
  N u = Needed S (Marks m) t u

  -- a seal that is reached is the value of a node that has a reached seal's
  box : (i : ℕ) (b u : Term) → i < length ns → val ns θ i ≡ seal b u → Analz S (seal b u) → Boxed r s i
  box i b u l v z =
      let (j, e, q) = g.reached.complete b u z in
      let w = (g.reached.sound j e).0 in
      (j, omega (arith, w, g.small), e, (g.told g.general θ g.values i j (omega (arith, l, g.small)) (omega (arith, w, g.small))).1 l w (v ∙ sym q))

  unreached : (n : ℕ) → name_in r n ≡ false → ¬ Analz S (name n)
  unreached n f = λ z. false≢true (sym f ∙ (g.reached.names n).1 z)

  -- the value of a node that is a seal, by the head of its key
  shut_value : (i : ℕ) (b k c : NodeNo) → i < length ns → node ns i ≡ Seal b k → HeadOf ns s k c → val ns θ i ≡ seal (val ns θ b.0) (val ns θ c.0)
  shut_value i b k c l e p = let z = subst (Below i) e (o i l) in val_is ns o θ i l (Seal b k) e ∙ ap (seal (val ns θ b.0)) (head_is ns o B r s m θ S g k.0 (omega (arith, z.1, l)) c p.0).1

  compound : (c : NodeNo) → c.0 < length ns → Compound (node ns c.0) → ¬ Atom (val ns θ c.0)
  compound c l q = go (node ns c.0) refl q
    where
      go : (n : Node) → node ns c.0 ≡ n → Compound n → ¬ Atom (val ns θ c.0)
      go (Name d) e q = absurd q
      go (Env d) e q = absurd q
      go (Var x) e q = absurd q
      go (Pair b d) e q = λ z. subst Atom (val_is ns o θ c.0 l (Pair b d) e) z
      go (Seal b d) e q = λ z. subst Atom (val_is ns o θ c.0 l (Seal b d) e) z

  never : (i : ℕ) → i < length ns → asked a i ≡ true → Fails ns r s (node ns i) → Right ns B θ S m t Never
  never i l w q = go (node ns i) refl q
    where
      go : (n : Node) → node ns i ≡ n → Fails ns r s n → Right ns B θ S m t Never
      go (Name d) e q = (name d.0, subst N (val_is ns o θ i l (Name d) e) (h i w).needed, unreached d.0 q)
      go (Env d) e q = absurd q
      go (Var x) e q = absurd q
      go (Pair b d) e q = absurd q
      go (Seal b k) e (c, p, q) = (seal (val ns θ b.0) (val ns θ c.0), subst N (shut_value i b k c l e p) (h i w).needed, compound c p.1 q)

  pub right_of : (w : Need) (i : ℕ) → JudgedAt ns r s m a i (Some w) → Right ns B θ S m t w
  right_of (Met v) i (l, q, z) = absurd z
  right_of Never i (l, q, z) = never i l q z
  right_of (Shut j) i (l, q, (z, b, k, c, d, e, p, f, u, n)) =
      let v = shut_value i b k c l e p ∙ ap (seal (val ns θ b.0)) (val_is ns o θ c.0 p.1 (Name d) f) in (
        subst (λ (y : ℕ). y < length ns) (sym z) l,
        val ns θ b.0,
        d.0,
        ap (val ns θ) z ∙ v,
        subst N v (h i q).needed,
        unreached d.0 u,
        λ y. n (box i (val ns θ b.0) (name d.0) l v y),
      )
  right_of (Keyed j x) i (l, q, (z, b, k, c, e, p, f, u, n)) =
      let y = subst (Below i) e (o i l) in
      let free = (head_is ns o B r s m θ S g k.0 (omega (arith, y.1, l)) c p.0).2 in
      let v = shut_value i b k c l e p ∙ ap (seal (val ns θ b.0)) (free_value ns o B r s m θ S g c.0 x.0 p.1 f free) in (
        subst (λ (y : ℕ). y < length ns) (sym z) l,
        val ns θ b.0,
        ap (val ns θ) z ∙ v,
        subst N v (h i q).needed,
        free x.0 f,
        u,
        λ y. n (box i (val ns θ b.0) (var x.0) l v y),
      )

  module _ (rests : Next ns r s m a None) (fine : JudgedAll ns r s m a None) (L : List ℕ) (marks : (x : ℕ) → In x (bits m) → Memᴰ x L) (vars : (i x : ℕ) → i < length ns → asked a i ≡ true → node ns i ≡ Var (record { 0 = x }) → Memᴰ x L) where
    -- the term is the value of a node that is asked for
    abbrev Had : Term → Type 0
    Had u = (i : ℕ) × (asked a i ≡ true) × (val ns θ i ≡ u)

    had_part : (i : ℕ) → asked a i ≡ true → (p : NodeNo) → Part ns r s m a (node ns i) p → Had (val ns θ p.0)
    had_part i w p q =
        let l = (h i w).inside in
        let n = part_needed ns o B r s m θ S g t a h i w p q in
        let k : p.0 < length ns = omega (arith, n.0, l) in
        let (d, e, y, v, f) = g.ended g.general θ g.values p.0 (omega (arith, k, g.small)) k in
        (d.0, rests i l (omega (arith, l, g.small)) l w p q d e, sym v)

    fine_at : (i : ℕ) (n : Node) → asked a i ≡ true → node ns i ≡ n → Fine ns r s m a i n
    fine_at i n w e = let l = (h i w).inside in subst (Fine ns r s m a i) e (fine i l (omega (arith, l, g.small)) l w)

    its_value : (i : ℕ) (n : Node) → asked a i ≡ true → node ns i ≡ n → val ns θ i ≡ reads θ (val ns θ) n
    its_value i n w e = val_is ns o θ i (h i w).inside n e

    its_variable : (i : ℕ) (x : Variable) → asked a i ≡ true → node ns i ≡ Var x → val ns θ i ≡ var x.0
    its_variable i x w e = free_value ns o B r s m θ S g i x.0 (h i w).inside e (h i w).free

    had_name : (n : ℕ) → Had (name n) → Analz S (name n)
    had_name n (i, w, v) = go (node ns i) refl
      where
        go : (k : Node) → node ns i ≡ k → Analz S (name n)
        go (Name d) e = let q = its_value i (Name d) w e in let z : d.0 ≡ n = cc in subst (λ (y : ℕ). Analz S (name y)) z ((g.reached.names d.0).0 (fine_at i (Name d) w e))
        go (Env d) e = let q = its_value i (Env d) w e in absurd (clash (cc))
        go (Var x) e = let q = its_variable i x w e in absurd (clash (cc))
        go (Pair b d) e = let q = its_value i (Pair b d) w e in absurd (clash (cc))
        go (Seal b d) e = let q = its_value i (Seal b d) w e in absurd (clash (cc))

    had_variable : (x : ℕ) → Had (var x) → Memᴰ x L
    had_variable x (i, w, v) = go (node ns i) refl
      where
        go : (k : Node) → node ns i ≡ k → Memᴰ x L
        go (Name d) e = let q = its_value i (Name d) w e in absurd (clash (cc))
        go (Env d) e = let q = its_value i (Env d) w e in absurd (clash (cc))
        go (Var y) e = let q = its_variable i y w e in let z : y.0 ≡ x = cc in subst (λ (u : ℕ). Memᴰ u L) z (vars i y.0 (h i w).inside w e)
        go (Pair b d) e = let q = its_value i (Pair b d) w e in absurd (clash (cc))
        go (Seal b d) e = let q = its_value i (Seal b d) w e in absurd (clash (cc))

    had_pair : (b d : Term) → Had (pair b d) → Had b × Had d
    had_pair b d (i, w, v) = go (node ns i) refl
      where
        go : (k : Node) → node ns i ≡ k → Had b × Had d
        go (Name c) e = let q = its_value i (Name c) w e in absurd (clash (cc))
        go (Env c) e = let q = its_value i (Env c) w e in absurd (clash (cc))
        go (Var y) e = let q = its_variable i y w e in absurd (clash (cc))
        go (Pair l k) e =
            let q = its_value i (Pair l k) w e in (
              subst Had (cc) (had_part i w l (subst (λ (n : Node). Part ns r s m a n l) (sym e) (inl refl))),
              subst Had (cc) (had_part i w k (subst (λ (n : Node). Part ns r s m a n k) (sym e) (inr refl))),
            )
        go (Seal l k) e = let q = its_value i (Seal l k) w e in absurd (clash (cc))

    -- the key is known
    abbrev Key : Term → Type 0
    Key (name n) = Analz S (name n)
    Key (env n) = Unit {0}
    Key (var x) = Memᴰ x L
    Key (pair b d) = ⊥
    Key (seal b d) = ⊥

    opens_key : (k : NodeNo) → k.0 < length ns → Opens ns r s m a k → Key (val ns θ k.0)
    opens_key k l (c, p, q) = let z = head_is ns o B r s m θ S g k.0 l c p.0 in subst Key (sym z.1) (go z.2 (node ns c.0) refl q)
      where
        go : Leads B (node ns c.0) None → (n : Node) → node ns c.0 ≡ n → Knows r m a c.0 n → Key (val ns θ c.0)
        go f (Name d) e q = subst Key (sym (val_is ns o θ c.0 p.1 (Name d) e)) ((g.reached.names d.0).0 q)
        go f (Env d) e q = subst Key (sym (val_is ns o θ c.0 p.1 (Env d) e)) tt
        go f (Var x) e q = subst Key (sym (free_value ns o B r s m θ S g c.0 x.0 p.1 e f)) (elim q [ inl j ↦ marks x.0 j | inr j ↦ vars c.0 x.0 p.1 j e ])
        go f (Pair b d) e q = absurd q
        go f (Seal b d) e q = absurd q

    had_seal : (b u : Term) → Had (seal b u) → Analz S (seal b u) ⊎ (Key u × Had b)
    had_seal b u (i, w, v) = go (node ns i) refl
      where
        l : i < length ns
        l = (h i w).inside

        go : (k : Node) → node ns i ≡ k → Analz S (seal b u) ⊎ (Key u × Had b)
        go (Name c) e = let q = its_value i (Name c) w e in absurd (clash (cc))
        go (Env c) e = let q = its_value i (Env c) w e in absurd (clash (cc))
        go (Var y) e = let q = its_variable i y w e in absurd (clash (cc))
        go (Pair d k) e = let q = its_value i (Pair d k) w e in absurd (clash (cc))
        go (Seal d k) e =
            let q = its_value i (Seal d k) w e in
            let z = subst (Below i) e (o i l) in
            let y : k.0 < length ns = omega (arith, z.1, l) in
            elim (fine_at i (Seal d k) w e) [
              | inl lost ↦ let (c, p, n, j, f) = g.ended g.general θ g.values k.0 (omega (arith, y, g.small)) y in absurd (lost c (p, n))
              | inr known ↦ elim known [
                | inl opens ↦ inr (subst Key (cc) (opens_key k y opens), subst Had (cc) (had_part i w d (subst (λ (n : Node). Part ns r s m a n d) (sym e) (refl, opens))))
                | inr (j, n, p, same) ↦ let x = g.reached.sound j p in
                    inl (subst (Analz S) (sym ((g.told g.general θ g.values i j (omega (arith, l, g.small)) n).0 same).2 ∙ v) x.2)
              ]
            ]

    sealed : (b u : Term) → Key u → ways.Met S L b → ways.Met S L (seal b u)
    sealed b (name n) k z = ways.Met.by_open_key k z
    sealed b (env n) k z = ways.Met.by_env_key n z
    sealed b (var x) k z = ways.Met.by_marked_key k z
    sealed b (pair c d) k z = absurd k
    sealed b (seal c d) k z = absurd k

    pub met : (u : Term) → Had u → ways.Met S L u
    met (name n) z = ways.Met.by_name (had_name n z)
    met (env n) z = ways.Met.by_env n
    met (var x) z = ways.Met.by_mark (had_variable x z)
    met (pair b d) z = let p = had_pair b d z in ways.Met.by_pair (met b p.0) (met d p.1)
    met (seal b u) z = elim (had_seal b u z) [ inl q ↦ ways.Met.by_equal_box q | inr q ↦ sealed b u q.0 (met b q.1) ]

-- a seal whose key is a pair or a seal
pub fails_seal : (ns : List Node) (r : Reach) (s : Alike) (n : Node) (b k c : NodeNo) (d : Node) → n ≡ Seal b k → head s k.0 ≡ Some c → c.0 < length ns → d ≡ node ns c.0 → Compound d → Fails ns r s n
fails_seal ns r s n b k c d e p l f q = subst (Fails ns r s) (sym e) (c, (p, l), subst Compound f q)

pub told_against : (ns : List Node) → Ordered ns → (B : List Binding) (r : Reach) (s : Alike) (m : VarSet) (n : ℕ) (a : Asked) → n < length ns → Begun ns B r s m n a → (w : Need) → JudgedAll ns r s m a (Some w) → Told ns B r s m n (Some w)
told_against ns o B r s m n a l b w (i, q) = (l, λ θ S g. right_of ns o B r s m θ S g (val ns θ n) a (b.sound θ S g) w i q)

pub told_met : (ns : List Node) → Ordered ns → (B : List Binding) (r : Reach) (s : Alike) (m : VarSet) (n : ℕ) (a : Asked) → n < length ns → Begun ns B r s m n a → Next ns r s m a None → JudgedAll ns r s m a None → (V : VarSet) → bits V < 2 ^ 64 → ((k : ℕ) → k ≤ length ns → k ≤ 2 ^ 16 → Collected ns m a k V) → Told ns B r s m n (Some (Met V))
told_met ns o B r s m n a l b rests fine V wide col = (l, λ θ S g. right θ S g)
  where
    right : (θ : ℕ → Term) (S : List Term) → Given ns B r s θ S → Right ns B θ S m (val ns θ n) (Met V)
    right θ S g =
        let all = col (length ns) (omega arith) g.small in
        let h = b.sound θ S g in
        let (L, f, k) = listed (bits V) wide in
        let (d, e, y, v, q) = g.ended g.general θ g.values n (omega (arith, l, g.small)) l in (
          all.marked,
          λ x i. elim (all.sound x i) [ inl j ↦ inl j | inr (j, p, u, w) ↦ inr (subst (Needed S (Marks m) (val ns θ n)) (free_value ns o B r s m θ S g j x p w (h j u).free) (h j u).needed) ],
          L,
          f,
          met ns o B r s m θ S g (val ns θ n) a h rests fine L (λ x i. k x (all.marked x i)) (λ i x p w j. k x (all.complete i x p p w j)) (val ns θ n) (d.0, b.first d e, sym v),
        )
