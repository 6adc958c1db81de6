-- Where nothing more is reached, all that taking apart reaches is marked.
use mathlib.Core.List.{Memᴰ}
use Rattle.std.proofs.Common.{◌≡◌, ℕ, zero, suc, ◌<◌, true, List, length, refl, sym, ap, ◌∙◌, subst, arith, not-suc-le-zero}
use Rattle.lifting.proofs.Lists.{clash}
use Rattle.terms.specs.Terms.{Term, name, env, var, pair, seal, Vars}
use Rattle.terms.specs.Nodes.{node, says, term, Below, Ordered}
use Rattle.terms.specs.declared.node.Node.{Node}
use Rattle.terms.specs.declared.node.Node.TheVariants.{Name, Env, Var, Pair, Seal}
use Rattle.terms.specs.declared.number.Variable.{Variable}
use Rattle.terms.proofs.Unfolding.{unfolds}
use Rattle.lifting.specs.Lift.{Analz, by_var, by_env, by_name}
use Rattle.unification.specs.Bindings.{variable_at, node_at, val, Within, Unbound, Falls}
use Rattle.unification.specs.declared.binding.Binding.{Binding}
use Rattle.unification.proofs.Deciding.{Place, bound?}
use Rattle.unification.proofs.Values.{val_is}
use Rattle.reach.specs.Parts.{marked, named, sealed, Seen, Opening, Opens, AllFiled, Filed}
use Rattle.reach.specs.Steps.{Values, Apart, Rests}
use Rattle.reach.specs.declared.parts.Parts.{Parts}

-- every variable of the table can be in a set
abbrev pub NarrowTable : List Node → Type 0
NarrowTable ns = (i x : ℕ) → i < length ns → node ns i ≡ Var (record { 0 = x }) → x < 64

module _ (ns : List Node) (o : Ordered ns) (narrow : NarrowTable ns) (B : List Binding) (within : Within ns B) (θ : ℕ → Term) (values : Values ns B θ) (s : Parts) (filed : AllFiled ns s) (rests : Rests ns B s) (free : (x : ℕ) → x < 64 → Unbound B x → Opening s x) (r : ℕ → ℕ) (falls : Falls ns B r) where
  -- a variable that the node is ranks below n
  abbrev Under : ℕ → ℕ → Type 0
  Under n i = (x : ℕ) → node ns i ≡ Var (record { 0 = x }) → r x < n

  -- the node is no bound variable
  abbrev Ends : ℕ → Type 0
  Ends i = (x : ℕ) → node ns i ≡ Var (record { 0 = x }) → Unbound B x

  -- the term is the value of a marked node that is no bound variable
  record Had (t : Term) : Type 0 where
    place : ℕ
    inside : place < length ns
    mark : marked s place ≡ true
    same : val ns θ place ≡ t
    ends : Ends place

  ranked : (i : ℕ) → (n : ℕ) × Under n i
  ranked i = go (node ns i) refl
    where
      go : (n : Node) → node ns i ≡ n → (m : ℕ) × Under m i
      go (Name a) e = (0, λ x q. absurd (clash (cc)))
      go (Env d) e = (0, λ x q. absurd (clash (cc)))
      go (Var y) e = (suc (r y.0), λ x q. let z : y.0 ≡ x = cc in omega (arith, ap r z))
      go (Pair a b) e = (0, λ x q. absurd (clash (cc)))
      go (Seal b k) e = (0, λ x q. absurd (clash (cc)))

  -- the node of a bound variable ranks below it, and has its value
  hop_under : (n k : ℕ) → k < length B → r (variable_at B k) < suc n → Under n (node_at B k)
  hop_under n k l h x q =
      let t : term ns (node_at B k) ≡ var x = unfolds ns o (node_at B k) (within k l) ∙ ap (says (term ns)) q in
      let v : r x < r (variable_at B k) = subst (λ (u : Term). Vars (λ y. r y < r (variable_at B k)) u) t (falls k l) in
      omega arith

  hop_same : (i k : ℕ) (y : Variable) → i < length ns → node ns i ≡ Var y → k < length B → variable_at B k ≡ y.0 → val ns θ i ≡ val ns θ (node_at B k)
  hop_same i k y l e h p = val_is ns o θ i l (Var y) e ∙ ap θ (sym p) ∙ values.0 k h

  seen_at : (i : ℕ) (y : Variable) → i < length ns → node ns i ≡ Var y → marked s i ≡ true → Seen s y.0
  seen_at i y l e m = subst (Filed s i) e (filed i m) (narrow i y.0 l e)

  -- a marked node leads to one that is no bound variable
  walk_on : (i : ℕ) → i < length ns → marked s i ≡ true → ((y : Variable) → node ns i ≡ Var y → (p : Place B y.0) → Had (val ns θ (node_at B p.0))) → Had (val ns θ i)
  walk_on i l m next = go (node ns i) refl
    where
      done : Ends i → Had (val ns θ i)
      done h = record { place = i; inside = l; mark = m; same = refl; ends = h }

      go : (n : Node) → node ns i ≡ n → Had (val ns θ i)
      go (Name a) e = done (λ x q. absurd (clash (cc)))
      go (Env d) e = done (λ x q. absurd (clash (cc)))
      go (Var y) e =
          elim (bound? B y.0) [
            | yes p ↦ subst Had (sym (hop_same i p.0 y l e p.1 p.2)) (next y e p)
            | no f ↦ done (λ x q k h w. let z : y.0 ≡ x = cc in f (k, h, w ∙ sym z))
          ]
      go (Pair a b) e = done (λ x q. absurd (clash (cc)))
      go (Seal b k) e = done (λ x q. absurd (clash (cc)))

  walk : (n i : ℕ) → i < length ns → marked s i ≡ true → Under n i → Had (val ns θ i)
  walk zero i l m u = walk_on i l m (λ y e p. absurd (not-suc-le-zero (u y.0 e)))
  walk (suc n) i l m u =
      walk_on i l m
      (λ y e p. let q : r (variable_at B p.0) < suc n = omega (arith, ap r p.2, u y.0 e) in
      let m' = rests.0.0 p.0 (omega arith) p.1 (subst (Seen s) (sym p.2) (seen_at i y l e m)) (within p.0 p.1) in
      walk n (node_at B p.0) (within p.0 p.1) m' (hop_under n p.0 p.1 q))

  led : (i : ℕ) → i < length ns → marked s i ≡ true → Had (val ns θ i)
  led i l m = let u = ranked i in walk u.0 i l m u.1

  -- a key that opens
  abbrev Ready : Term → Type 0
  Ready (name a) = named s a ≡ true
  Ready (env n) = Unit {0}
  Ready (var x) = Unit {0}
  Ready (pair a b) = ⊥
  Ready (seal b k) = ⊥

  opens_on : (i : ℕ) → i < length ns → Ready (val ns θ i) → ((y : Variable) → node ns i ≡ Var y → (p : Place B y.0) → Ready (val ns θ (node_at B p.0)) → Opens s (node ns (node_at B p.0))) → Opens s (node ns i)
  opens_on i l h next = go (node ns i) refl
    where
      go : (n : Node) → node ns i ≡ n → Opens s n
      go (Name a) e = subst Ready (val_is ns o θ i l (Name a) e) h
      go (Env d) e = tt
      go (Var y) e =
          elim (bound? B y.0) [
            | yes p ↦ subst (Opening s) p.2 (rests.1 p.0 (omega arith) p.1 (subst (λ (x : ℕ). x < 64) (sym p.2) (narrow i y.0 l e)) (within p.0 p.1) (next y e p (subst Ready (hop_same i p.0 y l e p.1 p.2) h)))
            | no f ↦ free y.0 (narrow i y.0 l e) (λ k q w. f (k, q, w))
          ]
      go (Pair a b) e = subst Ready (val_is ns o θ i l (Pair a b) e) h
      go (Seal b k) e = subst Ready (val_is ns o θ i l (Seal b k) e) h

  opens_under : (n i : ℕ) → i < length ns → Ready (val ns θ i) → Under n i → Opens s (node ns i)
  opens_under zero i l h u = opens_on i l h (λ y e p q. absurd (not-suc-le-zero (u y.0 e)))
  opens_under (suc n) i l h u =
      opens_on i l h
      (λ y e p q. let z : r (variable_at B p.0) < suc n = omega (arith, ap r p.2, u y.0 e) in
      opens_under n (node_at B p.0) (within p.0 p.1) q (hop_under n p.0 p.1 z))

  opened : (i : ℕ) → i < length ns → Ready (val ns θ i) → Opens s (node ns i)
  opened i l h = let u = ranked i in opens_under u.0 i l h u.1

  -- the value of an unbound variable is itself
  itself : (i : ℕ) (y : Variable) → i < length ns → node ns i ≡ Var y → Ends i → val ns θ i ≡ var y.0
  itself i y l e h = val_is ns o θ i l (Var y) e ∙ values.1 y.0 (h y.0 e)

  halves : (i : ℕ) (a b : Term) → i < length ns → marked s i ≡ true → val ns θ i ≡ pair a b → Ends i → Had a × Had b
  halves i a b l m v h = go (node ns i) refl
    where
      go : (n : Node) → node ns i ≡ n → Had a × Had b
      go (Name c) e = let q = val_is ns o θ i l (Name c) e in absurd (clash (cc))
      go (Env d) e = let q = val_is ns o θ i l (Env d) e in absurd (clash (cc))
      go (Var y) e = let q = itself i y l e h in absurd (clash (cc))
      go (Pair c d) e =
          let q = val_is ns o θ i l (Pair c d) e in
          let w = subst (Apart ns s) e (rests.0.1 i (omega arith) l m) in
          let z = subst (Below i) e (o i l) in
          (subst Had (cc) (led c.0 (omega (arith, z.0)) w.0), subst Had (cc) (led d.0 (omega (arith, z.1)) w.1))
      go (Seal c d) e = let q = val_is ns o θ i l (Seal c d) e in absurd (clash (cc))

  body : (i : ℕ) (b k : Term) → i < length ns → marked s i ≡ true → val ns θ i ≡ seal b k → Ends i → Ready k → Had b
  body i b k l m v h y = go (node ns i) refl
    where
      go : (n : Node) → node ns i ≡ n → Had b
      go (Name c) e = let q = val_is ns o θ i l (Name c) e in absurd (clash (cc))
      go (Env d) e = let q = val_is ns o θ i l (Env d) e in absurd (clash (cc))
      go (Var x) e = let q = itself i x l e h in absurd (clash (cc))
      go (Pair c d) e = let q = val_is ns o θ i l (Pair c d) e in absurd (clash (cc))
      go (Seal c d) e =
          let q = val_is ns o θ i l (Seal c d) e in
          let z = subst (Below i) e (o i l) in
          let key : k ≡ val ns θ d.0 = cc in
          let w = subst (Apart ns s) e (rests.0.1 i (omega arith) l m) (opened d.0 (omega (arith, z.1)) (subst Ready key y)) in
          subst Had (cc) (led c.0 (omega (arith, z.0)) w)

  had_name : (a : ℕ) → Had (name a) → named s a ≡ true
  had_name a t = go (node ns t.place) refl
    where
      go : (n : Node) → node ns t.place ≡ n → named s a ≡ true
      go (Name c) e =
          let q = val_is ns o θ t.place t.inside (Name c) e in
          let z : name c.0 ≡ name a = sym q ∙ t.same in
          subst (λ (x : ℕ). named s x ≡ true) (cc) (subst (Filed s t.place) e (filed t.place t.mark))
      go (Env d) e = let q = val_is ns o θ t.place t.inside (Env d) e in let v = t.same in absurd (clash (cc))
      go (Var y) e = let q = itself t.place y t.inside e t.ends in let v = t.same in absurd (clash (cc))
      go (Pair c d) e = let q = val_is ns o θ t.place t.inside (Pair c d) e in let v = t.same in absurd (clash (cc))
      go (Seal c d) e = let q = val_is ns o θ t.place t.inside (Seal c d) e in let v = t.same in absurd (clash (cc))

  had_variable : (x : ℕ) → Had (var x) → Seen s x
  had_variable x t = go (node ns t.place) refl
    where
      go : (n : Node) → node ns t.place ≡ n → Seen s x
      go (Name c) e = let q = val_is ns o θ t.place t.inside (Name c) e in let v = t.same in absurd (clash (cc))
      go (Env d) e = let q = val_is ns o θ t.place t.inside (Env d) e in let v = t.same in absurd (clash (cc))
      go (Var y) e =
          let q = itself t.place y t.inside e t.ends in
          let z : var y.0 ≡ var x = sym q ∙ t.same in
          subst (Seen s) (cc) (seen_at t.place y t.inside e t.mark)
      go (Pair c d) e = let q = val_is ns o θ t.place t.inside (Pair c d) e in let v = t.same in absurd (clash (cc))
      go (Seal c d) e = let q = val_is ns o θ t.place t.inside (Seal c d) e in let v = t.same in absurd (clash (cc))

  had_seal : (m u : Term) → Had (seal m u) → (i : ℕ) × (i < length ns) × (sealed s i ≡ true) × (val ns θ i ≡ seal m u)
  had_seal m u t = go (node ns t.place) refl
    where
      go : (n : Node) → node ns t.place ≡ n → (i : ℕ) × (i < length ns) × (sealed s i ≡ true) × (val ns θ i ≡ seal m u)
      go (Name c) e = let q = val_is ns o θ t.place t.inside (Name c) e in let v = t.same in absurd (clash (cc))
      go (Env d) e = let q = val_is ns o θ t.place t.inside (Env d) e in let v = t.same in absurd (clash (cc))
      go (Var y) e = let q = itself t.place y t.inside e t.ends in let v = t.same in absurd (clash (cc))
      go (Pair c d) e = let q = val_is ns o θ t.place t.inside (Pair c d) e in let v = t.same in absurd (clash (cc))
      go (Seal c d) e = (t.place, t.inside, subst (Filed s t.place) e (filed t.place t.mark), t.same)

  module _ (S : List Term) (heads : (t : Term) → Memᴰ t S → (i : ℕ) × (i < length ns) × (marked s i ≡ true) × (val ns θ i ≡ t)) where
    had : {t : Term} → Analz S t → Had t
    had {t} (Analz.listed m) = let h = heads t m in subst Had h.3 (led h.0 h.1 h.2)
    had (Analz.left {a} {b} z) = let h = had z in (halves h.place a b h.inside h.mark h.same h.ends).0
    had (Analz.right {a} {b} z) = let h = had z in (halves h.place a b h.inside h.mark h.same h.ends).1
    had (by_var {b} {x} z) = let h = had z in body h.place b (var x) h.inside h.mark h.same h.ends tt
    had (by_env {b} {n} z) = let h = had z in body h.place b (env n) h.inside h.mark h.same h.ends tt
    had (by_name {b} {n} z k) = let h = had z in body h.place b (name n) h.inside h.mark h.same h.ends (had_name n (had k))

    pub all_names : (a : ℕ) → Analz S (name a) → named s a ≡ true
    all_names a z = had_name a (had z)

    pub all_variables : (x : ℕ) → Analz S (var x) → Seen s x
    all_variables x z = had_variable x (had z)

    pub all_seals : (m u : Term) → Analz S (seal m u) → (i : ℕ) × (i < length ns) × (sealed s i ≡ true) × (val ns θ i ≡ seal m u)
    all_seals m u z = had_seal m u (had z)
