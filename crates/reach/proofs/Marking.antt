-- One mark: what it adds is what the node says.
use Rattle.std.proofs.Common.{◌≡◌, ℕ, ◌<◌, true, false, ◌⊎◌, List, length, refl, sym, ap, ◌∙◌, subst, inl, inr, ⊎_elim, arith}
use Rattle.terms.specs.Terms.{Term, name}
use Rattle.terms.specs.Nodes.{node, Ordered}
use Rattle.terms.specs.Sets.{bits}
use Rattle.terms.specs.Bits.{In}
use Rattle.terms.specs.declared.node.Node.{Node}
use Rattle.terms.specs.declared.node.Node.TheVariants.{Name, Env, Var, Pair, Seal}
use Rattle.terms.specs.declared.number.LocalName.{LocalName}
use Rattle.terms.specs.declared.number.EnvName.{EnvName}
use Rattle.terms.specs.declared.number.Variable.{Variable}
use Rattle.terms.specs.declared.number.NodeNo.{NodeNo}
use Rattle.terms.specs.declared.variables.VarSet.{VarSet}
use Rattle.lifting.specs.Lift.{Analz}
use Rattle.unification.specs.Bindings.{val}
use Rattle.unification.proofs.Values.{val_is}
use Rattle.reach.specs.Numbers.{has, Added}
use Rattle.reach.specs.Parts.{marked, named, sealed, Seen, SealNode, Grows, Filed}
use Rattle.reach.specs.Steps.{Marking}
use Rattle.reach.specs.declared.numbers.Numbers.{Numbers}
use Rattle.reach.specs.declared.parts.Parts.{Parts}
use Rattle.reach.proofs.Sets.{added_grows, added_from}

-- what stands in the sets of its kind stays there
filed_on : (s s' : Parts) → Grows s s' → (i : ℕ) (n : Node) → Filed s i n → Filed s' i n
filed_on s s' g i (Name a) f = g.names a.0 f
filed_on s s' g i (Env e) f = tt
filed_on s s' g i (Var x) f = λ l. g.variables x.0 (f l)
filed_on s s' g i (Pair l r) f = tt
filed_on s s' g i (Seal b k) f = g.seals i f

module _ (ns : List Node) (o : Ordered ns) (s : Parts) (n : ℕ) (l : n < length ns) (new : marked s n ≡ false) (M : Numbers) (add : Added s.marks n M) where
  -- what the sets of kinds may have got
  record Kinds (s' : Parts) : Type 0 where
    names : (a : ℕ) → named s' a ≡ true → (named s a ≡ true) ⊎ (((θ : ℕ → Term) → val ns θ n ≡ name a))
    seals : (i : ℕ) → sealed s' i ≡ true → (sealed s i ≡ true) ⊎ ((i ≡ n) × SealNode (node ns n))
    variables : (x : ℕ) → Seen s' x → Seen s x ⊎ ((θ : ℕ → Term) → val ns θ n ≡ θ x)

  with_kinds : (N E : Numbers) (V : VarSet) → Grows s (record { marks = M; names = N; seals = E; variables = V; opening = s.opening }) → Filed (record { marks = M; names = N; seals = E; variables = V; opening = s.opening }) n (node ns n) → Kinds (record { marks = M; names = N; seals = E; variables = V; opening = s.opening }) → Marking ns s n (record { marks = M; names = N; seals = E; variables = V; opening = s.opening }) true
  with_kinds N E V g f k = (
    record {
      grows = g;
      filed = λ all i m. ⊎_elim (λ h. filed_on s s' g i (node ns i) (all i h)) (λ e. subst (λ (z : ℕ). Filed s' z (node ns z)) (sym e) f) (added_from s.marks n M add i m);
      sound = λ θ S z h. record {
        marks = λ i m. ⊎_elim (λ p. h.marks i p) (λ e. subst (λ (y : ℕ). (y < length ns) × Analz S (val ns θ y)) (sym e) (l, z l)) (added_from s.marks n M add i m);
        names = λ a m. ⊎_elim (λ p. h.names a p) (λ e. subst (λ (t : Term). Analz S t) (e θ) (z l)) (k.names a m);
        seals = λ i m. ⊎_elim (λ p. let q = h.seals i p in (g.marks i q.0, q.1)) (λ p. (ap (has M) (p.0) ∙ add.here, subst (λ (y : ℕ). SealNode (node ns y)) (sym p.0) p.1)) (k.seals i m);
        variables = λ x m. ⊎_elim (λ p. h.variables x p) (λ e. subst (λ (t : Term). Analz S t) (e θ) (z l)) (k.variables x m);
        opening = h.opening;
      };
      here = λ w. add.here;
    },
    omega (arith, add.less new),
  )
    where
      s' : Parts
      s' = record { marks = M; names = N; seals = E; variables = V; opening = s.opening }

  old_marks : (i : ℕ) → marked s i ≡ true → has M i ≡ true
  old_marks i h = added_grows s.marks n M add i h

  pub name_marked : (a : LocalName) (N : Numbers) → node ns n ≡ Name a → Added s.names a.0 N → Marking ns s n (record { marks = M; names = N; seals = s.seals; variables = s.variables; opening = s.opening }) true
  name_marked a N e k =
      with_kinds N s.seals s.variables
      (record { marks = old_marks; names = added_grows s.names a.0 N k; seals = λ i h. h; variables = λ x h. h; opening = λ x h. h })
      (subst (Filed (record { marks = M; names = N; seals = s.seals; variables = s.variables; opening = s.opening }) n) (sym e) k.here)
      (record {
        names = λ b m. ⊎_elim (λ p. inl p) (λ q. inr (λ θ. val_is ns o θ n l (Name a) e ∙ ap name (sym q))) (added_from s.names a.0 N k b m);
        seals = λ i m. inl m;
        variables = λ x m. inl m;
      })

  pub seal_marked : (b k : NodeNo) (E : Numbers) → node ns n ≡ Seal b k → Added s.seals n E → Marking ns s n (record { marks = M; names = s.names; seals = E; variables = s.variables; opening = s.opening }) true
  seal_marked b k E e d =
      with_kinds s.names E s.variables
      (record { marks = old_marks; names = λ a h. h; seals = added_grows s.seals n E d; variables = λ x h. h; opening = λ x h. h })
      (subst (Filed (record { marks = M; names = s.names; seals = E; variables = s.variables; opening = s.opening }) n) (sym e) d.here)
      (record {
        names = λ a m. inl m;
        seals = λ i m. ⊎_elim (λ p. inl p) (λ q. inr (q, subst SealNode (sym e) tt)) (added_from s.seals n E d i m);
        variables = λ x m. inl m;
      })

  pub variable_marked : (x : Variable) (V : VarSet) → node ns n ≡ Var x → ((y : ℕ) → (In y (bits V) → In y (bits s.variables) ⊎ ((y ≡ x.0) × (y < 64))) × (In y (bits s.variables) ⊎ ((y ≡ x.0) × (y < 64)) → In y (bits V))) → Marking ns s n (record { marks = M; names = s.names; seals = s.seals; variables = V; opening = s.opening }) true
  variable_marked x V e w =
      with_kinds s.names s.seals V
      (record { marks = old_marks; names = λ a h. h; seals = λ i h. h; variables = λ y h. (w y).1 (inl h); opening = λ y h. h })
      (subst (Filed (record { marks = M; names = s.names; seals = s.seals; variables = V; opening = s.opening }) n) (sym e) (λ h. (w x.0).1 (inr (refl, h))))
      (record {
        names = λ a m. inl m;
        seals = λ i m. inl m;
        variables = λ y m. ⊎_elim (λ p. inl p) (λ q. inr (λ θ. val_is ns o θ n l (Var x) e ∙ ap θ (sym q.0))) ((w y).0 m);
      })

  plain : Filed (record { marks = M; names = s.names; seals = s.seals; variables = s.variables; opening = s.opening }) n (node ns n) → Marking ns s n (record { marks = M; names = s.names; seals = s.seals; variables = s.variables; opening = s.opening }) true
  plain f =
      with_kinds s.names s.seals s.variables
      (record { marks = old_marks; names = λ a h. h; seals = λ i h. h; variables = λ y h. h; opening = λ y h. h })
      f
      (record { names = λ a m. inl m; seals = λ i m. inl m; variables = λ y m. inl m })

  pub env_marked : (d : EnvName) → node ns n ≡ Env d → Marking ns s n (record { marks = M; names = s.names; seals = s.seals; variables = s.variables; opening = s.opening }) true
  env_marked d e = plain (subst (Filed (record { marks = M; names = s.names; seals = s.seals; variables = s.variables; opening = s.opening }) n) (sym e) tt)

  pub pair_marked : (a b : NodeNo) → node ns n ≡ Pair a b → Marking ns s n (record { marks = M; names = s.names; seals = s.seals; variables = s.variables; opening = s.opening }) true
  pair_marked a b e = plain (subst (Filed (record { marks = M; names = s.names; seals = s.seals; variables = s.variables; opening = s.opening }) n) (sym e) tt)
