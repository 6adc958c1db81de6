-- The steps of taking apart, from one mark to a look through all nodes and bindings.
use Rattle.std.proofs.Common.{◌≡◌, ℕ, ◌+◌, ◌-◌, ◌<◌, Bool, true, false, ◌||◌, ◌⊎◌, List, length, get_or, refl, sym, ap, ◌∙◌, subst, inl, inr, ⊎_elim, arith}
use native.Mathlib.Decide.{dec_lt}
use Rattle.std.proofs.lemmas.Bool.{false≢true}
use Rattle.terms.specs.Terms.{Term, name, env, var, pair, seal}
use Rattle.terms.specs.Bits.{In}
use Rattle.terms.specs.Nodes.{node, Below, Ordered}
use Rattle.terms.specs.Sets.{bits}
use Rattle.terms.specs.declared.node.Node.{Node}
use Rattle.terms.specs.declared.node.Node.TheVariants.{Name, Env, Var, Pair, Seal}
use Rattle.terms.specs.declared.number.NodeNo.{NodeNo}
use Rattle.terms.specs.declared.variables.VarSet.{VarSet}
use Rattle.lifting.specs.Lift.{Analz, by_var, by_env, by_name}
use Rattle.limits.proofs.Subsets.{subset_le}
use Rattle.unification.specs.Bindings.{no_binding, val}
use Rattle.unification.specs.declared.binding.Binding.{Binding}
use Rattle.unification.proofs.Values.{val_is}
use Rattle.reach.specs.Parts.{marked, Seen, Opening, Opens, Unlocks, Sound, left}
use Rattle.reach.specs.Steps.{Values, Above, Step, Marking, Apart, TakenApart, MarkPassed, OpenPassed, MarksPassed, OpensPassed, AllMarked, Each, Rests}
use Rattle.reach.specs.declared.parts.Parts.{Parts}

-- a key that opens is taken for known
unlocks : (ns : List Node) → Ordered ns → (θ : ℕ → Term) (S : List Term) (s : Parts) → Sound ns θ S s → (k : ℕ) → k < length ns → Opens s (node ns k) → Unlocks S (val ns θ k)
unlocks ns o θ S s h k l w = go (node ns k) refl w
  where
    go : (n : Node) → node ns k ≡ n → Opens s n → Unlocks S (val ns θ k)
    go (Name a) e w = subst (Unlocks S) (sym (val_is ns o θ k l (Name a) e)) (h.names a.0 w)
    go (Env d) e w = subst (Unlocks S) (sym (val_is ns o θ k l (Env d) e)) tt
    go (Var x) e w = subst (Unlocks S) (sym (val_is ns o θ k l (Var x) e)) (h.opening x.0 w)
    go (Pair a b) e w = absurd w
    go (Seal a b) e w = absurd w

unlocked : {S : List Term} (b k : Term) → Analz S (seal b k) → Unlocks S k → Analz S b
unlocked b (name n) z u = by_name z u
unlocked b (env n) z u = by_env z
unlocked b (var x) z u = by_var z
unlocked b (pair c d) z u = absurd u
unlocked b (seal c d) z u = absurd u

module _ (ns : List Node) (o : Ordered ns) (B : List Binding) where
  pub above_self : (s : Parts) → Above ns B s s
  above_self s = record { grows = record { marks = λ i h. h; names = λ a h. h; seals = λ i h. h; variables = λ x h. h; opening = λ x h. h }; filed = λ f. f; sound = λ θ S v h. h }

  pub above_on : (s s₁ s₂ : Parts) → Above ns B s s₁ → Above ns B s₁ s₂ → Above ns B s s₂
  above_on s s₁ s₂ a b = record {
    grows = record {
      marks = λ i h. b.grows.marks i (a.grows.marks i h);
      names = λ i h. b.grows.names i (a.grows.names i h);
      seals = λ i h. b.grows.seals i (a.grows.seals i h);
      variables = λ x h. b.grows.variables x (a.grows.variables x h);
      opening = λ x h. b.grows.opening x (a.grows.opening x h);
    };
    filed = λ f. b.filed (a.filed f);
    sound = λ θ S v h. b.sound θ S v (a.sound θ S v h);
  }

  pub step_above : (s s' : Parts) (P : Type 0) (r : Bool) → Step ns B s s' P r → Above ns B s s'
  step_above s s' P true h = h.0
  step_above s s' P false h = subst (Above ns B s) (sym h.0) (above_self s)

  step_map : (s s' : Parts) (P Q : Type 0) (r : Bool) → (P → Q) → Step ns B s s' P r → Step ns B s s' Q r
  step_map s s' P Q true f h = h
  step_map s s' P Q false f h = (h.0, f h.1)

  -- one step after another
  step_both : (s s₁ s₂ : Parts) (P Q : Parts → Type 0) (a b : Bool) → Step ns B s s₁ (P s) a → Step ns B s₁ s₂ (Q s₁) b → Step ns B s s₂ (P s × Q s) (a || b)
  step_both s s₁ s₂ P Q true true h k = (above_on s s₁ s₂ h.0 k.0, omega (arith, h.1, k.1))
  step_both s s₁ s₂ P Q true false h k = subst (λ (z : Parts). Above ns B s z × (left z < left s)) (sym k.0) h
  step_both s s₁ s₂ P Q false true h k = subst (λ (z : Parts). Above ns B z s₂ × (left s₂ < left z)) h.0 k
  step_both s s₁ s₂ P Q false false h k = (k.0 ∙ h.0, (h.1, subst Q h.0 k.1))

  -- which of two answers a choice gives
  pub or_first : (s s' : Parts) (P : Type 0) (a b : Bool) → a ≡ true → Step ns B s s' P (a || b) → Step ns B s s' P a
  or_first s s' P a b e h = subst (λ (r : Bool). Step ns B s s' P r) (ap (λ (x : Bool). x || b) e ∙ sym e) h

  pub or_second : (s s' : Parts) (P : Type 0) (a b : Bool) → a ≡ false → Step ns B s s' P (a || b) → Step ns B s s' P b
  or_second s s' P a b e h = subst (λ (r : Bool). Step ns B s s' P r) (ap (λ (x : Bool). x || b) e) h

  pub no_step : (s s' : Parts) (P : Type 0) (r : Bool) → r ≡ false → Step ns B s s' P false → Step ns B s s' P r
  no_step s s' P r e h = subst (λ (q : Bool). Step ns B s s' P q) (sym e) h

  marking_step : (s : Parts) (n : ℕ) (s' : Parts) (r : Bool) → ((θ : ℕ → Term) (S : List Term) → Values ns B θ → Sound ns θ S s → n < length ns → Analz S (val ns θ n)) → Marking ns s n s' r → Step ns B s s' (n < length ns → marked s n ≡ true) r
  marking_step s n s' true f h = (record { grows = h.0.grows; filed = h.0.filed; sound = λ θ S v q. h.0.sound θ S (f θ S v q) q }, h.1)
  marking_step s n s' false f h = h

  -- a node that is not marked
  pub not_apart : (s : Parts) (i : ℕ) → marked s i ≡ false → Step ns B s s (TakenApart ns s i) false
  not_apart s i f = (refl, λ t. absurd (false≢true (sym f ∙ t)))

  pub pair_step : (s s₁ s₂ : Parts) (i : ℕ) (l r : NodeNo) (a b : Bool) → i < length ns → node ns i ≡ Pair l r → marked s i ≡ true → Marking ns s l.0 s₁ a → Marking ns s₁ r.0 s₂ b → Step ns B s s₂ (TakenApart ns s i) (a || b)
  pair_step s s₁ s₂ i l r a b w e m p q =
      let z = subst (Below i) e (o i w) in
      let f = marking_step s l.0 s₁ a (λ θ S v h g. Analz.left (subst (Analz S) (val_is ns o θ i w (Pair l r) e) (h.marks i m).1)) p in
      let m' = (step_above s s₁ _ a f).grows.marks i m in
      let g = marking_step s₁ r.0 s₂ b (λ θ S v h g. Analz.right (subst (Analz S) (val_is ns o θ i w (Pair l r) e) (h.marks i m').1)) q in
      step_map s s₂ _ (TakenApart ns s i) (a || b) (λ k t. subst (Apart ns s) (sym e) (k.0 (omega (arith, z.0)), k.1 (omega (arith, z.1)))) (step_both s s₁ s₂ (λ u. l.0 < length ns → marked u l.0 ≡ true) (λ u. r.0 < length ns → marked u r.0 ≡ true) a b f g)

  pub seal_step : (s s' : Parts) (i : ℕ) (b k : NodeNo) (r : Bool) → i < length ns → node ns i ≡ Seal b k → marked s i ≡ true → Opens s (node ns k.0) → Marking ns s b.0 s' r → Step ns B s s' (TakenApart ns s i) r
  seal_step s s' i b k r w e m u q =
      let z = subst (Below i) e (o i w) in
      step_map s s' _ (TakenApart ns s i) r (λ h t. subst (Apart ns s) (sym e) (λ v. h (omega (arith, z.0))))
      (marking_step s b.0 s' r (λ θ S v h g. unlocked (val ns θ b.0) (val ns θ k.0) (subst (Analz S) (val_is ns o θ i w (Seal b k) e) (h.marks i m).1) (unlocks ns o θ S s h k.0 (omega (arith, z.1)) u)) q)

  -- a seal that does not open, and what has no parts
  pub shut_step : (s : Parts) (i : ℕ) (b k : NodeNo) → i < length ns → node ns i ≡ Seal b k → ((k.0 < length ns) × Opens s (node ns k.0) → ⊥) → Step ns B s s (TakenApart ns s i) false
  shut_step s i b k w e n = (refl, λ t. let z = subst (Below i) e (o i w) in subst (Apart ns s) (sym e) (λ u. absurd (n (omega (arith, z.1), u))))

  pub whole_step : (s : Parts) (i : ℕ) → Apart ns s (node ns i) → Step ns B s s (TakenApart ns s i) false
  whole_step s i a = (refl, λ t. a)

  module _ (k : ℕ) (w : k < length B) (b : Binding) (e : get_or B k no_binding ≡ b) where
    passes : (θ : ℕ → Term) → Values ns B θ → θ b.variable.0 ≡ val ns θ b.node.0
    passes θ v = subst (λ (c : Binding). θ c.variable.0 ≡ val ns θ c.node.0) e (v.0 k w)

    pub follow_step : (s s' : Parts) (r : Bool) → Seen s b.variable.0 → Marking ns s b.node.0 s' r → Step ns B s s' (MarkPassed ns s b.variable.0 b.node.0) r
    follow_step s s' r m q =
        step_map s s' _ (MarkPassed ns s b.variable.0 b.node.0) r (λ h t. h)
        (marking_step s b.node.0 s' r (λ θ S v h g. subst (Analz S) (passes θ v) (h.variables b.variable.0 m)) q)

    pub unseen_step : (s : Parts) → (Seen s b.variable.0 → ⊥) → Step ns B s s (MarkPassed ns s b.variable.0 b.node.0) false
    unseen_step s n = (refl, λ m. absurd (n m))

    pub open_step : (s : Parts) (V : VarSet) → b.variable.0 < 64 → (Opening s b.variable.0 → ⊥) → b.node.0 < length ns → Opens s (node ns b.node.0) → ((y : ℕ) → (In y (bits V) → In y (bits s.opening) ⊎ ((y ≡ b.variable.0) × (y < 64))) × (In y (bits s.opening) ⊎ ((y ≡ b.variable.0) × (y < 64)) → In y (bits V))) → V.0 < 18446744073709551616 → Step ns B s (record { marks = s.marks; names = s.names; seals = s.seals; variables = s.variables; opening = V }) (OpenPassed ns s b.variable.0 b.node.0) true
    open_step s V n f l u w wide = (
      record {
        grows = record { marks = λ i h. h; names = λ i h. h; seals = λ i h. h; variables = λ x h. h; opening = λ x h. (w x).1 (inl h) };
        filed = λ all. all;
        sound = λ θ S v h. record {
          marks = h.marks;
          names = h.names;
          seals = h.seals;
          variables = h.variables;
          opening = λ x m. ⊎_elim (λ p. h.opening x p) (λ q. subst (Unlocks S) (sym (ap θ q.0 ∙ passes θ v)) (unlocks ns o θ S s h b.node.0 l u)) ((w x).0 m);
        };
      },
      omega (arith, subset_le (bits s.opening) (bits V) (λ x h. (w x).1 (inl h)), other),
    )
      where
        other : bits s.opening ≡ bits V → ⊥
        other q = f (subst (In b.variable.0) (sym q) ((w b.variable.0).1 (inr (refl, n))))

    pub closed_step : (s : Parts) → (b.variable.0 < 64 → b.node.0 < length ns → Opens s (node ns b.node.0) → Opening s b.variable.0) → Step ns B s s (OpenPassed ns s b.variable.0 b.node.0) false
    closed_step s h = (refl, h)

  -- one number more, upwards and downwards, where the step changed something
  pub more_changed : (s s₁ s₂ : Parts) (P Q : Type 0) (a : Bool) → Step ns B s s₁ P a → Step ns B s₁ s₂ Q true → Above ns B s s₂ × (left s₂ < left s)
  more_changed s s₁ s₂ P Q true h k = (above_on s s₁ s₂ h.0 k.0, omega (arith, h.1, k.1))
  more_changed s s₁ s₂ P Q false h k = subst (λ (z : Parts). Above ns B z s₂ × (left s₂ < left z)) h.0 k

  -- and where it did not
  pub more_same : (s s₁ s₂ : Parts) (P R : Type 0) (Q : Parts → Type 0) (a : Bool) → (P → Q s → R) → Step ns B s s₁ P a → Step ns B s₁ s₂ (Q s₁) false → Step ns B s s₂ R a
  more_same s s₁ s₂ P R Q true f h k = subst (λ (z : Parts). Above ns B s z × (left z < left s)) (sym k.0) h
  more_same s s₁ s₂ P R Q false f h k = (k.0 ∙ h.0, f h.1 (subst Q h.0 k.1))

  pub all_marked : (s s₁ s₂ : Parts) (a b : Bool) → Step ns B s s₁ (Each (MarksPassed ns B s) 0 (length B)) a → Step ns B s₁ s₂ (Each (TakenApart ns s₁) 0 (length ns)) b → Step ns B s s₂ (AllMarked ns B s) (a || b)
  all_marked s s₁ s₂ a b h k = step_both s s₁ s₂ (λ u. Each (MarksPassed ns B u) 0 (length B)) (λ u. Each (TakenApart ns u) 0 (length ns)) a b h k

  pub looked : (s s₁ s₂ : Parts) (a b : Bool) → Step ns B s s₁ (AllMarked ns B s) a → Step ns B s₁ s₂ (Each (OpensPassed ns B s₁) 0 (length B)) b → Step ns B s s₂ (Rests ns B s) (a || b)
  looked s s₁ s₂ a b h k = step_both s s₁ s₂ (λ u. AllMarked ns B u) (λ u. Each (OpensPassed ns B u) 0 (length B)) a b h k

pub each_up : (P : ℕ → Type 0) (k : ℕ) → Each P 0 k → P k → Each P 0 (k + 1)
each_up P k h p j a b = elim (dec_lt j k) [ yes l ↦ h j a l | no l ↦ subst P (omega arith) p ]

pub each_down : (P : ℕ → Type 0) (i n : ℕ) → 0 < i → Each P i n → P (i - 1) → Each P (i - 1) n
each_down P i n z h p j a b = elim (dec_lt j i) [ no l ↦ h j (omega arith) b | yes l ↦ subst P (omega arith) p ]
