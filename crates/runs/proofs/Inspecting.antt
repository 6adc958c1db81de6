-- The law of tables is decided, place by place.
use Rattle.std.proofs.Common.{◌≡◌, ℕ, zero, suc, ◌<◌, ◌≤◌, List, [], ◌∷◌, length, get_or, Some, None, Option, sym, refl, subst, not-suc-le-zero, lt-suc_self, arith}
use mathlib.Core.Option.{some, some-injective}
use mathlib.Core.Logic.{∥∥₁_elim}
use mathlib.Core.HLevel.{⊥_prop}
use native.Mathlib.Decide.{ℕ_discrete, dec_lt, dec_le}
use lib.ListN.{get_elem?, get_or-eq_default}
use Rattle.std.specs.List.{AllByRecursion}
use Rattle.terms.specs.Terms.{Occurs}
use Rattle.terms.specs.Nodes.{node, term}
use Rattle.terms.specs.declared.node.Node.{Node}
use Rattle.terms.specs.declared.node.Node.TheVariants.{Name, Env, Var, Pair, Seal}
use Rattle.protocol.specs.declared.step.Step.{Step}
use Rattle.protocol.specs.declared.step.Step.TheVariants.{Input, Output, Open, Split, Same}
use Rattle.protocol.specs.declared.step.Action.{Action}
use Rattle.protocol.specs.declared.step.Property.{Property}
use Rattle.protocol.specs.Strands.{TermStep, step_of, At, Binds, Uses, BoundBefore, Bound}
use Rattle.protocol.specs.Lawful.{Content, Text, IsAtom, IsVar, Apart, NodeLaw, OpenPattern, SplitPattern, StepLaw, ActionLaw, EarlierLaw, PropertyLaw, PropertyIn, Sound, Lawful}
use Rattle.lifting.proofs.Lists.{none_some}
use Rattle.runs.specs.Law.{LawDecided, LawTold}
use Rattle.runs.proofs.Decisions.{by_iff, both?, not?, implies?, three?, one?, held, occurs?, binds?, vars?, uses?, all_bound?}

pub all_more : (P : ℕ → Type 0) (n : ℕ) → P n → ((k : ℕ) → k < n → P k) → (k : ℕ) → k < suc n → P k
all_more P n p r k h = elim (ℕ_discrete k n) [ yes e ↦ subst P (sym e) p | no f ↦ r k (omega arith) ]

-- every number below n
abbrev all_below? : (P : ℕ → Type 0) → ((k : ℕ) → Dec (P k)) → (n : ℕ) → Dec ((k : ℕ) → k < n → P k)
all_below? P d zero = yes (λ k h. absurd (not-suc-le-zero h))
all_below? P d (suc n) = by_iff (λ b. all_more P n b.0 b.1) (λ s. (s n (lt-suc_self n), λ k h. s k (omega arith))) (both? (d n) (all_below? P d n))

-- some member of the list has P at its place
abbrev SomePlace : {A : Type 0} → List A → (ℕ → A → Type 0) → Type 0
SomePlace {A} l P = (i : ℕ) × (a : A) × (get_elem? l i ≡ some a) × P i a

pub no_place : {A : Type 0} (x : A) (l : List A) (P : ℕ → A → Type 0) → ¬ P 0 x → ¬ SomePlace l (λ i a. P (suc i) a) → (i : ℕ) (a : A) → get_elem? (x ∷ l) i ≡ some a → P i a → ⊥
no_place {A} x l P q r zero a e p = q (subst (λ (z : A). P 0 z) (sym (some-injective x a e)) p)
no_place x l P q r (suc i) a e p = r (i, a, e, p)

abbrev some_place? : {A : Type 0} (l : List A) (P : ℕ → A → Type 0) → ((i : ℕ) (a : A) → Dec (P i a)) → Dec (SomePlace l P)
some_place? [] P d = no (λ s. none_some s.1 s.2)
some_place? (x ∷ l) P d = one? (λ p. (0, x, refl, p)) (λ r. (suc r.0, r.1, r.2, r.3)) (λ q r s. no_place x l P q r s.0 s.1 s.2 s.3) (d 0 x) (some_place? l (λ i a. P (suc i) a) (λ i a. d (suc i) a))

-- some member of some list has P at its place
abbrev SomeAt : {A : Type 0} → List (List A) → (ℕ → ℕ → A → Type 0) → Type 0
SomeAt {A} ss P = (k : ℕ) × (i : ℕ) × (a : A) × At ss k i a × P k i a

pub nowhere_at : {A : Type 0} (l : List A) (ss : List (List A)) (P : ℕ → ℕ → A → Type 0) → ¬ SomePlace l (λ i a. P 0 i a) → ¬ SomeAt ss (λ k i a. P (suc k) i a) → (k i : ℕ) (a : A) → At (l ∷ ss) k i a → P k i a → ⊥
nowhere_at l ss P q r zero i a e p = q (i, a, e, p)
nowhere_at l ss P q r (suc k) i a e p = r (k, i, a, e, p)

abbrev some_at? : {A : Type 0} (ss : List (List A)) (P : ℕ → ℕ → A → Type 0) → ((k i : ℕ) (a : A) → Dec (P k i a)) → Dec (SomeAt ss P)
some_at? [] P d = no (λ s. none_some s.2 s.3)
some_at? (l ∷ ss) P d = one? (λ s. (0, s.0, s.1, s.2, s.3)) (λ r. (suc r.0, r.1, r.2, r.3, r.4)) (λ q r s. nowhere_at l ss P q r s.0 s.1 s.2 s.3 s.4) (some_place? l (λ i a. P 0 i a) (λ i a. d 0 i a)) (some_at? ss (λ k i a. P (suc k) i a) (λ k i a. d (suc k) i a))

-- every member of every list has P at its place
abbrev all_at? : {A : Type 0} (ss : List (List A)) (P : ℕ → ℕ → A → Type 0) → ((k i : ℕ) (a : A) → Dec (P k i a)) → Dec ((k i : ℕ) (a : A) → At ss k i a → P k i a)
all_at? ss P d = by_iff (λ n k i a e. held (d k i a) (λ q. n (k, i, a, e, q))) (λ h s. s.4 (h s.0 s.1 s.2 s.3)) (not? (some_at? ss (λ k i a. ¬ P k i a) (λ k i a. not? (d k i a))))

abbrev all? : {A : Type 0} (P : A → Type 0) → ((a : A) → Dec (P a)) → (l : List A) → Dec (AllByRecursion P l)
all? P d [] = yes tt
all? P d (x ∷ l) = both? (d x) (all? P d l)

abbrev text? : (t : List ℕ) → Dec (Text t)
text? t = three? (dec_le 1 (length t)) (dec_le (length t) 16) (all? (λ b. (33 ≤ b) × (b ≤ 126)) (λ b. both? (dec_le 33 b) (dec_le b 126)) t)

abbrev atom? : (n : Node) → Dec (IsAtom n)
atom? (Name n) = yes tt
atom? (Env e) = no (λ z. z)
atom? (Var x) = yes tt
atom? (Pair a b) = no (λ z. z)
atom? (Seal b k) = no (λ z. z)

abbrev var? : (n : Node) → Dec (IsVar n)
var? (Name n) = no (λ z. z)
var? (Env e) = no (λ z. z)
var? (Var x) = yes tt
var? (Pair a b) = no (λ z. z)
var? (Seal b k) = no (λ z. z)

abbrev apart? : (m n : Node) → Dec (Apart m n)
apart? (Var x) (Var y) = not? (ℕ_discrete x.0 y.0)
apart? (Var x) (Name m) = no (λ z. z)
apart? (Var x) (Env m) = no (λ z. z)
apart? (Var x) (Pair c d) = no (λ z. z)
apart? (Var x) (Seal c d) = no (λ z. z)
apart? (Name n) m = no (λ z. z)
apart? (Env e) m = no (λ z. z)
apart? (Pair a b) m = no (λ z. z)
apart? (Seal a b) m = no (λ z. z)

abbrev open_pattern? : (ns : List Node) (n : Node) → Dec (OpenPattern ns n)
open_pattern? ns (Name n) = no (λ z. z)
open_pattern? ns (Env e) = no (λ z. z)
open_pattern? ns (Var x) = no (λ z. z)
open_pattern? ns (Pair a b) = no (λ z. z)
open_pattern? ns (Seal b k) = var? (node ns b.0)

abbrev split_pattern? : (ns : List Node) (n : Node) → Dec (SplitPattern ns n)
split_pattern? ns (Name n) = no (λ z. z)
split_pattern? ns (Env e) = no (λ z. z)
split_pattern? ns (Var x) = no (λ z. z)
split_pattern? ns (Pair a b) = apart? (node ns a.0) (node ns b.0)
split_pattern? ns (Seal b k) = no (λ z. z)

abbrev bound_before? : (ns : List Node) (ss : List (List Step)) (k i x : ℕ) → Dec (BoundBefore ns ss k i x)
bound_before? ns ss k i x =
    by_iff (λ s. (s.0, s.1, s.3.0, s.2, s.3.1)) (λ s. (s.0, s.1, s.3, (s.2, s.4))) (some_place? (get_or ss k []) (λ m p. (m < i) × Binds x (step_of ns p)) (λ m p. both? (dec_lt m i) (binds? x (step_of ns p))))

abbrev bound? : (ns : List Node) (ss : List (List Step)) (x : ℕ) → Dec (Bound ns ss x)
bound? ns ss x = some_at? ss (λ k i p. Binds x (step_of ns p)) (λ k i p. binds? x (step_of ns p))

-- two steps bind no variable twice, or are one
abbrev once? : (k j i m : ℕ) (p q : TermStep) → Dec ((x : ℕ) → Binds x p → Binds x q → (k ≡ j) × (i ≡ m))
once? k j i m p q = all_bound? p (λ x. Binds x q → (k ≡ j) × (i ≡ m)) (λ x. implies? (binds? x q) (both? (ℕ_discrete k j) (ℕ_discrete i m)))

module _ (C : Content) where
  abbrev node_law? : (i : ℕ) (n : Node) → Dec (NodeLaw C i n)
  node_law? i (Name n) = dec_lt n.0 (length C.names)
  node_law? i (Env e) = no (λ z. z)
  node_law? i (Var x) = dec_lt x.0 (length C.variables)
  node_law? i (Pair a b) = both? (dec_lt a.0 i) (dec_lt b.0 i)
  node_law? i (Seal b k) = three? (dec_lt b.0 i) (dec_lt k.0 i) (atom? (node C.nodes k.0))

  abbrev step_law? : (p : Step) → Dec (StepLaw C p)
  step_law? (Input l x) = both? (dec_lt l.0 (length C.labels)) (dec_lt x.0 (length C.variables))
  step_law? (Output l n) = both? (dec_lt l.0 (length C.labels)) (dec_lt n.0 (length C.nodes))
  step_law? (Open s p) = three? (dec_lt s.0 (length C.nodes)) (dec_lt p.0 (length C.nodes)) (open_pattern? C.nodes (node C.nodes p.0))
  step_law? (Split s p) = three? (dec_lt s.0 (length C.nodes)) (dec_lt p.0 (length C.nodes)) (split_pattern? C.nodes (node C.nodes p.0))
  step_law? (Same a b) = both? (dec_lt a.0 (length C.nodes)) (dec_lt b.0 (length C.nodes))

  abbrev action_law? : (a : Action) → Dec (ActionLaw C a)
  action_law? a = both? (dec_lt a.label.0 (length C.labels)) (dec_lt a.node.0 (length C.nodes))

  abbrev earlier_law? : (o : Option Action) (b : Action) → Dec (EarlierLaw C o b)
  earlier_law? None b = yes tt
  earlier_law? (Some a) b = both? (action_law? a) (vars? (λ x. Occurs x (term C.nodes b.node.0)) (λ x. occurs? x (term C.nodes b.node.0)) (term C.nodes a.node.0))

  abbrev property_law? : (p : Property) → Dec (PropertyLaw C p)
  property_law? p =
      three?
      (action_law? p.later)
      (earlier_law? p.earlier p.later)
      (vars? (λ x. ¬ Bound C.nodes C.strands x) (λ x. not? (bound? C.nodes C.strands x)) (term C.nodes p.later.node.0))

  abbrev property_in? : (o : Option Property) → Dec (PropertyIn C o)
  property_in? None = yes tt
  property_in? (Some p) = both? (dec_le 1 (length C.strands)) (property_law? p)

  -- a strand that is not there has no steps
  pub few_beyond : ((k : ℕ) → k < length C.strands → length (get_or C.strands k []) ≤ 16) → (k : ℕ) → length (get_or C.strands k []) ≤ 16
  few_beyond h k = elim (dec_lt k (length C.strands)) [ yes l ↦ h k l | no n ↦ subst (λ (l : List Step). length l ≤ 16) (sym (get_or-eq_default C.strands [] (omega arith))) (omega arith) ]

  abbrev few_steps? : Dec ((k : ℕ) → length (get_or C.strands k []) ≤ 16)
  few_steps? = by_iff (λ h k. few_beyond h k) (λ h k l. h k) (all_below? (λ k. length (get_or C.strands k []) ≤ 16) (λ k. dec_le (length (get_or C.strands k [])) 16) (length C.strands))

  abbrev nodes_stand? : Dec ((i : ℕ) → i < length C.nodes → NodeLaw C i (node C.nodes i))
  nodes_stand? = all_below? (λ i. NodeLaw C i (node C.nodes i)) (λ i. node_law? i (node C.nodes i)) (length C.nodes)

  -- bound once, strand by strand and place by place
  abbrev Once : Type 0
  Once = (k i : ℕ) (p : Step) → At C.strands k i p → (j m : ℕ) (q : Step) → At C.strands j m q → (x : ℕ) → Binds x (step_of C.nodes p) → Binds x (step_of C.nodes q) → (k ≡ j) × (i ≡ m)

  abbrev bound_once? : Dec Once
  bound_once? =
      all_at? C.strands
      (λ k i p. (j m : ℕ) (q : Step) → At C.strands j m q → (x : ℕ) → Binds x (step_of C.nodes p) → Binds x (step_of C.nodes q) → (k ≡ j) × (i ≡ m))
      (λ k i p. all_at? C.strands
      (λ j m q. (x : ℕ) → Binds x (step_of C.nodes p) → Binds x (step_of C.nodes q) → (k ≡ j) × (i ≡ m))
      (λ j m q. once? k j i m (step_of C.nodes p) (step_of C.nodes q)))

  abbrev steps_stand? : Dec ((k i : ℕ) (p : Step) → At C.strands k i p → StepLaw C p)
  steps_stand? = all_at? C.strands (λ k i p. StepLaw C p) (λ k i p. step_law? p)

  abbrev bound_before_all? : Dec ((k i : ℕ) (p : Step) → At C.strands k i p → Uses (BoundBefore C.nodes C.strands k i) (step_of C.nodes p))
  bound_before_all? = all_at? C.strands (λ k i p. Uses (BoundBefore C.nodes C.strands k i) (step_of C.nodes p)) (λ k i p. uses? (BoundBefore C.nodes C.strands k i) (bound_before? C.nodes C.strands k i) (step_of C.nodes p))

  -- the limits
  abbrev Few : Type 0
  Few = (length C.labels ≤ 32) × ((length C.names ≤ 64) × ((length C.variables ≤ 64) × ((length C.nodes ≤ 256) × ((length C.strands ≤ 8) × ((k : ℕ) → length (get_or C.strands k []) ≤ 16)))))

  abbrev few? : Dec Few
  few? = both? (dec_le (length C.labels) 32) (both? (dec_le (length C.names) 64) (both? (dec_le (length C.variables) 64) (both? (dec_le (length C.nodes) 256) (both? (dec_le (length C.strands) 8) few_steps?))))

  abbrev Texts : Type 0
  Texts = AllByRecursion Text C.labels × (AllByRecursion Text C.names × AllByRecursion Text C.variables)

  abbrev texts? : Dec Texts
  texts? = both? (all? Text text? C.labels) (both? (all? Text text? C.names) (all? Text text? C.variables))

  -- what the nodes, the steps and the property keep
  abbrev Kept : Type 0
  Kept =
      ((i : ℕ) → i < length C.nodes → NodeLaw C i (node C.nodes i))
      × (((k i : ℕ) (p : Step) → At C.strands k i p → StepLaw C p)
      × (Once
      × (((k i : ℕ) (p : Step) → At C.strands k i p → Uses (BoundBefore C.nodes C.strands k i) (step_of C.nodes p))
      × PropertyIn C C.property)))

  abbrev kept? : Dec Kept
  kept? = both? nodes_stand? (both? steps_stand? (both? bound_once? (both? bound_before_all? (property_in? C.property))))

  pub sound_from : Few → Texts → Kept → Sound C
  sound_from f t h =
      record {
        few_labels = f.0;
        few_names = f.1.0;
        few_variables = f.1.1.0;
        few_nodes = f.1.1.1.0;
        few_strands = f.1.1.1.1.0;
        few_steps = f.1.1.1.1.1;
        label_texts = t.0;
        name_texts = t.1.0;
        variable_texts = t.1.1;
        nodes_stand = h.0;
        steps_stand = h.1.0;
        bound_once = λ k j i m p q x a b c d. h.1.1.0 k i p a j m q b x c d;
        bound_before = h.1.1.1.0;
        property_stands = h.1.1.1.1;
      }

  pub few_of : Sound C → Few
  few_of s = (s.few_labels, (s.few_names, (s.few_variables, (s.few_nodes, (s.few_strands, s.few_steps)))))

  pub texts_of : Sound C → Texts
  texts_of s = (s.label_texts, (s.name_texts, s.variable_texts))

  pub kept_of : Sound C → Kept
  kept_of s = (s.nodes_stand, (s.steps_stand, ((λ k i p a j m q b x c d. s.bound_once k j i m p q x a b c d), (s.bound_before, s.property_stands))))

  abbrev sound? : Dec (Sound C)
  sound? = by_iff (λ h. sound_from h.0 h.1 h.2) (λ s. (few_of s, texts_of s, kept_of s)) (three? few? texts? kept?)

  pub no_property : (p : Property) → ◌≡◌ {A = Option Property} None (Some p) → ⊥
  no_property p e = grind arith

  abbrev has_property? : (o : Option Property) → Dec ((p : Property) × (o ≡ Some p))
  has_property? None = no (λ s. no_property s.0 s.1)
  has_property? (Some p) = yes (p, refl)

  abbrev pub lawful? : Dec (Lawful C)
  lawful? = by_iff (λ h. record { sound = h.0; has_property = h.1 }) (λ l. (l.sound, l.has_property)) (both? sound? (has_property? C.property))

pub law_decided : LawDecided
law_decided C = lawful? C

pub law_told : LawTold
law_told C h = elim (lawful? C) [ yes l ↦ l | no n ↦ absurd (∥∥₁_elim h ⊥_prop n) ]
