-- The tables of a lawful sheet make a lawful protocol of few variables.
use Rattle.std.proofs.Common.{◌≡◌, ℕ, zero, suc, ◌<◌, List, [], ◌∷◌, map, length, get_or, Some, None, Option, sym, refl, ap, ◌∙◌, subst, ap₂, not-suc-le-zero, arith}
use mathlib.Core.Option.{some, some-injective}
use lib.ListN.{get_elem?, get_or-map}
use Rattle.terms.specs.Terms.{Term, var, pair, seal, Vars}
use Rattle.terms.specs.Nodes.{node, says, term, Below}
use Rattle.terms.specs.declared.node.Node.{Node}
use Rattle.terms.specs.declared.node.Node.TheVariants.{Name, Env, Var, Pair, Seal}
use Rattle.terms.proofs.Unfolding.{unfolds}
use Rattle.protocol.specs.declared.step.Step.{Step}
use Rattle.protocol.specs.declared.step.Step.TheVariants.{Input, Output, Open, Split, Same}
use Rattle.protocol.specs.declared.step.Action.{Action}
use Rattle.protocol.specs.declared.step.Property.{Property}
use Rattle.protocol.specs.Strands.{TermStep, first, second, variable, step_of, At, Binds, Uses, Bound}
use Rattle.protocol.specs.Lawful.{Content, Sound, IsAtom, IsVar, Apart, NodeLaw, OpenPattern, SplitPattern, StepLaw, EarlierLaw, PropertyLaw, PropertyIn}
use Rattle.lifting.proofs.Lists.{none_some}
use Rattle.lifting.proofs.Instances.{vars_at}
use Rattle.runs.specs.Protocols.{SplitsApart, WasBound, EarlierInLater, PlainKey, Plain, Written, PlainAction, Protocol, LawfulProtocol}
use Rattle.runs.specs.Sizes.{one_side, other_side, ProtocolSized}
use Rattle.runs.specs.Tables.{action_of, earlier_of, protocol_of, property_or_any, described, TablesLawful, TablesSized, DescribedLawful}
use Rattle.runs.proofs.Values.{uses_map}

-- a place of a mapped list is a place of the list
map_place : {A B : Type 0} (f : A → B) (l : List A) (i : ℕ) (q : B) → get_elem? (map f l) i ≡ some q → (p : A) × (get_elem? l i ≡ some p) × (q ≡ f p)
map_place f [] i q e = absurd (none_some q e)
map_place f (a ∷ l) zero q e = (a, refl, sym (some-injective (f a) q e))
map_place f (a ∷ l) (suc i) q e = map_place f l i q e

place_map : {A B : Type 0} (f : A → B) (l : List A) (i : ℕ) (p : A) → get_elem? l i ≡ some p → get_elem? (map f l) i ≡ some (f p)
place_map f [] i p e = absurd (none_some p e)
place_map f (a ∷ l) zero p e = ap (λ (z : _). some (f z)) (some-injective a p e)
place_map f (a ∷ l) (suc i) p e = place_map f l i p e

at_from : {A B : Type 0} (f : A → B) (ss : List (List A)) (k i : ℕ) (q : B) → At (map (map f) ss) k i q → (p : A) × At ss k i p × (q ≡ f p)
at_from {A} {B} f ss k i q a = map_place f (get_or ss k []) i q (subst (λ (l : List B). get_elem? l i ≡ some q) (get_or-map (map f) ss k []) a)

pub at_to : {A B : Type 0} (f : A → B) (ss : List (List A)) (k i : ℕ) (p : A) → At ss k i p → At (map (map f) ss) k i (f p)
at_to {A} {B} f ss k i p a = subst (λ (l : List B). get_elem? l i ≡ some (f p)) (sym (get_or-map (map f) ss k [])) (place_map f (get_or ss k []) i p a)

node_below : (C : Content) (i : ℕ) (n : Node) → NodeLaw C i n → Below i n
node_below C i (Name n) h = tt
node_below C i (Env e) h = tt
node_below C i (Var x) h = tt
node_below C i (Pair a b) h = h
node_below C i (Seal b k) h = (h.0, h.1)

abbrev Small : Term → Type 0
Small t = Vars (λ x. x < 64) t

module _ (C : Content) (law : Sound C) where
  pub unfolded : (i : ℕ) → i < length C.nodes → term C.nodes i ≡ says (term C.nodes) (node C.nodes i)
  unfolded i h = unfolds C.nodes (λ j l. node_below C j (node C.nodes j) (law.nodes_stand j l)) i h

  reads : (i : ℕ) → i < length C.nodes → (n : Node) → node C.nodes i ≡ n → term C.nodes i ≡ says (term C.nodes) n
  reads i h n e = unfolded i h ∙ ap (says (term C.nodes)) e

  key_plain : (k : ℕ) → k < length C.nodes → (n : Node) → node C.nodes k ≡ n → IsAtom n → PlainKey (term C.nodes k)
  key_plain k h (Name n) e a = subst (λ (t : Term). PlainKey t) (sym (reads k h (Name n) e)) tt
  key_plain k h (Env n) e a = absurd a
  key_plain k h (Var x) e a = subst (λ (t : Term). PlainKey t) (sym (reads k h (Var x) e)) tt
  key_plain k h (Pair b d) e a = absurd a
  key_plain k h (Seal b d) e a = absurd a

  plain_says : (i : ℕ) → i < length C.nodes → (n : Node) → NodeLaw C i n → ((j : ℕ) → j < i → Plain (term C.nodes j)) → Plain (says (term C.nodes) n)
  plain_says i l (Name n) w ih = tt
  plain_says i l (Env e) w ih = w
  plain_says i l (Var x) w ih = tt
  plain_says i l (Pair a b) w ih = (ih a.0 w.0, ih b.0 w.1)
  plain_says i l (Seal b k) w ih = let h = w.1 in (ih b.0 w.0, key_plain k.0 (omega arith) (node C.nodes k.0) refl w.2)

  plain_below : (n i : ℕ) → i < n → i < length C.nodes → Plain (term C.nodes i)
  plain_below zero i h l = absurd (not-suc-le-zero h)
  plain_below (suc n) i h l = subst (λ (t : Term). Plain t) (sym (unfolded i l)) (plain_says i l (node C.nodes i) (law.nodes_stand i l) (λ j g. plain_below n j (omega arith) (omega arith)))

  pub plain : (i : ℕ) → i < length C.nodes → Plain (term C.nodes i)
  plain i h = plain_below (suc i) i (omega arith) h

  pub small_variable : (x : ℕ) → x < length C.variables → x < 64
  small_variable x h = let few = law.few_variables in omega arith

  small_says : (i : ℕ) (n : Node) → NodeLaw C i n → ((j : ℕ) → j < i → Small (term C.nodes j)) → Small (says (term C.nodes) n)
  small_says i (Name n) w ih = tt
  small_says i (Env e) w ih = tt
  small_says i (Var x) w ih = small_variable x.0 w
  small_says i (Pair a b) w ih = (ih a.0 w.0, ih b.0 w.1)
  small_says i (Seal b k) w ih = (ih b.0 w.0, ih k.0 w.1)

  small_below : (n i : ℕ) → i < n → i < length C.nodes → Small (term C.nodes i)
  small_below zero i h l = absurd (not-suc-le-zero h)
  small_below (suc n) i h l = subst (λ (t : Term). Small t) (sym (unfolded i l)) (small_says i (node C.nodes i) (law.nodes_stand i l) (λ j g. small_below n j (omega arith) (omega arith)))

  small : (i : ℕ) → i < length C.nodes → Small (term C.nodes i)
  small i h = small_below (suc i) i (omega arith) h

  var_term : (b : ℕ) → b < length C.nodes → (n : Node) → node C.nodes b ≡ n → IsVar n → (x : ℕ) × (term C.nodes b ≡ var x)
  var_term b h (Name n) e v = absurd v
  var_term b h (Env n) e v = absurd v
  var_term b h (Var x) e v = (x.0, reads b h (Var x) e)
  var_term b h (Pair c d) e v = absurd v
  var_term b h (Seal c d) e v = absurd v

  -- an open's pattern is a variable under a seal
  pub open_term : (p : ℕ) → p < length C.nodes → (n : Node) → node C.nodes p ≡ n → OpenPattern C.nodes n → (x : ℕ) × (u : Term) × (term C.nodes p ≡ seal (var x) u)
  open_term p h (Name n) e o = absurd o
  open_term p h (Env n) e o = absurd o
  open_term p h (Var x) e o = absurd o
  open_term p h (Pair a b) e o = absurd o
  open_term p h (Seal b k) e o =
      let w : NodeLaw C p (Seal b k) = subst (λ (n : Node). NodeLaw C p n) e (law.nodes_stand p h) in
      let l = w.0 in
      let v = var_term b.0 (omega arith) (node C.nodes b.0) refl o in
      (v.0, term C.nodes k.0, reads p h (Seal b k) e ∙ ap (λ (t : Term). seal t (term C.nodes k.0)) v.1)

  apart_terms : (a b : ℕ) → a < length C.nodes → b < length C.nodes → (m n : Node) → node C.nodes a ≡ m → node C.nodes b ≡ n → Apart m n → (x : ℕ) × (y : ℕ) × (x ≡ y → ⊥) × (term C.nodes a ≡ var x) × (term C.nodes b ≡ var y)
  apart_terms a b h g (Var x) (Var y) e f d = (x.0, y.0, d, reads a h (Var x) e, reads b g (Var y) f)
  apart_terms a b h g (Var x) (Name m) e f d = absurd d
  apart_terms a b h g (Var x) (Env m) e f d = absurd d
  apart_terms a b h g (Var x) (Pair m n) e f d = absurd d
  apart_terms a b h g (Var x) (Seal m n) e f d = absurd d
  apart_terms a b h g (Name m) n e f d = absurd d
  apart_terms a b h g (Env m) n e f d = absurd d
  apart_terms a b h g (Pair c m) n e f d = absurd d
  apart_terms a b h g (Seal c m) n e f d = absurd d

  -- a split's pattern is a pair of two variables
  pub split_term : (p : ℕ) → p < length C.nodes → (n : Node) → node C.nodes p ≡ n → SplitPattern C.nodes n → (x : ℕ) × (y : ℕ) × (x ≡ y → ⊥) × (term C.nodes p ≡ pair (var x) (var y))
  split_term p h (Name n) e o = absurd o
  split_term p h (Env n) e o = absurd o
  split_term p h (Var x) e o = absurd o
  split_term p h (Seal a b) e o = absurd o
  split_term p h (Pair a b) e o =
      let w : NodeLaw C p (Pair a b) = subst (λ (n : Node). NodeLaw C p n) e (law.nodes_stand p h) in
      let l = w.0 in
      let r = w.1 in
      let v = apart_terms a.0 b.0 (omega arith) (omega arith) (node C.nodes a.0) (node C.nodes b.0) refl refl o in
      (v.0, v.1, v.2, reads p h (Pair a b) e ∙ ap₂ pair v.3 v.4)

  step_written : (p : Step) → StepLaw C p → Written (step_of C.nodes p)
  step_written (Input l x) w = tt
  step_written (Output l n) w = plain n.0 w.1
  step_written (Open s p) w =
      let e = (open_term p.0 w.1 (node C.nodes p.0) refl w.2).2 in
      (plain s.0 w.0, subst (λ (t : Term). PlainKey (second t)) (sym e) (subst (λ (t : Term). Plain t) e (plain p.0 w.1)).1)
  step_written (Split s p) w = plain s.0 w.0
  step_written (Same a b) w = (plain a.0 w.0, plain b.0 w.1)

  step_apart : (p : Step) → StepLaw C p → SplitsApart (step_of C.nodes p)
  step_apart (Input l x) w = tt
  step_apart (Output l n) w = tt
  step_apart (Open s p) w = tt
  step_apart (Split s p) w =
      let v = split_term p.0 w.1 (node C.nodes p.0) refl w.2 in
      subst (λ (t : Term). variable (first t) ≡ variable (second t) → ⊥) (sym v.3) v.2
  step_apart (Same a b) w = tt

  step_small : (p : Step) → StepLaw C p → Small (one_side (step_of C.nodes p)) × Small (other_side (step_of C.nodes p))
  step_small (Input l x) w = (small_variable x.0 w.1, small_variable x.0 w.1)
  step_small (Output l n) w = (small n.0 w.1, small n.0 w.1)
  step_small (Open s p) w =
      let e = (open_term p.0 w.1 (node C.nodes p.0) refl w.2).2 in
      (small s.0 w.0, subst (λ (t : Term). (variable (first t) < 64) × Small (second t)) (sym e) (subst (λ (t : Term). Small t) e (small p.0 w.1)))
  step_small (Split s p) w =
      let e = (split_term p.0 w.1 (node C.nodes p.0) refl w.2).3 in
      (small s.0 w.0, subst (λ (t : Term). (variable (first t) < 64) × (variable (second t) < 64)) (sym e) (subst (λ (t : Term). Small t) e (small p.0 w.1)))
  step_small (Same a b) w = (small a.0 w.0, small b.0 w.1)

  earlier_within : (o : Option Action) (b : Action) → EarlierLaw C o b → EarlierInLater (earlier_of C.nodes o) (action_of C.nodes b)
  earlier_within None b w = tt
  earlier_within (Some a) b w = w.1

  earlier_plain : (o : Option Action) (b : Action) → EarlierLaw C o b → PlainAction (earlier_of C.nodes o)
  earlier_plain None b w = tt
  earlier_plain (Some a) b w = plain a.node.0 w.0.1

  pub property_law : (p : Property) → C.property ≡ Some p → PropertyLaw C p
  property_law p e = (subst (λ (o : Option Property). PropertyIn C o) e law.property_stands).1

  lawful_tables : (p : Property) → C.property ≡ Some p → LawfulProtocol (protocol_of C p)
  lawful_tables p e =
      let f : (Step → TermStep) = step_of C.nodes in
      let back : ((k i : ℕ) (q : TermStep) → At (protocol_of C p).strands k i q → (r : Step) × At C.strands k i r × (q ≡ f r)) = λ k i q a. at_from f C.strands k i q a in
      let pl = property_law p e in
      record {
        once = λ k j i m q r x a b c d.
            let u = back k i q a in
            let v = back j m r b in
            law.bound_once k j i m u.0 v.0 x u.1 v.1 (subst (λ (z : TermStep). Binds x z) u.2 c) (subst (λ (z : TermStep). Binds x z) v.2 d);
        apart = λ k i q a. let u = back k i q a in subst (λ (z : TermStep). SplitsApart z) (sym u.2) (step_apart u.0 (law.steps_stand k i u.0 u.1));
        used = λ k i q a.
            let u = back k i q a in
            subst (λ (z : TermStep). Uses (WasBound (protocol_of C p) k i) z) (sym u.2) (uses_map (λ x b. (b.0, f b.1, b.2, at_to f C.strands k b.0 b.1 b.3, b.4)) (f u.0) (law.bound_before k i u.0 u.1));
        free = λ k i q x a b o.
            let u = back k i q a in
            vars_at (λ (y : ℕ). ¬ Bound C.nodes C.strands y) x (term C.nodes p.later.node.0) pl.2 o (k, i, u.0, u.1, subst (λ (z : TermStep). Binds x z) u.2 b);
        within = earlier_within p.earlier p.later pl.1;
        written = λ k i q a. let u = back k i q a in subst (λ (z : TermStep). Written z) (sym u.2) (step_written u.0 (law.steps_stand k i u.0 u.1));
        plain_earlier = earlier_plain p.earlier p.later pl.1;
        plain_later = plain p.later.node.0 pl.0.1;
      }

  sized_tables : (p : Property) → C.property ≡ Some p → ProtocolSized 64 (protocol_of C p)
  sized_tables p e =
      record {
        sides = λ k i q a.
            let u = at_from (step_of C.nodes) C.strands k i q a in
            subst (λ (z : TermStep). Small (one_side z) × Small (other_side z)) (sym u.2) (step_small u.0 (law.steps_stand k i u.0 u.1));
        later_small = small p.later.node.0 (property_law p e).0.1;
      }

pub tables_lawful : TablesLawful
tables_lawful C p law e = lawful_tables C law.sound p e

pub tables_sized : TablesSized
tables_sized C p law e = sized_tables C law.sound p e

-- tables with a property describe the protocol with that property
pub described_is : (C : Content) (p : Property) → C.property ≡ Some p → described C ≡ protocol_of C p
described_is C p e = ap (λ (o : Option Property). protocol_of C (property_or_any o)) e

pub described_lawful : DescribedLawful
described_lawful C law =
    let h = law.has_property in
    subst (λ (S : Protocol). LawfulProtocol S) (sym (described_is C h.0 h.1)) (tables_lawful C h.0 law h.1)
