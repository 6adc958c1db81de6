-- One entry more: what is sound stays sound, and the entries are one more.
use Rattle.std.proofs.Common.{◌≡◌, ℕ, ◌<◌, ◌≤◌, ◌⊎◌, List, [], ◌∷◌, ◌++◌, length, get_or, Some, None, Option, refl, sym, ap, ◌∙◌, subst, inl, inr, arith}
use native.Mathlib.Decide.{dec_lt}
use Rattle.std.specs.List.{AllByRecursion}
use Rattle.std.proofs.lemmas.List.{length_push, length-set, get_or_append_left, get_or_push}
use Rattle.std.proofs.ByRecursion.{All-push}
use Rattle.terms.specs.Terms.{Term, Vars}
use Rattle.terms.specs.Nodes.{node, no_node}
use Rattle.terms.specs.declared.node.Node.{Node}
use Rattle.terms.specs.declared.node.Node.TheVariants.{Name, Env, Var, Pair, Seal}
use Rattle.terms.proofs.Bitsets.{vars_from, vars_at}
use Rattle.protocol.specs.declared.step.Action.{Action}
use Rattle.protocol.specs.declared.step.Property.{Property}
use Rattle.protocol.specs.declared.step.Step.{Step}
use Rattle.protocol.specs.declared.step.Step.TheVariants.{Input, Output, Open, Split, Same}
use Rattle.protocol.specs.Strands.{TermStep, input, output, opens, splits, same, At, Binds, Uses, BoundBefore, Bound, step_of}
use Rattle.protocol.specs.Lawful.{Content, Text, NodeLaw, StepLaw, EarlierLaw, PropertyLaw, PropertyIn, Sound}
use Rattle.entries.specs.declared.fault.Rule.TheVariants as r
use Rattle.entries.specs.Format as f
use Rattle.entries.specs.Format.{Entry, entries}
use Rattle.entries.specs.Rules.{InOrder, KeepsBelow, latest, latest_steps}
use Rattle.entries.specs.Growth.{with_label, with_name, with_variable, with_node, with_strand, with_step, with_property, Adds, nothing}
use Rattle.entries.proofs.Coding.{node_entry_one, step_entry_one, property_entry_one}
use Rattle.entries.proofs.Places.{at_none, longer, at_keeps, at_more, longer_lengths, empty_more}
use Rattle.entries.proofs.Listing.{label_entries, name_entries, variable_entries, node_entries, strand_entries_more, step_entries, property_entries_more}

-- no property has come, so none is wrong
no_property_in : (C : Content) → C.property ≡ None → PropertyIn C C.property
no_property_in C e = subst (λ (o : Option Property). PropertyIn C o) (sym e) tt

-- content with no strand yet is sound where its texts and nodes are
module _ (C : Content) (no-strands : C.strands ≡ []) (no_property : C.property ≡ None) where
  early : length C.labels ≤ 32 → length C.names ≤ 64 → length C.variables ≤ 64 → length C.nodes ≤ 256 → AllByRecursion Text C.labels → AllByRecursion Text C.names → AllByRecursion Text C.variables → ((i : ℕ) → i < length C.nodes → NodeLaw C i (node C.nodes i)) → Sound C
  early l n v m tl tn tv stand = record {
    few_labels = l;
    few_names = n;
    few_variables = v;
    few_nodes = m;
    few_strands = omega (arith, ap length no-strands);
    few_steps = λ k. omega (arith, ap (λ (ss : List (List Step)). length (get_or ss k [])) no-strands);
    label_texts = tl;
    name_texts = tn;
    variable_texts = tv;
    nodes_stand = stand;
    steps_stand = λ k i p a. absurd (at_none _ k i p no-strands a);
    bound_once = λ k j i m p q x a b c d. absurd (at_none _ k i p no-strands a);
    bound_before = λ k i p a. absurd (at_none _ k i p no-strands a);
    property_stands = no_property_in C no_property;
  }

pub sound_nothing : Sound nothing
sound_nothing = early nothing refl refl (omega arith) (omega arith) (omega arith) (omega arith) tt tt tt (λ i h. absurd (omega (arith, h)))

-- in no nodes each stands
no_nodes : (C : Content) → C.nodes ≡ [] → (i : ℕ) → i < length C.nodes → NodeLaw C i (node C.nodes i)
no_nodes C e i h = absurd (omega (arith, ap length e))

-- one label more, one name more, one variable more
label_sound : (C : Content) (t : List ℕ) → Sound C → InOrder C (f.label t) → length C.labels < 32 → Text t → Sound (with_label C t)
label_sound C t s o room good =
    early (with_label C t) o.3 o.4 (omega (arith, length_push C.labels t)) s.few_names s.few_variables s.few_nodes (All-push Text C.labels t s.label_texts good) s.name_texts s.variable_texts (no_nodes (with_label C t) o.2)

name_sound : (C : Content) (t : List ℕ) → Sound C → InOrder C (f.name t) → length C.names < 64 → Text t → Sound (with_name C t)
name_sound C t s o room good =
    early (with_name C t) o.2 o.3 s.few_labels (omega (arith, length_push C.names t)) s.few_variables s.few_nodes s.label_texts (All-push Text C.names t s.name_texts good) s.variable_texts (no_nodes (with_name C t) o.1)

variable_sound : (C : Content) (t : List ℕ) → Sound C → InOrder C (f.variable t) → length C.variables < 64 → Text t → Sound (with_variable C t)
variable_sound C t s o room good =
    early (with_variable C t) o.1 o.2 s.few_labels s.few_names (omega (arith, length_push C.variables t)) s.few_nodes s.label_texts s.name_texts (All-push Text C.variables t s.variable_texts good) (no_nodes (with_variable C t) o.0)

-- a node that stands at a number of the table stands there with one node more
node_law_more : (C : Content) (n : Node) (i : ℕ) (m : Node) → i ≤ length C.nodes → NodeLaw C i m → NodeLaw (with_node C n) i m
node_law_more C n i (Name a) h l = l
node_law_more C n i (Env a) h l = l
node_law_more C n i (Var a) h l = l
node_law_more C n i (Pair a b) h l = l
node_law_more C n i (Seal b k) h l = (l.0, l.1, rw (get_or_append_left C.nodes (n ∷ []) no_node k.0 (omega arith)) l.2)

-- one node more
node_sound : (C : Content) (n : Node) → Sound C → C.strands ≡ [] → C.property ≡ None → length C.nodes < 256 → NodeLaw C (length C.nodes) n → Sound (with_node C n)
node_sound C n s p q room law =
    early (with_node C n) p q s.few_labels s.few_names s.few_variables (omega (arith, length_push C.nodes n)) s.label_texts s.name_texts s.variable_texts stand
  where
    stand : (i : ℕ) → i < length (C.nodes ++ (n ∷ [])) → NodeLaw (with_node C n) i (node (C.nodes ++ (n ∷ [])) i)
    stand i h =
        elim (dec_lt i (length C.nodes)) [
          | yes l ↦ rw (get_or_append_left C.nodes (n ∷ []) no_node i l) (node_law_more C n i (node C.nodes i) (omega arith) (s.nodes_stand i l))
          | no l ↦
              let e : length C.nodes ≡ i = omega (arith, length_push C.nodes n) in
              rw (get_or_push C.nodes n no_node i e) (node_law_more C n i n (omega arith) (subst (λ (j : ℕ). NodeLaw C j n) e law))
        ]

-- what holds of every variable of a term may be weakened
vars_weaker : (P Q : ℕ → Type 0) (t : Term) → ((x : ℕ) → P x → Q x) → Vars P t → Vars Q t
vars_weaker P Q t h v = vars_from Q t (λ x o. h x (vars_at P t v x o))

-- and so of every variable that a step uses
uses_weaker : (P Q : ℕ → Type 0) (t : TermStep) → ((x : ℕ) → P x → Q x) → Uses P t → Uses Q t
uses_weaker P Q (input l y) h u = u
uses_weaker P Q (output l t) h u = vars_weaker P Q t h u
uses_weaker P Q (opens t y k) h u = (vars_weaker P Q t h u.0, vars_weaker P Q k h u.1)
uses_weaker P Q (splits t y z) h u = vars_weaker P Q t h u
uses_weaker P Q (same t v) h u = (vars_weaker P Q t h u.0, vars_weaker P Q v h u.1)

-- what a strand's earlier steps bind stays bound where the steps stay
uses_more : (ns : List Node) (ss ts : List (List Step)) (k i : ℕ) (t : TermStep) → ((m : ℕ) (p : Step) → At ss k m p → At ts k m p) → Uses (BoundBefore ns ss k i) t → Uses (BoundBefore ns ts k i) t
uses_more ns ss ts k i t h u =
    uses_weaker (BoundBefore ns ss k i) (BoundBefore ns ts k i) t (λ x b. (b.0, b.1, b.2, h b.0 b.1 b.3, b.4)) u

-- the content with other strands and another property
abbrev later : Content → List (List Step) → Option Property → Content
later C ss o = record { labels = C.labels; names = C.names; variables = C.variables; nodes = C.nodes; strands = ss; property = o }

-- no law of a node, a step or an earlier action speaks of strands or property
node_law_later : (C : Content) (ss : List (List Step)) (o : Option Property) (i : ℕ) (n : Node) → NodeLaw C i n → NodeLaw (later C ss o) i n
node_law_later C ss o i (Name a) l = l
node_law_later C ss o i (Env a) l = l
node_law_later C ss o i (Var a) l = l
node_law_later C ss o i (Pair a b) l = l
node_law_later C ss o i (Seal b k) l = l

step_law_later : (C : Content) (ss : List (List Step)) (o : Option Property) (p : Step) → StepLaw C p → StepLaw (later C ss o) p
step_law_later C ss o (Input a x) l = l
step_law_later C ss o (Output a n) l = l
step_law_later C ss o (Open a p) l = l
step_law_later C ss o (Split a p) l = l
step_law_later C ss o (Same a b) l = l

earlier_law_later : (C : Content) (ss : List (List Step)) (o : Option Property) (a : Option Action) (b : Action) → EarlierLaw C a b → EarlierLaw (later C ss o) a b
earlier_law_later C ss o None b l = l
earlier_law_later C ss o (Some a) b l = l

-- such content is sound where its strands and its property are
late : (C : Content) (ss : List (List Step)) (o : Option Property) → Sound C → length ss ≤ 8 → ((k : ℕ) → length (get_or ss k []) ≤ 16)
    → ((k i : ℕ) (p : Step) → At ss k i p → StepLaw C p)
    → ((k j i m : ℕ) (p q : Step) (x : ℕ) → At ss k i p → At ss j m q → Binds x (step_of C.nodes p) → Binds x (step_of C.nodes q) → (k ≡ j) × (i ≡ m))
    → ((k i : ℕ) (p : Step) → At ss k i p → Uses (BoundBefore C.nodes ss k i) (step_of C.nodes p))
    → PropertyIn (later C ss o) o
    → Sound (later C ss o)
late C ss o s few steps laws once before law = record {
  few_labels = s.few_labels;
  few_names = s.few_names;
  few_variables = s.few_variables;
  few_nodes = s.few_nodes;
  few_strands = few;
  few_steps = steps;
  label_texts = s.label_texts;
  name_texts = s.name_texts;
  variable_texts = s.variable_texts;
  nodes_stand = λ i h. node_law_later C ss o i (node C.nodes i) (s.nodes_stand i h);
  steps_stand = λ k i p a. step_law_later C ss o p (laws k i p a);
  bound_once = once;
  bound_before = before;
  property_stands = law;
}

-- one property
property_sound : (C : Content) (t : Property) → Sound C → 1 ≤ length C.strands → PropertyLaw C t → Sound (with_property C t)
property_sound C t s h l =
    late C C.strands (Some t) s s.few_strands s.few_steps s.steps_stand s.bound_once s.bound_before
    (h, (l.0, earlier_law_later C C.strands (Some t) t.earlier t.later l.1, l.2))

-- one strand more
strand_sound : (C : Content) → Sound C → C.property ≡ None → length C.strands < 8 → Sound (with_strand C)
strand_sound C s q room =
    late C (C.strands ++ ([] ∷ [])) C.property s
    (omega (arith, length_push C.strands []))
    (λ k. rw (empty_more C.strands k) (s.few_steps k))
    (λ k i p a. s.steps_stand k i p (old k i p a))
    (λ k j i m p q x a b c d. s.bound_once k j i m p q x (old k i p a) (old j m q b) c d)
    (λ k i p a. uses_more C.nodes C.strands (C.strands ++ ([] ∷ [])) k i (step_of C.nodes p) (λ m q b. rw (empty_more C.strands k) b) (s.bound_before k i p (old k i p a)))
    (no_property_in (with_strand C) q)
  where
    old : (k i : ℕ) (p : Step) → At (C.strands ++ ([] ∷ [])) k i p → At C.strands k i p
    old k i p a = rw (empty_more C.strands k) at a

-- one step more, which is the first to bind its variables and uses only those that its strand has bound
step_sound : (C : Content) (p : Step) → Sound C → 1 ≤ length C.strands → C.property ≡ None → length (latest_steps C) < 16 → StepLaw C p
    → ((x : ℕ) → Binds x (step_of C.nodes p) → ¬ Bound C.nodes C.strands x)
    → Uses (BoundBefore C.nodes C.strands (latest C) (length (latest_steps C))) (step_of C.nodes p)
    → Sound (with_step C p)
step_sound C p s some-strand q room law fresh uses =
    late C (longer C.strands (latest C) p) C.property s
    (omega (arith, length-set C.strands (latest C) (latest_steps C ++ (p ∷ [])), s.few_strands))
    (longer_lengths C.strands (latest C) p inside 16 s.few_steps room)
    laws once before
    (no_property_in (with_step C p) q)
  where
    inside : latest C < length C.strands
    inside = omega arith

    cases : (k i : ℕ) (r : Step) → At (longer C.strands (latest C) p) k i r → At C.strands k i r ⊎ ((k ≡ latest C) × (i ≡ length (latest_steps C)) × (r ≡ p))
    cases k i r a = at_more C.strands (latest C) p inside k i r a

    laws : (k i : ℕ) (r : Step) → At (longer C.strands (latest C) p) k i r → StepLaw C r
    laws k i r a = elim (cases k i r a) [ inl o ↦ s.steps_stand k i r o | inr h ↦ rw h.2 law ]

    clash : (k i : ℕ) (r o : Step) (x : ℕ) → At C.strands k i r → o ≡ p → Binds x (step_of C.nodes r) → Binds x (step_of C.nodes o) → ⊥
    clash k i r o x a e b c = fresh x (rw e at c) (k, i, r, a, b)

    once : (k j i m : ℕ) (r o : Step) (x : ℕ) → At (longer C.strands (latest C) p) k i r → At (longer C.strands (latest C) p) j m o → Binds x (step_of C.nodes r) → Binds x (step_of C.nodes o) → (k ≡ j) × (i ≡ m)
    once k j i m r o x a b c d =
        elim (cases k i r a) [
          | inl a' ↦ elim (cases j m o b) [
            | inl b' ↦ s.bound_once k j i m r o x a' b' c d
            | inr h ↦ absurd (clash k i r o x a' h.2 c d)
          ]
          | inr g ↦ elim (cases j m o b) [
            | inl b' ↦ absurd (clash j m o r x b' g.2 d c)
            | inr h ↦ (g.0 ∙ sym h.0, g.1 ∙ sym h.1)
          ]
        ]

    before : (k i : ℕ) (r : Step) → At (longer C.strands (latest C) p) k i r → Uses (BoundBefore C.nodes (longer C.strands (latest C) p) k i) (step_of C.nodes r)
    before k i r a =
        uses_more C.nodes C.strands (longer C.strands (latest C) p) k i (step_of C.nodes r) (λ m o b. at_keeps C.strands (latest C) p inside k m o b)
        (elim (cases k i r a) [
          | inl o ↦ s.bound_before k i r o
          | inr h ↦ rw (h.0, h.1, h.2) uses
        ])

-- an entry that keeps the rules leaves the content sound
pub grow_sound : (C : Content) (e : Entry) (D : Content) → Sound C → KeepsBelow 9 C e → Adds C e D → Sound D
grow_sound C (f.label t) D s h a = rw a (label_sound C t s (h r.Kind (omega arith)) (h r.Limit (omega arith)) (h r.Text (omega arith)))
grow_sound C (f.name t) D s h a = rw a (name_sound C t s (h r.Kind (omega arith)) (h r.Limit (omega arith)) (h r.Text (omega arith)))
grow_sound C (f.variable t) D s h a = rw a (variable_sound C t s (h r.Kind (omega arith)) (h r.Limit (omega arith)) (h r.Text (omega arith)))
grow_sound C (f.node k a b) D s h (n, e, d) =
    let o = h r.Kind (omega arith) in
    let g = h r.Node (omega arith) in
    rw d (node_sound C n s o.0 o.1 (h r.Limit (omega arith)) (rw (node_entry_one n g.0 (e ∙ sym g.1)) g.2))
grow_sound C f.strand D s h a = rw a (strand_sound C s (h r.Kind (omega arith)) (h r.Limit (omega arith)))
grow_sound C (f.step k a b) D s h (p, e, d) =
    let o = h r.Kind (omega arith) in
    let g = h r.Step (omega arith) in
    let v = h r.Variable (omega arith) p e in
    rw d (step_sound C p s o.0 o.1 (h r.Limit (omega arith)) (rw (step_entry_one p g.0 (e ∙ sym g.1)) g.2) v.0 v.1)
grow_sound C (f.property u v w x y z) D s h (t, e, d) =
    let g = h r.Property (omega arith) in
    rw d (property_sound C t s (h r.Kind (omega arith)).0 (rw (property_entry_one t g.0 (e ∙ sym g.1)) g.2))

same_last : (C : Content) (d e : Entry) → d ≡ e → entries C ++ (d ∷ []) ≡ entries C ++ (e ∷ [])
same_last C d e h = rw h

-- and comes last among the entries
pub grow_entries : (C : Content) (e : Entry) (D : Content) → InOrder C e → Adds C e D → entries D ≡ entries C ++ (e ∷ [])
grow_entries C (f.label t) D o a = ap entries a ∙ label_entries C t o
grow_entries C (f.name t) D o a = ap entries a ∙ name_entries C t o
grow_entries C (f.variable t) D o a = ap entries a ∙ variable_entries C t o
grow_entries C (f.node k a b) D o (n, e, d) = ap entries d ∙ node_entries C n o.0 o.1 ∙ same_last C _ _ e
grow_entries C f.strand D o a = ap entries a ∙ strand_entries_more C o
grow_entries C (f.step k a b) D o (p, e, d) = ap entries d ∙ step_entries C p o.0 o.1 ∙ same_last C _ _ e
grow_entries C (f.property u v w x y z) D o (t, e, d) = ap entries d ∙ property_entries_more C t o.1 ∙ same_last C _ _ e
