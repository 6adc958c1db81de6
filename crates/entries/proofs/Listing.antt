-- The entries of content with one element more in a table.
use Rattle.std.proofs.Common.{◌≡◌, ℕ, ◌≤◌, List, [], ◌∷◌, ◌++◌, map, length, None, Option, sym, ap, ◌∙◌, arith}
use Rattle.std.specs.List.{flat_map}
use Rattle.std.proofs.lemmas.List.{append-nil, append_assoc, map_push, flat_map_more}
use Rattle.terms.specs.declared.node.Node.{Node}
use Rattle.protocol.specs.declared.step.Property.{Property}
use Rattle.protocol.specs.declared.step.Step.{Step}
use Rattle.protocol.specs.Lawful.{Content}
use Rattle.entries.specs.Format as f
use Rattle.entries.specs.Format.{Entry, entries, node_entry, step_entry, property_entry, strand_entries, property_entries}
use Rattle.entries.specs.Rules.{InOrder, latest}
use Rattle.entries.specs.Growth.{with_label, with_name, with_variable, with_node, with_strand, with_step, with_property}
use Rattle.entries.proofs.Places.{longer, joined_longer}

-- one entry more before what is empty, and after any entries
before_nil : (xs R : List Entry) (e : Entry) → R ≡ [] → (xs ++ (e ∷ [])) ++ R ≡ (xs ++ R) ++ (e ∷ [])
before_nil xs R e h = rw h (append-nil (xs ++ (e ∷ [])) ∙ ap (λ (l : List Entry). l ++ (e ∷ [])) (sym (append-nil xs)))

after : (xs R S : List Entry) (e : Entry) → S ≡ R ++ (e ∷ []) → xs ++ S ≡ (xs ++ R) ++ (e ∷ [])
after xs R S e h = ap (λ (l : List Entry). xs ++ l) h ∙ sym (append_assoc xs R (e ∷ []))

-- a table has one element more, and what comes after it is empty
table_more : {A : Type 0} (g : A → Entry) (xs : List A) (x : A) (R : List Entry) → R ≡ [] → map g (xs ++ (x ∷ [])) ++ R ≡ (map g xs ++ R) ++ (g x ∷ [])
table_more g xs x R h = ap (λ (l : List Entry). l ++ R) (map_push g xs x) ∙ before_nil (map g xs) R (g x) h

-- likewise the strands
strands_more : (ss ss' : List (List Step)) (o : Option Property) (e : Entry) → o ≡ None → flat_map strand_entries ss' ≡ flat_map strand_entries ss ++ (e ∷ []) → flat_map strand_entries ss' ++ property_entries o ≡ (flat_map strand_entries ss ++ property_entries o) ++ (e ∷ [])
strands_more ss ss' o e h k = ap (λ (l : List Entry). l ++ property_entries o) k ∙ before_nil (flat_map strand_entries ss) (property_entries o) e (ap property_entries h)

-- the entries from a table on
abbrev from_strands : Content → List Entry
from_strands C = flat_map strand_entries C.strands ++ property_entries C.property

abbrev from_nodes : Content → List Entry
from_nodes C = map node_entry C.nodes ++ from_strands C

abbrev from_variables : Content → List Entry
from_variables C = map f.variable C.variables ++ from_nodes C

abbrev from_names : Content → List Entry
from_names C = map f.name C.names ++ from_variables C

-- and they are none where these tables are empty
none_strands : (C : Content) → C.strands ≡ [] → C.property ≡ None → from_strands C ≡ []
none_strands C p q = rw (p, q)

none_nodes : (C : Content) → C.nodes ≡ [] → C.strands ≡ [] → C.property ≡ None → from_nodes C ≡ []
none_nodes C n p q = rw (n, p, q)

none_variables : (C : Content) → C.variables ≡ [] → C.nodes ≡ [] → C.strands ≡ [] → C.property ≡ None → from_variables C ≡ []
none_variables C v n p q = rw (v, n, p, q)

none_names : (C : Content) → C.names ≡ [] → C.variables ≡ [] → C.nodes ≡ [] → C.strands ≡ [] → C.property ≡ None → from_names C ≡ []
none_names C m v n p q = rw (m, v, n, p, q)

-- what changes only from the nodes or from the strands on
after_variables : (C : Content) (S : List Entry) (e : Entry) → S ≡ from_nodes C ++ (e ∷ []) → map f.label C.labels ++ (map f.name C.names ++ (map f.variable C.variables ++ S)) ≡ entries C ++ (e ∷ [])
after_variables C S e h =
    after (map f.label C.labels) (from_names C) _ e (after (map f.name C.names) (from_variables C) _ e (after (map f.variable C.variables) (from_nodes C) S e h))

after_nodes : (C : Content) (S : List Entry) (e : Entry) → S ≡ from_strands C ++ (e ∷ []) → map f.label C.labels ++ (map f.name C.names ++ (map f.variable C.variables ++ (map node_entry C.nodes ++ S))) ≡ entries C ++ (e ∷ [])
after_nodes C S e h = after_variables C _ e (after (map node_entry C.nodes) (from_strands C) S e h)

-- the entries with one label more, one name more, and so on
pub label_entries : (C : Content) (t : List ℕ) → InOrder C (f.label t) → entries (with_label C t) ≡ entries C ++ (f.label t ∷ [])
label_entries C t o = table_more f.label C.labels t (from_names C) (none_names C o.0 o.1 o.2 o.3 o.4)

pub name_entries : (C : Content) (t : List ℕ) → InOrder C (f.name t) → entries (with_name C t) ≡ entries C ++ (f.name t ∷ [])
name_entries C t o =
    after (map f.label C.labels) (from_names C) _ (f.name t) (table_more f.name C.names t (from_variables C) (none_variables C o.0 o.1 o.2 o.3))

pub variable_entries : (C : Content) (t : List ℕ) → InOrder C (f.variable t) → entries (with_variable C t) ≡ entries C ++ (f.variable t ∷ [])
variable_entries C t o =
    after (map f.label C.labels) (from_names C) _ (f.variable t) (after (map f.name C.names) (from_variables C) _ (f.variable t) (table_more f.variable C.variables t (from_nodes C) (none_nodes C o.0 o.1 o.2)))

pub node_entries : (C : Content) (n : Node) → C.strands ≡ [] → C.property ≡ None → entries (with_node C n) ≡ entries C ++ (node_entry n ∷ [])
node_entries C n p q = after_variables C _ (node_entry n) (table_more node_entry C.nodes n (from_strands C) (none_strands C p q))

pub strand_entries_more : (C : Content) → C.property ≡ None → entries (with_strand C) ≡ entries C ++ (f.strand ∷ [])
strand_entries_more C q = after_nodes C _ f.strand (strands_more C.strands (C.strands ++ ([] ∷ [])) C.property f.strand q (sym (flat_map_more strand_entries [] C.strands [])))

pub step_entries : (C : Content) (p : Step) → 1 ≤ length C.strands → C.property ≡ None → entries (with_step C p) ≡ entries C ++ (step_entry p ∷ [])
step_entries C p h q = after_nodes C _ (step_entry p) (strands_more C.strands (longer C.strands (latest C) p) C.property (step_entry p) q (joined_longer C.strands (latest C) p (omega arith)))

pub property_entries_more : (C : Content) (t : Property) → C.property ≡ None → entries (with_property C t) ≡ entries C ++ (property_entry t ∷ [])
property_entries_more C t q =
    after_nodes C _ (property_entry t) (after (flat_map strand_entries C.strands) (property_entries C.property) (property_entry t ∷ []) (property_entry t) (ap (λ (o : Option Property). property_entries o ++ (property_entry t ∷ [])) (sym q)))
