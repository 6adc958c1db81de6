-- An entry is told from its record, and a node, a step and a property from their entries: each by reading it back.
use Rattle.std.proofs.Common.{◌≡◌, ℕ, suc, ◌+◌, ◌-◌, ◌*◌, ◌/◌, ◌%◌, List, [], ◌∷◌, get_or, Some, None, Option, sym, refl, ap, ◌∙◌, ap₂}
use native.Mathlib.Nat.{div-add-mod}
use Rattle.records.specs.Bytes.{Rec}
use Rattle.terms.specs.Nodes.{no_node}
use Rattle.terms.specs.declared.node.Node.{Node}
use Rattle.terms.specs.declared.node.Node.TheVariants as n
use Rattle.protocol.specs.declared.step.Step.{Step}
use Rattle.protocol.specs.declared.step.Step.TheVariants as s
use Rattle.protocol.specs.declared.step.Direction.{Direction}
use Rattle.protocol.specs.declared.step.Direction.TheVariants as d
use Rattle.protocol.specs.declared.step.Action.{Action}
use Rattle.protocol.specs.declared.step.Property.{Property}
use Rattle.protocol.specs.Lawful.{Content}
use Rattle.entries.specs.Format.{Entry, label, name, variable, node, strand, step, property, rec, node_entry, step_entry, property_entry, direction_code, with_earlier}
use Rattle.entries.specs.Growth.{Adds, with_node, with_step, with_property}

-- what can be read back from its image is told by it
pub told : {A B : Type 0} (f : A → B) (g : B → A) → ((x : A) → g (f x) ≡ x) → (x y : A) → f x ≡ f y → x ≡ y
told f g back x y e = sym (back x) ∙ ap g e ∙ back y

-- the number of two bytes
abbrev number_at : List ℕ → ℕ → ℕ
number_at t i = 256 * get_or t (suc i) 0 + get_or t i 0

word_back : (m : ℕ) → 256 * (m / 256) + m % 256 ≡ m
word_back m = div-add-mod m 256

-- the entry of a record; of one that is no entry, any
abbrev entry_of : Rec → Entry
entry_of x =
    let t = x.body in
    get_or
    (label t ∷ name t ∷ variable t
    ∷ node (number_at t 0) (number_at t 2) (number_at t 4)
    ∷ strand
    ∷ step (number_at t 0) (number_at t 2) (number_at t 4)
    ∷ property (number_at t 0) (number_at t 2) (number_at t 4) (number_at t 6) (number_at t 8) (number_at t 10)
    ∷ [])
    (x.kind - 1) strand

entry_back : (e : Entry) → entry_of (rec e) ≡ e
entry_back (label t) = refl
entry_back (name t) = refl
entry_back (variable t) = refl
entry_back (node k a b) = cc (word_back k, word_back a, word_back b)
entry_back strand = refl
entry_back (step k a b) = cc (word_back k, word_back a, word_back b)
entry_back (property p q r u v w) = cc (word_back p, word_back q, word_back r, word_back u, word_back v, word_back w)

-- an entry is told by its record
pub rec_one : (e f : Entry) → rec e ≡ rec f → e ≡ f
rec_one e f p = told rec entry_of entry_back e f p

-- the node of an entry; of another entry, any
abbrev node_of : Entry → Node
node_of (label t) = no_node
node_of (name t) = no_node
node_of (variable t) = no_node
node_of (node k a b) =
    get_or
    (n.Name (record { 0 = a })
    ∷ n.Var (record { 0 = a })
    ∷ n.Pair (record { 0 = a }) (record { 0 = b })
    ∷ n.Seal (record { 0 = a }) (record { 0 = b })
    ∷ n.Env (record { 0 = a })
    ∷ [])
    (k - 1) no_node
node_of strand = no_node
node_of (step k a b) = no_node
node_of (property p q r u v w) = no_node

node_back : (m : Node) → node_of (node_entry m) ≡ m
node_back (n.Name a) = refl
node_back (n.Env a) = refl
node_back (n.Var a) = refl
node_back (n.Pair a b) = refl
node_back (n.Seal a b) = refl

-- a node is told by its entry
pub node_entry_one : (n m : Node) → node_entry n ≡ node_entry m → n ≡ m
node_entry_one n m e = told node_entry node_of node_back n m e

abbrev no_step : Step
no_step = s.Same (record { 0 = 0 }) (record { 0 = 0 })

-- the step of an entry
abbrev step_in : Entry → Step
step_in (label t) = no_step
step_in (name t) = no_step
step_in (variable t) = no_step
step_in (node k a b) = no_step
step_in strand = no_step
step_in (step k a b) =
    get_or
    (s.Input (record { 0 = a }) (record { 0 = b })
    ∷ s.Output (record { 0 = a }) (record { 0 = b })
    ∷ s.Open (record { 0 = a }) (record { 0 = b })
    ∷ s.Split (record { 0 = a }) (record { 0 = b })
    ∷ s.Same (record { 0 = a }) (record { 0 = b })
    ∷ [])
    (k - 1) no_step
step_in (property p q r u v w) = no_step

step_back : (p : Step) → step_in (step_entry p) ≡ p
step_back (s.Input a b) = refl
step_back (s.Output a b) = refl
step_back (s.Open a b) = refl
step_back (s.Split a b) = refl
step_back (s.Same a b) = refl

-- a step is told by its entry
pub step_entry_one : (p q : Step) → step_entry p ≡ step_entry q → p ≡ q
step_entry_one p q e = told step_entry step_in step_back p q e

abbrev action_of : ℕ → ℕ → ℕ → Action
action_of k l a = record { direction = get_or (d.Input ∷ d.Output ∷ []) (k - 1) d.Input; label = record { 0 = l }; node = record { 0 = a } }

-- direction 0 is no action
abbrev earlier_of : ℕ → ℕ → ℕ → Option Action
earlier_of k l a = get_or (None ∷ Some (action_of 1 l a) ∷ Some (action_of 2 l a) ∷ []) k None

-- the property of an entry
abbrev property_of : Entry → Property
property_of (label t) = record { earlier = None; later = action_of 0 0 0 }
property_of (name t) = record { earlier = None; later = action_of 0 0 0 }
property_of (variable t) = record { earlier = None; later = action_of 0 0 0 }
property_of (node k a b) = record { earlier = None; later = action_of 0 0 0 }
property_of strand = record { earlier = None; later = action_of 0 0 0 }
property_of (step k a b) = record { earlier = None; later = action_of 0 0 0 }
property_of (property p q r u v w) = record { earlier = earlier_of p q r; later = action_of u v w }

direction_back : (k : Direction) → get_or (d.Input ∷ d.Output ∷ []) (direction_code k - 1) d.Input ≡ k
direction_back d.Input = refl
direction_back d.Output = refl

action_back : (a : Action) → action_of (direction_code a.direction) a.label.0 a.node.0 ≡ a
action_back a = ap (λ (k : Direction). record { direction = k; label = a.label; node = a.node }) (direction_back a.direction)

earlier_back : (k : Direction) (a : Action) → a.direction ≡ k → earlier_of (direction_code k) a.label.0 a.node.0 ≡ Some a
earlier_back d.Input a e = ap (λ (k : Direction). Some (record { direction = k; label = a.label; node = a.node })) (sym e)
earlier_back d.Output a e = ap (λ (k : Direction). Some (record { direction = k; label = a.label; node = a.node })) (sym e)

with_back : (o : Option Action) (b : Action) → property_of (with_earlier o b) ≡ record { earlier = o; later = b }
with_back None b = ap (λ (c : Action). record { earlier = None; later = c }) (action_back b)
with_back (Some a) b = ap₂ (λ (o : Option Action) (c : Action). record { earlier = o; later = c }) (earlier_back a.direction a refl) (action_back b)

-- a property is told by its entry
pub property_entry_one : (p q : Property) → property_entry p ≡ property_entry q → p ≡ q
property_entry_one p q e = told property_entry property_of (λ t. with_back t.earlier t.later) p q e

-- an entry leads to one content
pub adds_one : (C : Content) (e : Entry) (D D' : Content) → Adds C e D → Adds C e D' → D ≡ D'
adds_one C (label t) D D' p q = p ∙ sym q
adds_one C (name t) D D' p q = p ∙ sym q
adds_one C (variable t) D D' p q = p ∙ sym q
adds_one C (node k a b) D D' p q = p.2 ∙ ap (with_node C) (node_entry_one p.0 q.0 (p.1 ∙ sym q.1)) ∙ sym q.2
adds_one C strand D D' p q = p ∙ sym q
adds_one C (step k a b) D D' p q = p.2 ∙ ap (with_step C) (step_entry_one p.0 q.0 (p.1 ∙ sym q.1)) ∙ sym q.2
adds_one C (property k l m u v w) D D' p q = p.2 ∙ ap (with_property C) (property_entry_one p.0 q.0 (p.1 ∙ sym q.1)) ∙ sym q.2
