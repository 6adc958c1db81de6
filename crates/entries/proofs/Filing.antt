-- The file of a sound content is bytes: each of its numbers fits two of them.
use Rattle.std.proofs.Common.{ℕ, ◌/◌, ◌%◌, ◌<◌, ◌≤◌, List, [], ◌∷◌, ◌++◌, length, sym, subst, Some, None, Option, arith}
use native.Mathlib.Nat.{div-add-mod}
use Rattle.std.specs.List.{AllByRecursion}
use Rattle.records.specs.Bytes.{encode}
use Rattle.terms.specs.declared.node.Node.{Node}
use Rattle.terms.specs.declared.node.Node.TheVariants as n
use Rattle.protocol.specs.declared.step.Step.{Step}
use Rattle.protocol.specs.declared.step.Step.TheVariants as s
use Rattle.protocol.specs.declared.step.Direction.{Direction}
use Rattle.protocol.specs.declared.step.Direction.TheVariants as d
use Rattle.protocol.specs.declared.step.Action.{Action}
use Rattle.protocol.specs.Lawful.{Content, Text, Sound, NodeLaw, StepLaw, ActionLaw, EarlierLaw}
use Rattle.entries.specs.declared.fault.Rule.TheVariants as r
use Rattle.entries.specs.Format as f
use Rattle.entries.specs.Format.{Entry, rec, node_entry, step_entry, direction_code, with_earlier, property_entry, entries, bytes, file}
use Rattle.entries.specs.Rules.{KeepsBelow}
use Rattle.entries.specs.Reading.{FilesAreBytes}
use Rattle.entries.proofs.Grown.{Grown, start, grow}
use Rattle.entries.proofs.Growing.{sound_nothing, grow_sound}
use Rattle.entries.proofs.Regrowing.{sound_grown}

abbrev Bytes : List ℕ → Type 0
Bytes bs = AllByRecursion (λ b. b < 256) bs

all_append : {X : Type 0} (P : X → Type 0) (xs ys : List X) → AllByRecursion P xs → AllByRecursion P ys → AllByRecursion P (xs ++ ys)
all_append P [] ys a b = b
all_append P (x ∷ xs) ys a b = (a.0, all_append P xs ys a.1 b)

-- the low and the high byte of a number
low : (m : ℕ) → m % 256 < 256
low m = omega arith

high : (m : ℕ) → m < 65536 → m / 256 < 256
high m h = omega (arith, div-add-mod m 256)

-- the fields fit two bytes, and a text is bytes
abbrev Small : Entry → Type 0
Small (f.label t) = (length t < 65536) × Bytes t
Small (f.name t) = (length t < 65536) × Bytes t
Small (f.variable t) = (length t < 65536) × Bytes t
Small (f.node k a b) = (k < 65536) × (a < 65536) × (b < 65536)
Small f.strand = Unit {0}
Small (f.step k a b) = (k < 65536) × (a < 65536) × (b < 65536)
Small (f.property p q u v w x) = (p < 65536) × (q < 65536) × (u < 65536) × (v < 65536) × (w < 65536) × (x < 65536)

entry_bytes : (e : Entry) → Small e → Bytes (encode (rec e))
entry_bytes (f.label t) h = (low _, (high _ h.0, (omega arith, (omega arith, h.1))))
entry_bytes (f.name t) h = (low _, (high _ h.0, (omega arith, (omega arith, h.1))))
entry_bytes (f.variable t) h = (low _, (high _ h.0, (omega arith, (omega arith, h.1))))
entry_bytes (f.node k a b) h = (omega arith, (omega arith, (omega arith, (omega arith, (low k, (high k h.0, (low a, (high a h.1, (low b, (high b h.2, tt))))))))))
entry_bytes f.strand h = (omega arith, (omega arith, (omega arith, (omega arith, tt))))
entry_bytes (f.step k a b) h = (omega arith, (omega arith, (omega arith, (omega arith, (low k, (high k h.0, (low a, (high a h.1, (low b, (high b h.2, tt))))))))))
entry_bytes (f.property p q u v w x) h = (omega arith, (omega arith, (omega arith, (omega arith, (low p, (high p h.0, (low q, (high q h.1, (low u, (high u h.2, (low v, (high v h.3, (low w, (high w h.4, (low x, (high x h.5, tt))))))))))))))))

all_bytes : (es : List Entry) → AllByRecursion Small es → Bytes (bytes es)
all_bytes [] h = tt
all_bytes (e ∷ es) h = all_append (λ b. b < 256) (encode (rec e)) (bytes es) (entry_bytes e h.0) (all_bytes es h.1)

-- a text is bytes
text_bytes : (t : List ℕ) → AllByRecursion (λ b. (33 ≤ b) × (b ≤ 126)) t → Bytes t
text_bytes [] h = tt
text_bytes (b ∷ t) h = (omega (arith, h.0.1), text_bytes t h.1)

small_text : (t : List ℕ) → Text t → (length t < 65536) × Bytes t
small_text t h = (omega (arith, h.1), text_bytes t h.2)

small_node : (C : Content) → Sound C → (m : Node) → NodeLaw C (length C.nodes) m → Small (node_entry m)
small_node C c (n.Name a) l = (omega arith, omega (arith, l, c.few_names), omega arith)
small_node C c (n.Env a) l = absurd l
small_node C c (n.Var a) l = (omega arith, omega (arith, l, c.few_variables), omega arith)
small_node C c (n.Pair a b) l = (omega arith, omega (arith, l.0, c.few_nodes), omega (arith, l.1, c.few_nodes))
small_node C c (n.Seal a b) l = (omega arith, omega (arith, l.0, c.few_nodes), omega (arith, l.1, c.few_nodes))

small_step : (C : Content) → Sound C → (p : Step) → StepLaw C p → Small (step_entry p)
small_step C c (s.Input l x) h = (omega arith, omega (arith, h.0, c.few_labels), omega (arith, h.1, c.few_variables))
small_step C c (s.Output l a) h = (omega arith, omega (arith, h.0, c.few_labels), omega (arith, h.1, c.few_nodes))
small_step C c (s.Open a b) h = (omega arith, omega (arith, h.0, c.few_nodes), omega (arith, h.1, c.few_nodes))
small_step C c (s.Split a b) h = (omega arith, omega (arith, h.0, c.few_nodes), omega (arith, h.1, c.few_nodes))
small_step C c (s.Same a b) h = (omega arith, omega (arith, h.0, c.few_nodes), omega (arith, h.1, c.few_nodes))

small_direction : (d : Direction) → direction_code d < 65536
small_direction d.Input = omega arith
small_direction d.Output = omega arith

small_actions : (C : Content) → Sound C → (a : Option Action) (b : Action) → ActionLaw C b → EarlierLaw C a b → Small (with_earlier a b)
small_actions C c None b l h = (omega arith, omega arith, omega arith, small_direction b.direction, omega (arith, l.0, c.few_labels), omega (arith, l.1, c.few_nodes))
small_actions C c (Some a) b l h = (small_direction a.direction, omega (arith, h.0.0, c.few_labels), omega (arith, h.0.1, c.few_nodes), small_direction b.direction, omega (arith, l.0, c.few_labels), omega (arith, l.1, c.few_nodes))

-- an entry that keeps the rules is small
small : (C : Content) → Sound C → (e : Entry) → KeepsBelow 9 C e → Small e
small C c (f.label t) k = small_text t (k r.Text (omega arith))
small C c (f.name t) k = small_text t (k r.Text (omega arith))
small C c (f.variable t) k = small_text t (k r.Text (omega arith))
small C c (f.node i a b) k = let g = k r.Node (omega arith) in subst Small g.1 (small_node C c g.0 g.2)
small C c f.strand k = tt
small C c (f.step i a b) k = let g = k r.Step (omega arith) in subst Small g.1 (small_step C c g.0 g.2)
small C c (f.property p q u v w x) k = let g = k r.Property (omega arith) in subst Small g.1 (small_actions C c g.0.earlier g.0.later g.2.0 g.2.1)

-- and so are all that a content is grown of
grown_small : {es : List Entry} {C : Content} → Grown es C → Sound C × AllByRecursion Small es
grown_small (start p q) = (subst Sound (sym q) sound_nothing, subst (AllByRecursion Small) (sym p) tt)
grown_small (grow {es = es} {C = C} {D = D} e g k a p) =
    let h = grown_small g in
    (grow_sound C e D h.0 k a, subst (AllByRecursion Small) (sym p) (all_append Small es (e ∷ []) h.1 (small C h.0 e k, tt)))

pub files_are_bytes : FilesAreBytes
files_are_bytes C l = all_bytes (entries C) (grown_small (sound_grown C l.sound)).1
