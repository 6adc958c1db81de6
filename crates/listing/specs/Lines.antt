-- The listing of a sheet: the lines that a person checks it by.
use Rattle.std.specs.Prelude.{ℕ, suc, cond, List, [], ◌∷◌, ◌++◌, length, Some, None, codes, decimal, Option, nat_le, slice_index_or}
use Rattle.terms.specs.declared.number.Label.{Label}
use Rattle.terms.specs.declared.number.NodeNo.{NodeNo}
use Rattle.terms.specs.declared.node.Node.{Node}
use Rattle.terms.specs.declared.node.Node.TheVariants.{Name, Env, Var, Pair, Seal}
use Rattle.protocol.specs.declared.step.Step.{Step}
use Rattle.protocol.specs.declared.step.Step.TheVariants as s
use Rattle.protocol.specs.declared.step.Direction.{Direction}
use Rattle.protocol.specs.declared.step.Direction.TheVariants as d
use Rattle.protocol.specs.declared.step.Action.{Action}
use Rattle.protocol.specs.declared.step.Property.{Property}
use Rattle.protocol.specs.Lawful.{Content}
use Rattle.entries.specs.Texts.{text}

-- the number of a node
abbrev pub mark : ℕ → List ℕ
mark i = codes "#" ++ decimal i

-- a form of more than 60 bytes is written by its node's number
abbrev pub brief : ℕ → List ℕ → List ℕ
brief i f = cond (nat_le (length f) 60) f (mark i)

-- the term with the number i in a line, over the written forms of the nodes
abbrev pub shown : List (List ℕ) → ℕ → List ℕ
shown fs i = brief i (slice_index_or fs i [])

-- a node written out over the written forms of its parts
abbrev pub written : List (List ℕ) → List (List ℕ) → List (List ℕ) → Node → List ℕ
written names variables fs (Name n) = text names n.0
written names variables fs (Env e) = codes "env " ++ decimal e.0
written names variables fs (Var x) = text variables x.0
written names variables fs (Pair a b) = codes "(" ++ shown fs a.0 ++ codes ", " ++ shown fs b.0 ++ codes ")"
written names variables fs (Seal b k) = codes "{" ++ shown fs b.0 ++ codes "}" ++ shown fs k.0

-- the written forms of the nodes, front to back: fs are those of the nodes before
abbrev pub forms_from : List (List ℕ) → List (List ℕ) → List (List ℕ) → List Node → List (List ℕ)
forms_from names variables fs [] = fs
forms_from names variables fs (n ∷ ns) = forms_from names variables (fs ++ (written names variables fs n ∷ [])) ns

-- the written form of each node, in which wide parts stand by their numbers
unfoldable pub forms : Content → List (List ℕ)
forms C = forms_from C.names C.variables [] C.nodes

-- what f writes of each element under its number, and the number of the first
abbrev pub numbered : {X : Type 0} → (ℕ → X → List ℕ) → ℕ → List X → List ℕ
numbered f i [] = []
numbered f i (x ∷ xs) = f i x ++ numbered f (suc i) xs

-- the line of a text of a table
abbrev pub text_line : List ℕ → ℕ → List ℕ → List ℕ
text_line word i t = word ++ codes " " ++ decimal i ++ codes " " ++ t ++ codes "\n"

-- the line of a form that is too wide to stand in another line
abbrev pub form_line : ℕ → List ℕ → List ℕ
form_line i f = cond (nat_le (length f) 60) [] (mark i ++ codes " " ++ f ++ codes "\n")

-- a message on a label, after a word
abbrev pub message : Content → List (List ℕ) → List ℕ → Label → NodeNo → List ℕ
message C fs word l n = word ++ text C.labels l.0 ++ codes " " ++ shown fs n.0

-- two terms, with a word before each
abbrev pub two_terms : List (List ℕ) → List ℕ → NodeNo → List ℕ → NodeNo → List ℕ
two_terms fs word a joint b = word ++ shown fs a.0 ++ joint ++ shown fs b.0

-- what a step does
abbrev pub step_words : Content → List (List ℕ) → Step → List ℕ
step_words C fs (s.Input l x) = codes "input " ++ text C.labels l.0 ++ codes " " ++ text C.variables x.0
step_words C fs (s.Output l n) = message C fs (codes "output ") l n
step_words C fs (s.Open a p) = two_terms fs (codes "open ") a (codes " as ") p
step_words C fs (s.Split a p) = two_terms fs (codes "split ") a (codes " as ") p
step_words C fs (s.Same a b) = two_terms fs (codes "same ") a (codes " and ") b

abbrev pub step_line : Content → List (List ℕ) → ℕ → Step → List ℕ
step_line C fs i p = codes "  " ++ decimal i ++ codes " " ++ step_words C fs p ++ codes "\n"

-- the lines of a strand and of its steps
abbrev pub strand_lines : Content → List (List ℕ) → ℕ → List Step → List ℕ
strand_lines C fs k ps = codes "strand " ++ decimal k ++ codes "\n" ++ numbered (step_line C fs) 0 ps

abbrev pub direction_word : Direction → List ℕ
direction_word d.Input = codes "input "
direction_word d.Output = codes "output "

abbrev pub action_words : Content → List (List ℕ) → Action → List ℕ
action_words C fs a = message C fs (direction_word a.direction) a.label a.node

abbrev pub earlier_words : Content → List (List ℕ) → Option Action → List ℕ
earlier_words C fs None = codes "never"
earlier_words C fs (Some a) = codes "only after " ++ action_words C fs a

abbrev pub property_line : Content → List (List ℕ) → Property → List ℕ
property_line C fs p = codes "property " ++ action_words C fs p.later ++ codes " " ++ earlier_words C fs p.earlier ++ codes "\n"

-- the whole listing of a sheet with a property
abbrev pub lines : Content → Property → List ℕ
lines C p =
    numbered (text_line (codes "label")) 0 C.labels
    ++ numbered (text_line (codes "name")) 0 C.names
    ++ numbered (text_line (codes "variable")) 0 C.variables
    ++ numbered form_line 0 (forms C)
    ++ numbered (strand_lines C (forms C)) 0 C.strands
    ++ property_line C (forms C) p
