-- What each call of a notebook answers, and what its two lists are after it: the nodes ns and the noted places.
use Rattle.std.specs.Prelude.{◌≡◌, ℕ, ◌<◌, ◌≤◌, Bool, List, [], ◌∷◌, ◌++◌, length, Ok, Err, Decides, Result}
use Rattle.terms.specs.Nodes.{node, term}
use Rattle.terms.specs.declared.node.Node.{Node}
use Rattle.terms.specs.declared.node.Node.TheVariants.{Name, Env, Var, Pair, Seal}
use Rattle.terms.specs.declared.number.NodeNo.{NodeNo}
use Rattle.derivation.specs.Derive.{Derives}
use Rattle.derivation.specs.Noted.{Held, noted_terms}
use Rattle.notebook.specs.Limits.{most_nodes, most_notes, local_names, env_names}
use Rattle.notebook.specs.declared.faults.PutFault.{PutFault}
use Rattle.notebook.specs.declared.faults.PutFault.TheVariants as put
use Rattle.notebook.specs.declared.faults.NoteFault.{NoteFault}
use Rattle.notebook.specs.declared.faults.NoteFault.TheVariants as note

-- a node that may stand at place i: closed, names within their limits, references to smaller places
abbrev pub Lawful : ℕ → Node → Type 0
Lawful i (Name n) = n.0 < local_names
Lawful i (Env e) = e.0 < env_names
Lawful i (Var x) = ⊥
Lawful i (Pair a b) = (a.0 < i) × (b.0 < i)
Lawful i (Seal b k) = (b.0 < i) × (k.0 < i)

-- what the two lists of every notebook are: lawful nodes and held places, within the limits
pub record LawfulLists (ns : List Node) (noted : List ℕ) : Type 0 where
  pub lawful : (i : ℕ) → i < length ns → Lawful i (node ns i)
  pub few_nodes : length ns ≤ most_nodes
  pub few_notes : length noted ≤ most_notes
  pub held : Held ns noted

-- a lawful node is appended where there is room, and its place answered
abbrev pub Put : List Node → List ℕ → Node → Result NodeNo PutFault → List Node → List ℕ → Type 0
Put ns noted n (Ok p) ns' noted' = Lawful (length ns) n × (length ns < most_nodes) × (p.0 ≡ length ns) × (ns' ≡ ns ++ (n ∷ [])) × (noted' ≡ noted)
Put ns noted n (Err put.Unlawful) ns' noted' = ¬ Lawful (length ns) n × (ns' ≡ ns) × (noted' ≡ noted)
Put ns noted n (Err put.Full) ns' noted' = Lawful (length ns) n × (most_nodes ≤ length ns) × (ns' ≡ ns) × (noted' ≡ noted)

-- a held place is appended to the noted ones where there is room
abbrev pub Noted : List Node → List ℕ → NodeNo → Result (Unit {0}) NoteFault → List Node → List ℕ → Type 0
Noted ns noted p (Ok u) ns' noted' = (p.0 < length ns) × (length noted < most_notes) × (ns' ≡ ns) × (noted' ≡ noted ++ (p.0 ∷ []))
Noted ns noted p (Err note.NotHeld) ns' noted' = (length ns ≤ p.0) × (ns' ≡ ns) × (noted' ≡ noted)
Noted ns noted p (Err note.Full) ns' noted' = (p.0 < length ns) × (most_notes ≤ length noted) × (ns' ≡ ns) × (noted' ≡ noted)

-- yes exactly when the place is held and its term is derived from the terms at the noted places
abbrev pub Derivable : List Node → List ℕ → NodeNo → Bool → Type 0
Derivable ns noted p r = Decides r ((p.0 < length ns) × Derives (noted_terms ns noted) (term ns p.0))

-- the numbers of the refusals
abbrev pub put_fault_number : PutFault → ℕ
put_fault_number put.Unlawful = 60
put_fault_number put.Full = 61

abbrev pub note_fault_number : NoteFault → ℕ
note_fault_number note.NotHeld = 62
note_fault_number note.Full = 63
