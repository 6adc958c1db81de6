-- The next step of a strand, what a caller may write, and what is done to take a step.
use Rattle.std.specs.Prelude.{◌≡◌, ℕ, ◌<◌, ◌≤◌, List, [], map, length, Some, None, Option, Ok, Err, Result, slice_index_or}
use Rattle.std.proofs.Math.Option.{some}
use Rattle.std.proofs.Math.ListN.{get_elem?}
use Rattle.terms.specs.Nodes.{at, says, term}
use Rattle.terms.specs.declared.node.Node.{Node}
use Rattle.terms.specs.declared.number.NodeNo.{NodeNo}
use Rattle.terms.specs.declared.number.Label.{Label}
use Rattle.terms.specs.declared.number.Variable.{Variable}
use Rattle.notebook.specs.Calls.{Lawful}
use Rattle.protocol.specs.declared.step.Action.{Action}
use Rattle.protocol.specs.declared.step.Step.{Step}
use Rattle.protocol.specs.Strands.{TermStep, input, At}
use Rattle.runs.specs.Protocols.{Protocol}
use Rattle.protocol.specs.Lawful.{Content}
use Rattle.playing.specs.Calls.{Situation, Writable, IsInput, Next, NoSuchStrand, Done}
use Rattle.bench.specs.Places.{terms_at}
use Rattle.playing.specs.declared.faults.StepFault.{StepFault}
use Rattle.playing.specs.declared.faults.StepFault.TheVariants.{NoStrand, Finished, WrongCall, NotWritten, NotDerivable, Stuck}

-- step number i of a strand, or none where it has no such step
abbrev pub StepAt : List Step → ℕ → Option Step → Type 0
StepAt ps i None = length ps ≤ i
StepAt ps i (Some p) = get_elem? ps i ≡ some p

-- the next step of strand k, or none
abbrev pub NextStep : Content → Situation → ℕ → Result Step StepFault → Type 0
NextStep C u k (Ok p) = At C.strands k (u.state.next k) p
NextStep C u k (Err NoStrand) = length C.strands ≤ k
NextStep C u k (Err Finished) = (k < length C.strands) × (length (slice_index_or C.strands k []) ≤ u.state.next k)
NextStep C u k (Err WrongCall) = ⊥
NextStep C u k (Err NotWritten) = ⊥
NextStep C u k (Err NotDerivable) = ⊥
NextStep C u k (Err Stuck) = ⊥

-- the page of what is written at a place, or none where nothing is
abbrev pub PageOf : List Node → List NodeNo → ℕ → Option NodeNo → Type 0
PageOf ns ws q None = length ws ≤ q
PageOf ns ws q (Some p) = (q < length ws) × (p.0 < length ns) × (at (terms_at ns ws) q ≡ term ns p.0)

-- a node over what is written as a node over the pages, or none where it may not be written
abbrev pub Turned : ℕ → List Node → List NodeNo → Node → Option Node → Type 0
Turned names ns ws n None = ¬ Writable names (terms_at ns ws) n
Turned names ns ws n (Some m) = Writable names (terms_at ns ws) n × Lawful (length ns) m × (says (term ns) m ≡ says (at (terms_at ns ws)) n)

-- strand k's next input, or why there is none
abbrev pub InputAt : Protocol → Situation → ℕ → Result (Label × Variable) StepFault → Type 0
InputAt S u k (Ok (l, x)) = Next S u k (input l.0 x.0) × (x.0 < 64)
InputAt S u k (Err NoStrand) = NoSuchStrand S k
InputAt S u k (Err Finished) = Done S u k
InputAt S u k (Err WrongCall) = (p : TermStep) × Next S u k p × (¬ IsInput p)
InputAt S u k (Err NotWritten) = ⊥
InputAt S u k (Err NotDerivable) = ⊥
InputAt S u k (Err Stuck) = ⊥

-- the places of the run's terms, which the notebook has noted
abbrev pub noted_in : List Action → List ℕ
noted_in acts = map (λ (a : Action). a.node.0) acts
