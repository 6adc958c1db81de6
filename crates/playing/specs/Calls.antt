-- What a bench means, and what its calls answer. A protocol and the number of its local names are given.
use Rattle.std.specs.Prelude.{◌≡◌, ℕ, ◌<◌, ◌≤◌, List, [], ◌∷◌, ◌++◌, length, Ok, Err, Result}
use Rattle.terms.specs.Terms.{Term, IsName, Closed, Message}
use Rattle.terms.specs.Nodes.{says, at}
use Rattle.terms.specs.declared.node.Node.{Node}
use Rattle.terms.specs.declared.node.Node.TheVariants.{Name, Env, Var, Pair, Seal}
use Rattle.terms.specs.declared.number.NodeNo.{NodeNo}
use Rattle.protocol.specs.Strands.{TermStep, input, output, opens, splits, same, At}
use Rattle.derivation.specs.Derive.{Derives}
use Rattle.runs.specs.Protocols.{Protocol, strand}
use Rattle.runs.specs.Runs.{State, Moves, Runs, start, bind, onward, received, messages}
use Rattle.playing.specs.declared.calls.Call.{Call}
use Rattle.playing.specs.declared.calls.Call.TheVariants as call
use Rattle.playing.specs.declared.faults.WriteFault.{WriteFault}
use Rattle.playing.specs.declared.faults.WriteFault.TheVariants as w
use Rattle.playing.specs.declared.faults.StepFault.{StepFault}
use Rattle.playing.specs.declared.faults.StepFault.TheVariants as s

-- where the run stands, and the terms that the caller has written, each at its place
pub record Situation : Type 0 where
  pub state : State
  pub written : List Term

-- nothing is played and nothing written
abbrev pub opened : Situation
opened = record { state = start; written = [] }

-- a node that the caller may write next: closed, of names that there are, over places that are written, under a key that
-- is a name
abbrev pub Writable : ℕ → List Term → Node → Type 0
Writable names ts (Name n) = n.0 < names
Writable names ts (Env e) = e.0 < 256
Writable names ts (Var x) = ⊥
Writable names ts (Pair a b) = (a.0 < length ts) × (b.0 < length ts)
Writable names ts (Seal b k) = (b.0 < length ts) × (k.0 < length ts) × IsName (at ts k.0)

-- what a node says is written at the next place
abbrev pub writing : Situation → Node → Situation
writing u n = record { state = u.state; written = u.written ++ (says (at u.written) n ∷ []) }

-- a node is written at the next of 512 places
abbrev pub Wrote : ℕ → Situation → Node → Result NodeNo WriteFault → Situation → Type 0
Wrote names u n (Ok p) v = Writable names u.written n × (length u.written < 512) × (p.0 ≡ length u.written) × (v ≡ writing u n)
Wrote names u n (Err w.Unlawful) v = ¬ Writable names u.written n × (v ≡ u)
Wrote names u n (Err w.Full) v = Writable names u.written n × (512 ≤ length u.written) × (v ≡ u)

-- the step is an input
abbrev pub IsInput : TermStep → Type 0
IsInput (input l x) = Unit {0}
IsInput (output l n) = ⊥
IsInput (opens t x k) = ⊥
IsInput (splits t x y) = ⊥
IsInput (same n m) = ⊥

-- the next step of strand k
abbrev pub Next : Protocol → Situation → ℕ → TermStep → Type 0
Next S u k p = At S.strands k (u.state.next k) p

-- there is no such strand, or it has no step left
abbrev pub NoSuchStrand : Protocol → ℕ → Type 0
NoSuchStrand S k = length S.strands ≤ k

abbrev pub Done : Protocol → Situation → ℕ → Type 0
Done S u k = (k < length S.strands) × (length (strand S k) ≤ u.state.next k)

-- strand k gets the message M on label l, which becomes the value of x
abbrev pub feeding : Situation → ℕ → ℕ → ℕ → Term → Situation
feeding u k l x M =
    record {
      state = record { next = onward u.state.next k; value = bind u.state.value x M; run = u.state.run ++ (received l M ∷ []) };
      written = u.written;
    }

-- strand k is fed the term at place q, which has to be derived from the run's terms
abbrev pub Fed : Protocol → Situation → ℕ → ℕ → Result (Unit {0}) StepFault → Situation → Type 0
Fed S u k q (Ok r) v = (l : ℕ) × (x : ℕ) × Next S u k (input l x) × (q < length u.written) × Derives (messages u.state.run) (at u.written q) × (v ≡ feeding u k l x (at u.written q))
Fed S u k q (Err s.NoStrand) v = NoSuchStrand S k × (v ≡ u)
Fed S u k q (Err s.Finished) v = Done S u k × (v ≡ u)
Fed S u k q (Err s.WrongCall) v = (p : TermStep) × Next S u k p × (¬ IsInput p) × (v ≡ u)
Fed S u k q (Err s.NotWritten) v = (p : TermStep) × Next S u k p × IsInput p × (length u.written ≤ q) × (v ≡ u)
Fed S u k q (Err s.NotDerivable) v = (p : TermStep) × Next S u k p × IsInput p × (q < length u.written) × (¬ Derives (messages u.state.run) (at u.written q)) × (v ≡ u)
Fed S u k q (Err s.Stuck) v = ⊥

-- strand k takes its next step, which is no input, where the rules of runs let it
abbrev pub Moved : Protocol → Situation → ℕ → Result (Unit {0}) StepFault → Situation → Type 0
Moved S u k (Ok r) v = (p : TermStep) × Next S u k p × (¬ IsInput p) × Moves S u.state k v.state × (v.written ≡ u.written)
Moved S u k (Err s.NoStrand) v = NoSuchStrand S k × (v ≡ u)
Moved S u k (Err s.Finished) v = Done S u k × (v ≡ u)
Moved S u k (Err s.WrongCall) v = (p : TermStep) × Next S u k p × IsInput p × (v ≡ u)
Moved S u k (Err s.NotWritten) v = ⊥
Moved S u k (Err s.NotDerivable) v = ⊥
Moved S u k (Err s.Stuck) v = (p : TermStep) × Next S u k p × (¬ IsInput p) × ((st : State) → ¬ Moves S u.state k st) × (v ≡ u)

-- one call, whatever is answered
abbrev pub Called : ℕ → Protocol → Call → Situation → Situation → Type 0
Called names S (call.Write n) u v = (r : Result NodeNo WriteFault) × Wrote names u n r v
Called names S (call.Feed k q) u v = (r : Result (Unit {0}) StepFault) × Fed S u k.0 q.0 r v
Called names S (call.Move k) u v = (r : Result (Unit {0}) StepFault) × Moved S u k.0 r v

-- a closed message
abbrev pub Said : Term → Type 0
Said t = Closed t × Message t

abbrev pub AllSaid : List Term → Type 0
AllSaid ts = (i : ℕ) → i < length ts → Said (at ts i)

-- what any row of calls leads to: the state is that of a run, and closed messages are written
abbrev pub Reached : Protocol → Situation → Type 0
Reached S u = ((s : List ℕ) × Runs S s u.state) × AllSaid u.written

-- a row of calls
unfoldable pub Plays : ℕ → Protocol → List Call → Situation → Situation → Type 0
Plays names S [] u v = v ≡ u
Plays names S (c ∷ cs) u v = (t : Situation) × Called names S c u t × Plays names S cs t v
