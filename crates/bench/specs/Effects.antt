-- What a step does, by the places of the terms that it binds or adds to the run.
use Rattle.std.specs.Prelude.{◌≡◌, ℕ, ◌<◌, List, [], ◌∷◌, ◌++◌, length, Some, None, Option, Ok, Err, Result}
use Rattle.std.proofs.Math.Option.{none, some}
use Rattle.terms.specs.Terms.{Term, var, pair, seal}
use Rattle.terms.specs.Nodes.{term}
use Rattle.terms.specs.declared.node.Node.{Node}
use Rattle.terms.specs.declared.number.NodeNo.{NodeNo}
use Rattle.terms.specs.declared.number.Variable.{Variable}
use Rattle.protocol.specs.Strands.{TermStep, At}
use Rattle.protocol.specs.declared.step.Action.{Action}
use Rattle.runs.specs.Protocols.{TermAction, Protocol}
use Rattle.runs.specs.Runs.{Values, Does, State, Moves, bind, onward, messages}
use Rattle.runs.specs.Tables.{action_of}
use Rattle.runs.specs.Valued.{valued}
use Rattle.playing.specs.Calls.{IsInput, Situation, Next, NoSuchStrand, Done}
use Rattle.playing.specs.declared.faults.StepFault.{StepFault}
use Rattle.playing.specs.declared.faults.StepFault.TheVariants.{NoStrand, Finished, WrongCall, NotWritten, NotDerivable, Stuck}
use Rattle.bench.specs.declared.effect.Effect.{Effect}
use Rattle.bench.specs.declared.effect.Effect.TheVariants.{Receive, Send, Open, Split, Agree}

-- the values after it
abbrev pub bound : List Node → Values → Effect → Values
bound ns v (Receive a x) = bind v x.0 (term ns a.node.0)
bound ns v (Send a) = v
bound ns v (Open x p) = bind v x.0 (term ns p.0)
bound ns v (Split x p y q) = bind (bind v x.0 (term ns p.0)) y.0 (term ns q.0)
bound ns v Agree = v

-- the actions that it adds
abbrev pub added : List Node → Effect → List TermAction
added ns (Receive a x) = action_of ns a ∷ []
added ns (Send a) = action_of ns a ∷ []
added ns (Open x p) = []
added ns (Split x p y q) = []
added ns Agree = []

-- its places are held, and its variables are those of a table
abbrev pub EffectHeld : List Node → Effect → Type 0
EffectHeld ns (Receive a x) = (a.node.0 < length ns) × (x.0 < 64)
EffectHeld ns (Send a) = a.node.0 < length ns
EffectHeld ns (Open x p) = (p.0 < length ns) × (x.0 < 64)
EffectHeld ns (Split x p y q) = (p.0 < length ns) × (x.0 < 64) × (q.0 < length ns) × (y.0 < 64)
EffectHeld ns Agree = Unit {0}

-- the place of a term's value, where it has one
abbrev pub ValueAt : List Node → Values → Term → Option NodeNo → Type 0
ValueAt ns v t None = valued v t ≡ none
ValueAt ns v t (Some p) = (p.0 < length ns) × (valued v t ≡ some (term ns p.0))

-- what taking the step does, or none where it cannot be taken
abbrev pub DoneBy : List Node → Values → List Term → TermStep → Option Effect → Type 0
DoneBy ns v K p None = (w : Values) (r : List TermAction) → ¬ Does v K p w r
DoneBy ns v K p (Some e) = EffectHeld ns e × Does v K p (bound ns v e) (added ns e)

-- what a move does, or why there is none
abbrev pub TakenBy : List Node → Values → List Term → TermStep → Result Effect StepFault → Type 0
TakenBy ns v K p (Ok e) = (¬ IsInput p) × EffectHeld ns e × Does v K p (bound ns v e) (added ns e)
TakenBy ns v K p (Err NoStrand) = ⊥
TakenBy ns v K p (Err Finished) = ⊥
TakenBy ns v K p (Err WrongCall) = IsInput p
TakenBy ns v K p (Err NotWritten) = ⊥
TakenBy ns v K p (Err NotDerivable) = ⊥
TakenBy ns v K p (Err Stuck) = (¬ IsInput p) × ((w : Values) (r : List TermAction) → ¬ Does v K p w r)

-- the variable and the key of an open's pattern, which every lawful sheet has
abbrev pub OpenedBy : List Node → ℕ → Option (Variable × NodeNo) → Type 0
OpenedBy ss i None = ⊥
OpenedBy ss i (Some (x, k)) = (x.0 < 64) × (k.0 < length ss) × (term ss i ≡ seal (var x.0) (term ss k.0))

-- the two variables of a split's pattern
abbrev pub SplitBy : List Node → ℕ → Option (Variable × Variable) → Type 0
SplitBy ss i None = ⊥
SplitBy ss i (Some (x, y)) = (x.0 < 64) × (y.0 < 64) × (term ss i ≡ pair (var x.0) (var y.0))

-- strand k can take its next step so
abbrev pub Performs : Protocol → List Node → State → ℕ → Effect → Type 0
Performs S ns st k e = (p : TermStep) × At S.strands k (st.next k) p × Does st.value (messages st.run) p (bound ns st.value e) (added ns e)

-- and where the run stands then
abbrev pub performed : List Node → Situation → ℕ → Effect → Situation
performed ns u k e =
    record {
      state = record { next = onward u.state.next k; value = bound ns u.state.value e; run = u.state.run ++ added ns e };
      written = u.written;
    }

-- the action that it adds, by its place
abbrev pub acted : Effect → List Action
acted (Receive a x) = a ∷ []
acted (Send a) = a ∷ []
acted (Open x p) = []
acted (Split x p y q) = []
acted Agree = []

-- its variables are those of a table of values
abbrev pub Numbered : Effect → Type 0
Numbered (Receive a x) = x.0 < 64
Numbered (Send a) = Unit {0}
Numbered (Open x p) = x.0 < 64
Numbered (Split x p y q) = (x.0 < 64) × (y.0 < 64)
Numbered Agree = Unit {0}

-- what strand k's next step does that is no input, or why it is not taken
abbrev pub MoveAt : Protocol → List Node → Situation → ℕ → Result Effect StepFault → Type 0
MoveAt S ns u k (Ok e) = EffectHeld ns e × ((p : TermStep) × Next S u k p × (¬ IsInput p) × Does u.state.value (messages u.state.run) p (bound ns u.state.value e) (added ns e))
MoveAt S ns u k (Err NoStrand) = NoSuchStrand S k
MoveAt S ns u k (Err Finished) = Done S u k
MoveAt S ns u k (Err WrongCall) = (p : TermStep) × Next S u k p × IsInput p
MoveAt S ns u k (Err NotWritten) = ⊥
MoveAt S ns u k (Err NotDerivable) = ⊥
MoveAt S ns u k (Err Stuck) = (p : TermStep) × Next S u k p × (¬ IsInput p) × ((st : State) → ¬ Moves S u.state k st)
