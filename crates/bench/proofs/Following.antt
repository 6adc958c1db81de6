-- The next step of a sheet's strand is that of the protocol's.
use Rattle.std.proofs.Common.{◌≡◌, ℕ, ◌≤◌, List, [], map, length, slice_index_or, Ok, Err, Result, sym, ap, subst, ◌∙◌, arith}
use Rattle.std.proofs.lemmas.List.{length-map}
use mathlib.Core.Option.{some-injective}
use Rattle.terms.specs.declared.node.Node.{Node}
use Rattle.protocol.specs.Strands.{TermStep, At, step_of}
use Rattle.protocol.specs.Lawful.{Content, Sound}
use Rattle.protocol.specs.declared.step.Step.{Step}
use Rattle.protocol.specs.declared.step.Step.TheVariants.{Input}
use Rattle.terms.specs.declared.number.Label.{Label}
use Rattle.terms.specs.declared.number.Variable.{Variable}
use Rattle.runs.specs.Protocols.{TermAction, Protocol}
use Rattle.runs.specs.Runs.{Values, State, Does, Moves, moved, messages}
use Rattle.runs.specs.Tables.{described}
use Rattle.runs.proofs.Tabling.{at_to}
use Rattle.playing.specs.Calls.{Situation, IsInput, Next, NoSuchStrand, Done}
use Rattle.playing.specs.declared.faults.StepFault.{StepFault}
use Rattle.playing.specs.declared.faults.StepFault.TheVariants.{NoStrand, Finished, WrongCall, NotWritten, NotDerivable, Stuck}
use Rattle.bench.specs.declared.effect.Effect.{Effect}
use Rattle.bench.specs.Steps.{NextStep, InputAt}
use Rattle.bench.specs.Effects.{TakenBy, MoveAt}
use Rattle.bench.proofs.Performed.{strand_of}

pub next_told : (C : Content) (u : Situation) (k : ℕ) (s : Step) → NextStep C u k (Ok s) → Next (described C) u k (step_of C.nodes s)
next_told C u k s a = at_to (step_of C.nodes) C.strands k (u.state.next k) s a

no_strand : (C : Content) (k : ℕ) → length C.strands ≤ k → NoSuchStrand (described C) k
no_strand C k l = omega (arith, l, length-map C.strands (map (step_of C.nodes)))

done : (C : Content) (u : Situation) (k : ℕ) → NextStep C u k (Err Finished) → Done (described C) u k
done C u k l = (
  omega (arith, l.0, length-map C.strands (map (step_of C.nodes))),
  omega (arith, l.1, ap length (strand_of C k), length-map (slice_index_or C.strands k []) (step_of C.nodes)),
)

pub input_refused : (C : Content) (u : Situation) (k : ℕ) (f : StepFault) → NextStep C u k (Err f) → InputAt (described C) u k (Err f)
input_refused C u k NoStrand h = no_strand C k h
input_refused C u k Finished h = done C u k h
input_refused C u k WrongCall h = absurd h
input_refused C u k NotWritten h = absurd h
input_refused C u k NotDerivable h = absurd h
input_refused C u k Stuck h = absurd h

pub move_refused : (C : Content) (ns : List Node) (u : Situation) (k : ℕ) (f : StepFault) → NextStep C u k (Err f) → MoveAt (described C) ns u k (Err f)
move_refused C ns u k NoStrand h = no_strand C k h
move_refused C ns u k Finished h = done C u k h
move_refused C ns u k WrongCall h = absurd h
move_refused C ns u k NotWritten h = absurd h
move_refused C ns u k NotDerivable h = absurd h
move_refused C ns u k Stuck h = absurd h

-- an input
pub input_next : (C : Content) → Sound C → (u : Situation) (k : ℕ) (s : Step) (l : Label) (x : Variable) → s ≡ Input l x → NextStep C u k (Ok s) → InputAt (described C) u k (Ok (l, x))
input_next C c u k s l x e h =
    let a : NextStep C u k (Ok (Input l x)) = subst (λ (z : Step). NextStep C u k (Ok z)) e h in
    (next_told C u k (Input l x) a, omega (arith, (c.steps_stand k (u.state.next k) (Input l x) a).1, c.few_variables))

-- a step that is none
pub other_next : (C : Content) (u : Situation) (k : ℕ) (s : Step) → ¬ IsInput (step_of C.nodes s) → NextStep C u k (Ok s) → InputAt (described C) u k (Err WrongCall)
other_next C u k s n h = (step_of C.nodes s, next_told C u k s h, n)

-- where a step does nothing there is no move
pub no_move : (S : Protocol) (st : State) (k : ℕ) (p : TermStep) → At S.strands k (st.next k) p → ((w : Values) (r : List TermAction) → ¬ Does st.value (messages st.run) p w r) → (st' : State) → ¬ Moves S st k st'
no_move S st k p a n st' (moved {p = q} {v = w} {more = r} b d) = n w r (subst (λ (z : TermStep). Does st.value (messages st.run) z w r) (some-injective q p (sym b ∙ a)) d)

-- what the step does, a move does
pub taken_at : (C : Content) (ns : List Node) (u : Situation) (k : ℕ) (s : Step) (r : Result Effect StepFault) → NextStep C u k (Ok s) → TakenBy ns u.state.value (messages u.state.run) (step_of C.nodes s) r → MoveAt (described C) ns u k r
taken_at C ns u k s (Ok e) h t = (t.1, (step_of C.nodes s, next_told C u k s h, t.0, t.2))
taken_at C ns u k s (Err NoStrand) h t = absurd t
taken_at C ns u k s (Err Finished) h t = absurd t
taken_at C ns u k s (Err WrongCall) h t = (step_of C.nodes s, next_told C u k s h, t)
taken_at C ns u k s (Err NotWritten) h t = absurd t
taken_at C ns u k s (Err NotDerivable) h t = absurd t
taken_at C ns u k s (Err Stuck) h t = (step_of C.nodes s, next_told C u k s h, t.0, no_move (described C) u.state k (step_of C.nodes s) (next_told C u k s h) t.1)
