-- The calls of a bench: what is fed, and what is moved.
use Rattle.std.proofs.Common.{Decides, ◌≡◌, ℕ, ◌<◌, List, [], ◌∷◌, ◌++◌, map, length, Some, None, Ok, Err, Result, refl, sym, ap, subst, ◌∙◌, arith, Bool}
use Rattle.std.specs.Coded.{×_prop}
use Rattle.std.proofs.Math.Logic.{∥∥₁_elim}
use Rattle.std.proofs.lemmas.List.{length-map, map_push}
use Rattle.terms.specs.Terms.{Term, name, env, var, pair, seal, Message, Atom}
use Rattle.terms.specs.Nodes.{at, term}
use Rattle.terms.specs.declared.node.Node.{Node}
use Rattle.terms.specs.declared.number.NodeNo.{NodeNo}
use Rattle.terms.specs.declared.number.Label.{Label}
use Rattle.terms.specs.declared.number.Variable.{Variable}
use Rattle.protocol.specs.Strands.{input}
use Rattle.protocol.specs.declared.step.Action.{Action}
use Rattle.protocol.specs.declared.step.Direction.TheVariants.{Input}
use Rattle.derivation.specs.Derive.{Derives}
use Rattle.derivation.specs.Noted.{noted_terms}
use Rattle.std.specs.Result.{IsOk}
use Rattle.notebook.specs.Calls.{Derivable, Noted}
use Rattle.notebook.specs.Limits.{most_notes}
use Rattle.notebook.specs.declared.faults.NoteFault.{NoteFault}
use Rattle.notebook.specs.declared.faults.NoteFault.TheVariants.{NotHeld, Full}
use Rattle.pages.specs.Columns.{AllLawful}
use Rattle.pages.proofs.Telling.{terms_closed}
use Rattle.runs.specs.Protocols.{Protocol}
use Rattle.runs.specs.Runs.{fed, messages, Moves, moved}
use Rattle.runs.specs.Tables.{action_of}
use Rattle.playing.specs.Calls.{Situation, Reached, Fed, Moved, feeding}
use Rattle.playing.specs.declared.faults.StepFault.{StepFault}
use Rattle.playing.specs.declared.faults.StepFault.TheVariants.{NoStrand, Finished, WrongCall, NotWritten, NotDerivable, Stuck}
use Rattle.bench.specs.declared.effect.Effect.{Effect}
use Rattle.bench.specs.declared.effect.Effect.TheVariants.{Receive, Send, Open, Split, Agree}
use Rattle.bench.specs.Steps.{noted_in}
use Rattle.bench.specs.Places.{terms_at, Extends}
use Rattle.bench.specs.Tables.{sheet_in, protocol_in, nodes_of, situation}
use Rattle.bench.specs.declared.tables.Tables.{Tables}
use Rattle.judging.proofs.Reading.{law_of}
use Rattle.bench.proofs.Places.{extends_term}
use Rattle.bench.proofs.Performed.{run_small}
use Rattle.bench.specs.Steps.{InputAt, PageOf}
use Rattle.bench.specs.Effects.{EffectHeld, Performs, performed, acted, MoveAt}

-- one action more is noted
noted_push : (acts : List Action) (a : Action) → noted_in (acts ++ (a ∷ [])) ≡ noted_in acts ++ (a.node.0 ∷ [])
noted_push acts a = map_push (λ (b : Action). b.node.0) acts a

-- what is noted are the run's terms
pub noted_messages : (ns : List Node) (acts : List Action) → noted_terms ns (noted_in acts) ≡ messages (map (action_of ns) acts)
noted_messages ns [] = refl
noted_messages ns (a ∷ acts) = ap (λ (ts : List Term). term ns a.node.0 ∷ ts) (noted_messages ns acts)

atom_prop : (t : Term) → IsProp (Atom t)
atom_prop (name n) = λ a b. refl
atom_prop (env n) = λ a b. refl
atom_prop (var x) = λ a b. refl
atom_prop (pair a b) = λ p q. absurd p
atom_prop (seal b k) = λ p q. absurd p

pub message_prop : (t : Term) → IsProp (Message t)
message_prop (name n) = λ a b. refl
message_prop (env n) = λ a b. refl
message_prop (var x) = λ a b. refl
message_prop (pair a b) = ×_prop (message_prop a) (message_prop b)
message_prop (seal b k) = ×_prop (message_prop b) (atom_prop k)

-- a message that is written and can be put together is fed
pub fed_performs : (S : Protocol) (ns : List Node) (acts : List Action) (ws : List NodeNo) (u : Situation) (k q : ℕ) (l : Label) (x : Variable) (p : NodeNo) → AllLawful ns → ∥ Reached S u ∥₁ → u.written ≡ terms_at ns ws → u.state.run ≡ map (action_of ns) acts → InputAt S u k (Ok (l, x)) → PageOf ns ws q (Some p) → Derives (messages (map (action_of ns) acts)) (term ns p.0) → Performs S ns u.state k (Receive (record { direction = Input; label = l; node = p }) x)
fed_performs S ns acts ws u k q l x p law h w r i g d =
    let length_is : length ws ≡ length u.written = sym (ap length w ∙ length-map ws (λ (z : NodeNo). term ns z.0)) in
    let said : Message (at u.written q) = ∥∥₁_elim h (message_prop (at u.written q)) (λ z. (z.1 q (omega (arith, g.0, length_is))).1) in
    let is : at u.written q ≡ term ns p.0 = ap (λ (ts : List Term). at ts q) w ∙ g.2 in
    (input l.0 x.0, i.0, fed (term ns p.0) (terms_closed ns law p.0 g.1) (subst Message is said) (subst (λ (K : List Term). Derives K (term ns p.0)) (sym (ap messages r)) d))

pub fed_well : (S : Protocol) (ns : List Node) (acts : List Action) (ws : List NodeNo) (u v : Situation) (k q : ℕ) (l : Label) (x : Variable) (p : NodeNo) → u.written ≡ terms_at ns ws → u.state.run ≡ map (action_of ns) acts → InputAt S u k (Ok (l, x)) → PageOf ns ws q (Some p) → Derives (messages (map (action_of ns) acts)) (term ns p.0) → v ≡ performed ns u k (Receive (record { direction = Input; label = l; node = p }) x) → Fed S u k q (Ok tt) v
fed_well S ns acts ws u v k q l x p w r i g d e =
    let length_is : length ws ≡ length u.written = sym (ap length w ∙ length-map ws (λ (z : NodeNo). term ns z.0)) in
    let is : at u.written q ≡ term ns p.0 = ap (λ (ts : List Term). at ts q) w ∙ g.2 in
    (l.0, x.0, i.0, omega (arith, g.0, length_is), rw is (subst (λ (K : List Term). Derives K (term ns p.0)) (sym (ap messages r)) d), e ∙ ap (feeding u k l.0 x.0) (sym is))

-- what is not written, and what cannot be put together
pub not_written : (S : Protocol) (ns : List Node) (ws : List NodeNo) (u : Situation) (k q : ℕ) (l : Label) (x : Variable) → u.written ≡ terms_at ns ws → InputAt S u k (Ok (l, x)) → PageOf ns ws q None → Fed S u k q (Err NotWritten) u
not_written S ns ws u k q l x w i g = (input l.0 x.0, i.0, tt, omega (arith, g, ap length w, length-map ws (λ (z : NodeNo). term ns z.0)), refl)

pub not_derivable : (S : Protocol) (ns : List Node) (acts : List Action) (ws : List NodeNo) (u : Situation) (k q : ℕ) (l : Label) (x : Variable) (p : NodeNo) → u.written ≡ terms_at ns ws → u.state.run ≡ map (action_of ns) acts → InputAt S u k (Ok (l, x)) → PageOf ns ws q (Some p) → ¬ Derives (messages (map (action_of ns) acts)) (term ns p.0) → Fed S u k q (Err NotDerivable) u
not_derivable S ns acts ws u k q l x p w r i g n =
    let is : at u.written q ≡ term ns p.0 = ap (λ (ts : List Term). at ts q) w ∙ g.2 in (
      input l.0 x.0,
      i.0,
      tt,
      omega (arith, g.0, ap length w, length-map ws (λ (z : NodeNo). term ns z.0)),
      (λ d. n (subst (λ (K : List Term). Derives K (term ns p.0)) (ap messages r) (subst (Derives (messages u.state.run)) is d))),
      refl,
    )

-- a move is made, or not
pub moved_well : (S : Protocol) (ns : List Node) (u v : Situation) (k : ℕ) (e : Effect) → MoveAt S ns u k (Ok e) → v ≡ performed ns u k e → Moved S u k (Ok tt) v
moved_well S ns u v k e h f = (h.1.0, h.1.1, h.1.2, subst (λ (z : Situation). Moves S u.state k z.state) (sym f) (moved h.1.1 h.1.3), ap (λ (z : Situation). z.written) f)

pub not_moved : (S : Protocol) (ns : List Node) (u : Situation) (k : ℕ) (f : StepFault) → MoveAt S ns u k (Err f) → Moved S u k (Err f) u
not_moved S ns u k NoStrand h = (h, refl)
not_moved S ns u k Finished h = (h, refl)
not_moved S ns u k WrongCall h = (h.0, h.1, h.2, refl)
not_moved S ns u k NotWritten h = h
not_moved S ns u k NotDerivable h = h
not_moved S ns u k Stuck h = (h.0, h.1, h.2, h.3, refl)

-- a strand that is at no input is not fed
pub not_fed : (S : Protocol) (u : Situation) (k q : ℕ) (f : StepFault) → InputAt S u k (Err f) → Fed S u k q (Err f) u
not_fed S u k q NoStrand h = (h, refl)
not_fed S u k q Finished h = (h, refl)
not_fed S u k q WrongCall h = (h.0, h.1, h.2, refl)
not_fed S u k q NotWritten h = absurd h
not_fed S u k q NotDerivable h = absurd h
not_fed S u k q Stuck h = absurd h

-- what the notebook answers, of the pages
derivable_told : (ns ms : List Node) (l m : List ℕ) (p : NodeNo) (r : Bool) → ns ≡ ms → l ≡ m → Derivable ns l p r → Derivable ms m p r
derivable_told ns ms l m p r e f d = rw (← e, ← f) d

pub noted_acted : (acts bs : List Action) (e : List Action) (a : Action) → bs ≡ acts ++ e → e ≡ a ∷ [] → noted_in bs ≡ noted_in acts ++ (a.node.0 ∷ [])
noted_acted acts bs e a f g = ap noted_in (f ∙ ap (λ (l : List Action). acts ++ l) g) ∙ noted_push acts a

list_one : {a b : Action} → ◌≡◌ {A = List Action} (a ∷ []) (b ∷ []) → a ≡ b
list_one e = grind arith

no_list : {b : Action} → ◌≡◌ {A = List Action} [] (b ∷ []) → ⊥
no_list e = grind arith

-- the place of an action that a step adds
acted_place : (ns : List Node) (e : Effect) (a : Action) → EffectHeld ns e → acted e ≡ a ∷ [] → a.node.0 < length ns
acted_place ns (Receive b x) a h e = subst (λ (z : Action). z.node.0 < length ns) (list_one e) h.0
acted_place ns (Send b) a h e = subst (λ (z : Action). z.node.0 < length ns) (list_one e) h
acted_place ns (Open x p) a h e = absurd (no_list e)
acted_place ns (Split x p y q) a h e = absurd (no_list e)
acted_place ns Agree a h e = absurd (no_list e)

note_taken : (ns ms : List Node) (l m : List ℕ) (p : NodeNo) (r : Result (Unit {0}) NoteFault) → p.0 < length ns → length l < most_notes → Noted ns l p r ms m → (IsOk r) × (ms ≡ ns) × (m ≡ l ++ (p.0 ∷ []))
note_taken ns ms l m p (Ok u) h k n = (refl, n.2, n.3)
note_taken ns ms l m p (Err NotHeld) h k n = absurd (omega (arith, h, n.0))
note_taken ns ms l m p (Err Full) h k n = absurd (omega (arith, k, n.1))

-- the action of a step is noted
pub step_noted : (t : Tables) (k : ℕ) (e : Effect) (a : Action) (ns ms : List Node) (l m : List ℕ) (r : Result (Unit {0}) NoteFault) → EffectHeld (nodes_of t) e → Performs (protocol_in t) (nodes_of t) (situation t).state k e → acted e ≡ a ∷ [] → Extends (nodes_of t) ns → l ≡ noted_in t.run.items → Noted ns l a.node r ms m → (IsOk r) × (ms ≡ ns) × (m ≡ l ++ (a.node.0 ∷ []))
step_noted t k e a ns ms l m r h d f x n q =
    let small = run_small (sheet_in t) (law_of t.sheet) (situation t) t.reached k d.0 d.1 in
    note_taken ns ms l m a.node r (extends_term (nodes_of t) ns x a.node.0 (acted_place (nodes_of t) e a h f)).0
    (omega (arith, small, length-map t.run.items (action_of (nodes_of t)), ap length n, length-map t.run.items (λ (b : Action). b.node.0)))
    q

-- what the notebook answers, of the run
pub derives_told : (ns ms : List Node) (l : List ℕ) (acts : List Action) (p : NodeNo) (r : Bool) → ns ≡ ms → l ≡ noted_in acts → p.0 < length ms → Derivable ns l p r → Decides r (Derives (messages (map (action_of ms) acts)) (term ms p.0))
derives_told ns ms l acts p r e f h d =
    let t = derivable_told ns ms l (noted_in acts) p r e f d in
    rw (← noted_messages ms acts) (λ y. (t.0 y).1, λ y. t.1 (h, y))
