-- A step is taken: the tables after it.
use Rattle.std.proofs.Common.{◌≡◌, ℕ, ◌<◌, ◌≤◌, List, [], ◌∷◌, ◌++◌, map, length, slice_index_or, Option, refl, sym, ap, ap₂, subst, ◌∙◌, append-nil, ⊎_elim, arith}
use Rattle.std.proofs.lemmas.Bool.{cases_lt}
use Rattle.std.proofs.lemmas.List.{length-map, map_push, get_or_past}
use lib.ListN.{get_or-map}
use Rattle.std.proofs.Math.Logic.{∥∥₁_map, ∥∥₁_elim}
use Rattle.std.specs.Coded.{le_prop}
use Rattle.terms.specs.Terms.{Term}
use Rattle.terms.specs.declared.node.Node.{Node}
use Rattle.terms.specs.declared.number.NodeNo.{NodeNo}
use Rattle.protocol.specs.Strands.{TermStep, At, step_of}
use Rattle.protocol.specs.Lawful.{Content, Sound, Lawful}
use Rattle.protocol.specs.declared.step.Action.{Action}
use Rattle.sheet.specs.Sheets.{content_of}
use Rattle.sheet.specs.declared.sheet.Sheet.{Sheet}
use Rattle.runs.specs.Protocols.{TermAction, Protocol, strand, LawfulProtocol}
use Rattle.runs.specs.Runs.{Values, Moves, moved, onward}
use Rattle.runs.specs.Tables.{action_of, described}
use Rattle.runs.proofs.Tabling.{described_lawful}
use Rattle.runs.proofs.Inspecting.{law_told}
use Rattle.runs.proofs.Valuing.{run_room}
use Rattle.runs.proofs.Apartness.{place_below}
use Rattle.playing.specs.Calls.{Situation, Reached}
use Rattle.playing.proofs.Running.{moves_good}
use Rattle.bench.specs.declared.standing.Standing.{Standing}
use Rattle.bench.specs.declared.effect.Effect.{Effect}
use Rattle.bench.specs.declared.effect.Effect.TheVariants.{Receive, Send, Open, Split, Agree}
use Rattle.judging.specs.Places.{values_in}
use Rattle.bench.specs.Places.{next_in, terms_at, situation_in, run_places, HeldIn, KeptIn, Extends}
use Rattle.bench.specs.Effects.{bound, added, acted, EffectHeld, Performs, performed}
use Rattle.bench.proofs.Places.{extends_term, extends_values}
use Rattle.bench.proofs.Growth.{extends_run, extends_terms, held_push}

-- the sheet's protocol is lawful
pub sheet_lawful : (s : Sheet) → LawfulProtocol (described (content_of s))
sheet_lawful s = described_lawful (content_of s) (law_told (content_of s) s.lawful)

pub strand_of : (C : Content) (k : ℕ) → strand (described C) k ≡ map (step_of C.nodes) (slice_index_or C.strands k [])
strand_of C k = get_or-map (map (step_of C.nodes)) C.strands k []

strand_long : (C : Content) → Sound C → (k : ℕ) → length (strand (described C) k) ≤ 16
strand_long C s k = omega (arith, s.few_steps k, ap length (strand_of C k), length-map (slice_index_or C.strands k []) (step_of C.nodes))

-- where there is a next step, there is the strand, the step's number is small, and so is the run
pub next_small : (C : Content) → Sound C → (u : Situation) (k : ℕ) (p : TermStep) → At (described C).strands k (u.state.next k) p → (k < length C.strands) × (u.state.next k < 16)
next_small C s u k p a =
    let l = place_below (strand (described C) k) (u.state.next k) p a in (
      ⊎_elim
          (λ h. h)
          (λ h. absurd (omega (arith, l, ap length (strand_of C k ∙ ap (map (step_of C.nodes)) (get_or_past C.strands k [] h)))))
          (cases_lt k (length C.strands)),
      omega (arith, l, strand_long C s k),
    )

pub run_small : (C : Content) → Lawful C → (u : Situation) → ∥ Reached (described C) u ∥₁ → (k : ℕ) (p : TermStep) → At (described C).strands k (u.state.next k) p → length u.state.run < 128
run_small C law u h k p a =
    ∥∥₁_elim h le_prop
    (λ g. run_room (described C) g.0.0 u.state g.0.1 8 16 (omega (arith, law.sound.few_strands, length-map C.strands (map (step_of C.nodes)))) (strand_long C law.sound) k p a)

acted_run : (ns : List Node) (acts : List Action) (e : Effect) → map (action_of ns) (acts ++ acted e) ≡ map (action_of ns) acts ++ added ns e
acted_run ns acts (Receive a x) = map_push (action_of ns) acts a
acted_run ns acts (Send a) = map_push (action_of ns) acts a
acted_run ns acts (Open x p) = ap (map (action_of ns)) (append-nil acts) ∙ sym (append-nil (map (action_of ns) acts))
acted_run ns acts (Split x p y q) = ap (map (action_of ns)) (append-nil acts) ∙ sym (append-nil (map (action_of ns) acts))
acted_run ns acts Agree = ap (map (action_of ns)) (append-nil acts) ∙ sym (append-nil (map (action_of ns) acts))

added_grown : (ns ms : List Node) (e : Effect) → Extends ns ms → EffectHeld ns e → added ms e ≡ added ns e
added_grown ns ms (Receive a x) e h = ap (λ (t : Term). record { direction = a.direction; label = a.label.0; term = t } ∷ []) (extends_term ns ms e a.node.0 h.0).1
added_grown ns ms (Send a) e h = ap (λ (t : Term). record { direction = a.direction; label = a.label.0; term = t } ∷ []) (extends_term ns ms e a.node.0 h).1
added_grown ns ms (Open x p) e h = refl
added_grown ns ms (Split x p y q) e h = refl
added_grown ns ms Agree e h = refl

-- where the run stands after a step
pub performed_situation : (ns ms : List Node) (ss ts : List Standing) (vs ws : List (Option NodeNo)) (acts bs : List Action) (ps : List NodeNo) (k : ℕ) (e : Effect) → Extends ns ms → KeptIn ns ws → HeldIn ns (run_places acts) → HeldIn ns ps → EffectHeld ns e → next_in ts ≡ onward (next_in ss) k → values_in ns ws ≡ bound ns (values_in ns vs) e → bs ≡ acts ++ acted e → situation_in ms ts ws bs ps ≡ performed ns (situation_in ns ss vs acts ps) k e
performed_situation ns ms ss ts vs ws acts bs ps k e x kept held hps he n v b =
    let values : values_in ms ws ≡ bound ns (values_in ns vs) e = extends_values ns ms ws x kept ∙ v in
    let run : map (action_of ms) bs ≡ map (action_of ns) acts ++ added ns e = ap (map (action_of ms)) b ∙ acted_run ms acts e ∙ ap₂ (λ (l m : List TermAction). l ++ m) (extends_run ns ms acts x held) (added_grown ns ms e x he) in
    ap₂ (λ (f : ℕ → ℕ) (w : Values). record { state = record { next = f; value = w; run = map (action_of ms) bs }; written = terms_at ms ps }) n values
    ∙ ap₂ (λ (r : List TermAction) (ts : List Term). record { state = record { next = onward (next_in ss) k; value = bound ns (values_in ns vs) e; run = r }; written = ts }) run (extends_terms ns ms ps x hps)

-- which is a run's again
pub performed_reached : (S : Protocol) (ns : List Node) (u v : Situation) (k : ℕ) (e : Effect) → ∥ Reached S u ∥₁ → Performs S ns u.state k e → v ≡ performed ns u k e → ∥ Reached S v ∥₁
performed_reached S ns u v k e h d f = ∥∥₁_map h (λ g. moves_good S u k v (subst (λ (z : Situation). Moves S u.state k z.state) (sym f) (moved d.1 d.2)) (ap (λ (z : Situation). z.written) f) g)

-- the places of the run, one more
pub acted_held : (ns : List Node) (acts bs : List Action) (e : Effect) → bs ≡ acts ++ acted e → EffectHeld ns e → HeldIn ns (run_places acts) → HeldIn ns (run_places bs)
acted_held ns acts bs (Receive a x) f h k = subst (λ (l : List NodeNo). HeldIn ns l) (sym (ap run_places f ∙ map_push (λ (b : Action). b.node) acts a)) (held_push ns (run_places acts) a.node k h.0)
acted_held ns acts bs (Send a) f h k = subst (λ (l : List NodeNo). HeldIn ns l) (sym (ap run_places f ∙ map_push (λ (b : Action). b.node) acts a)) (held_push ns (run_places acts) a.node k h)
acted_held ns acts bs (Open x p) f h k = subst (λ (l : List Action). HeldIn ns (run_places l)) (sym (f ∙ append-nil acts)) k
acted_held ns acts bs (Split x p y q) f h k = subst (λ (l : List Action). HeldIn ns (run_places l)) (sym (f ∙ append-nil acts)) k
acted_held ns acts bs Agree f h k = subst (λ (l : List Action). HeldIn ns (run_places l)) (sym (f ∙ append-nil acts)) k
