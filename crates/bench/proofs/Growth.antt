-- What nodes added to the table leave as it was.
use Rattle.std.proofs.Common.{◌≡◌, ℕ, suc, ◌<◌, List, [], ◌∷◌, ◌++◌, map, length, slice_index_or, None, Option, refl, sym, ap, ap₂, subst, ◌∙◌, ⊎_elim, arith}
use Rattle.std.proofs.lemmas.Bool.{cases_lt}
use Rattle.std.proofs.lemmas.List.{length_push, map_push, get_or_append_left, get_or_push}
use Rattle.std.proofs.Math.Logic.{∥∥₁_map}
use mathlib.Core.Option.{some, some-injective}
use Rattle.terms.specs.Terms.{Term}
use Rattle.terms.specs.Nodes.{at, says, term}
use Rattle.terms.specs.declared.node.Node.{Node}
use Rattle.terms.specs.declared.number.NodeNo.{NodeNo}
use Rattle.protocol.specs.declared.step.Action.{Action}
use Rattle.runs.specs.Protocols.{Protocol, TermAction}
use Rattle.runs.specs.Runs.{Values}
use Rattle.runs.specs.Tables.{action_of}
use Rattle.runs.specs.Valued.{valued}
use Rattle.playing.specs.Calls.{Situation, Reached, Writable, writing}
use Rattle.playing.proofs.Running.{writing_good}
use Rattle.bench.specs.Places.{next_in, terms_at, state_in, situation_in, KeptIn, HeldIn, run_places, Placed, Extends}
use Rattle.bench.specs.declared.standing.Standing.{Standing}
use Rattle.bench.proofs.Places.{extends_term, extends_told, extends_values}

abbrev no_node_no : NodeNo
no_node_no = record { 0 = 0 }

pub extends_held : (ns ms : List Node) (ws : List NodeNo) → Extends ns ms → HeldIn ns ws → HeldIn ms ws
extends_held ns ms ws e h i l = (extends_term ns ms e (slice_index_or ws i no_node_no).0 (h i l)).0

tail_held : (ns : List Node) (p : NodeNo) (ws : List NodeNo) → HeldIn ns (p ∷ ws) → HeldIn ns ws
tail_held ns p ws h i l = h (suc i) (omega (arith, l))

-- terms at places that are held
pub extends_terms : (ns ms : List Node) (ws : List NodeNo) → Extends ns ms → HeldIn ns ws → terms_at ms ws ≡ terms_at ns ws
extends_terms ns ms [] e h = refl
extends_terms ns ms (p ∷ ws) e h = ap₂ (λ (t : Term) (ts : List Term). t ∷ ts) (extends_term ns ms e p.0 (h 0 (omega arith))).1 (extends_terms ns ms ws e (tail_held ns p ws h))

-- and actions over them
pub extends_run : (ns ms : List Node) (acts : List Action) → Extends ns ms → HeldIn ns (run_places acts) → map (action_of ms) acts ≡ map (action_of ns) acts
extends_run ns ms [] e h = refl
extends_run ns ms (a ∷ acts) e h =
    ap₂ (λ (x : TermAction) (xs : List TermAction). x ∷ xs)
    (ap (λ (t : Term). record { direction = a.direction; label = a.label.0; term = t }) (extends_term ns ms e a.node.0 (h 0 (omega arith))).1)
    (extends_run ns ms acts e (tail_held ns a.node (run_places acts) h))

pub extends_placed : (ns ms ss : List Node) (vs ps : List (Option NodeNo)) → Extends ns ms → KeptIn ns vs → KeptIn ns ps → Placed ns ss vs ps → Placed ms ss vs ps
extends_placed ns ms ss vs ps e k j h i l =
    extends_told ns ms e (slice_index_or ps i None) (j i) ∙ h i l ∙ ap (λ (v : Values). valued v (term ss i)) (sym (extends_values ns ms vs e k))

pub extends_situation : (ns ms : List Node) (ss : List Standing) (vs : List (Option NodeNo)) (acts : List Action) (ws : List NodeNo) → Extends ns ms → KeptIn ns vs → HeldIn ns (run_places acts) → HeldIn ns ws → situation_in ms ss vs acts ws ≡ situation_in ns ss vs acts ws
extends_situation ns ms ss vs acts ws e k r w =
    ap₂ (λ (v : Values) (xs : List TermAction). record { state = record { next = next_in ss; value = v; run = xs }; written = terms_at ms ws }) (extends_values ns ms vs e k) (extends_run ns ms acts e r)
    ∙ ap (λ (ts : List Term). record { state = state_in ns ss vs acts; written = ts }) (extends_terms ns ms ws e w)

-- one place more
pub held_push : (ns : List Node) (ws : List NodeNo) (p : NodeNo) → HeldIn ns ws → p.0 < length ns → HeldIn ns (ws ++ (p ∷ []))
held_push ns ws p h l i m =
    ⊎_elim
    (λ s. subst (λ (q : NodeNo). q.0 < length ns) (sym (get_or_append_left ws (p ∷ []) no_node_no i s)) (h i s))
    (λ s. subst (λ (q : NodeNo). q.0 < length ns) (sym (get_or_push ws p no_node_no i (omega (arith, s, m, length_push ws p)))) l)
    (cases_lt i (length ws))

-- a node is written
pub wrote_situation : (ns ms : List Node) (ss : List Standing) (vs : List (Option NodeNo)) (acts : List Action) (ws : List NodeNo) (p : NodeNo) (n m : Node) → Extends ns ms → KeptIn ns vs → HeldIn ns (run_places acts) → HeldIn ns ws → some (says (term ns) m) ≡ some (term ms p.0) → says (term ns) m ≡ says (at (terms_at ns ws)) n → situation_in ms ss vs acts (ws ++ (p ∷ [])) ≡ writing (situation_in ns ss vs acts ws) n
wrote_situation ns ms ss vs acts ws p n m e k r w g h =
    let t : term ms p.0 ≡ says (at (terms_at ns ws)) n = sym (some-injective (says (term ns) m) (term ms p.0) g) ∙ h in
    ap (λ (ts : List Term). record { state = state_in ms ss vs acts; written = ts }) (map_push (λ (q : NodeNo). term ms q.0) ws p)
    ∙ ap₂ (λ (u : Situation) (x : Term). record { state = u.state; written = u.written ++ (x ∷ []) }) (extends_situation ns ms ss vs acts ws e k r w) t

pub writing_reached : (names : ℕ) (S : Protocol) (u v : Situation) (n : Node) → ∥ Reached S u ∥₁ → Writable names u.written n → v ≡ writing u n → ∥ Reached S v ∥₁
writing_reached names S u v n h w e = ∥∥₁_map h (λ g. writing_good names S u n v w e g)
