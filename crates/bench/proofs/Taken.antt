-- Whether a step can be taken, told by the places of values.
use Rattle.std.proofs.Common.{◌≡◌, ℕ, ◌<◌, List, [], ◌∷◌, length, Some, None, Option, Result, sym, ap, subst, ◌∙◌, arith, slice_index_or}
use mathlib.Core.Option.{Option as Maybe, none, some, some-injective}
use Rattle.terms.specs.Terms.{Term, pair, seal, Message}
use Rattle.terms.specs.Nodes.{term}
use Rattle.terms.specs.declared.node.Node.{Node}
use Rattle.terms.specs.declared.number.NodeNo.{NodeNo}
use Rattle.terms.specs.declared.number.Variable.{Variable}
use Rattle.protocol.specs.Strands.{TermStep, output, opens, splits, same, first, second, variable, step_of}
use Rattle.protocol.specs.declared.step.Step.TheVariants as step
use Rattle.protocol.specs.declared.step.Action.{Action}
use Rattle.protocol.specs.declared.step.Direction.{Direction}
use Rattle.protocol.specs.declared.step.Direction.TheVariants.{Output}
use Rattle.runs.specs.Protocols.{TermAction}
use Rattle.runs.specs.Runs.{Values, Does, put_out, opened, halved, agreed}
use Rattle.runs.specs.Valued.{valued}
use Rattle.runs.proofs.Valuing.{means_valued, valued_means}
use Rattle.std.specs.Option.{ok_or}
use Rattle.playing.specs.Calls.{IsInput}
use Rattle.playing.specs.declared.faults.StepFault.{StepFault}
use Rattle.playing.specs.declared.faults.StepFault.TheVariants.{Stuck}
use Rattle.bench.specs.declared.effect.Effect.{Effect}
use Rattle.judging.specs.Places.{term_at, PartsAt}
use Rattle.bench.specs.Effects.{ValueAt, DoneBy, TakenBy, OpenedBy, SplitBy}
use Rattle.bench.specs.Tables.{sheet_in, nodes_of, situation}
use Rattle.bench.specs.declared.tables.Tables.{Tables}
use Rattle.bench.specs.declared.effect.Effect.TheVariants.{Send, Open, Split, Agree}

pub value_at : (t : Tables) (i : ℕ) (o : Option NodeNo) → i < length (sheet_in t).nodes → o ≡ slice_index_or t.placed i None → ValueAt (nodes_of t) (situation t).state.value (term (sheet_in t).nodes i) o
value_at t i None l e = sym (t.told i l) ∙ ap (term_at (nodes_of t)) (sym e)
value_at t i (Some p) l e = (t.placed_held i p (sym e), sym (t.told i l) ∙ ap (term_at (nodes_of t)) (sym e))

none_some : {M : Term} → ◌≡◌ {A = Maybe Term} none (some M) → ⊥
none_some e = grind arith

-- an output
pub send_no_value : (ns : List Node) (v : Values) (K : List Term) (l : ℕ) (t : Term) → ValueAt ns v t None → DoneBy ns v K (output l t) None
send_no_value ns v K l t h w r (put_out m a) = none_some (sym h ∙ means_valued m)

no_message : (v : Values) (K : List Term) (l : ℕ) (t T : Term) (w : Values) (r : List TermAction) → valued v t ≡ some T → ¬ Message T → ¬ Does v K (output l t) w r
no_message v K l t T w r h n (put_out {M = M} m a) = n (subst Message (some-injective M T (sym (means_valued m) ∙ h)) a)

pub send_no_message : (ns : List Node) (v : Values) (K : List Term) (l : ℕ) (t : Term) (p : NodeNo) → ValueAt ns v t (Some p) → ¬ Message (term ns p.0) → DoneBy ns v K (output l t) None
send_no_message ns v K l t p h n w r = no_message v K l t (term ns p.0) w r h.1 n

pub send_yes : (ns : List Node) (v : Values) (K : List Term) (a : Action) (t : Term) → ValueAt ns v t (Some a.node) → Message (term ns a.node.0) → a.direction ≡ Output → DoneBy ns v K (output a.label.0 t) (Some (Send a))
send_yes ns v K a t h m e =
    (h.0, subst (λ (d : Direction). Does v K (output a.label.0 t) v (record { direction = d; label = a.label.0; term = term ns a.node.0 } ∷ [])) (sym e) (put_out (valued_means v t (term ns a.node.0) h.1) m))

-- an open
pub open_no_value : (ns : List Node) (v : Values) (K : List Term) (t : Term) (x : ℕ) (c : Term) → ValueAt ns v t None → DoneBy ns v K (opens t x c) None
open_no_value ns v K t x c h w r (opened m k) = none_some (sym h ∙ means_valued m)

pub open_no_key : (ns : List Node) (v : Values) (K : List Term) (t : Term) (x : ℕ) (c : Term) → ValueAt ns v c None → DoneBy ns v K (opens t x c) None
open_no_key ns v K t x c h w r (opened m k) = none_some (sym h ∙ means_valued k)

pub open_no_seal : (ns : List Node) (v : Values) (K : List Term) (t : Term) (x : ℕ) (c : Term) (p : NodeNo) → ValueAt ns v t (Some p) → PartsAt seal ns p.0 None → DoneBy ns v K (opens t x c) None
open_no_seal ns v K t x c p h n w r (opened {b = b} {c = k} m d) = n b k (some-injective (term ns p.0) (seal b k) (sym h.1 ∙ means_valued m))

pub open_other : (ns : List Node) (v : Values) (K : List Term) (t : Term) (x : ℕ) (c : Term) (p q b k : NodeNo) → ValueAt ns v t (Some p) → ValueAt ns v c (Some q) → PartsAt seal ns p.0 (Some (b, k)) → ¬ (term ns k.0 ≡ term ns q.0) → DoneBy ns v K (opens t x c) None
open_other ns v K t x c p q b k h g s n w r (opened {b = b'} {c = k'} m d) =
    let e : seal (term ns b.0) (term ns k.0) ≡ seal b' k' = sym s.2 ∙ some-injective (term ns p.0) (seal b' k') (sym h.1 ∙ means_valued m) in
    let f : term ns q.0 ≡ k' = some-injective (term ns q.0) k' (sym g.1 ∙ means_valued d) in
    n (ap second e ∙ sym f)

pub open_yes : (ns : List Node) (v : Values) (K : List Term) (t : Term) (x : Variable) (c : Term) (p q b k : NodeNo) → x.0 < 64 → ValueAt ns v t (Some p) → ValueAt ns v c (Some q) → PartsAt seal ns p.0 (Some (b, k)) → term ns k.0 ≡ term ns q.0 → DoneBy ns v K (opens t x.0 c) (Some (Open x b))
open_yes ns v K t x c p q b k l h g s e =
    ((s.0, l), opened (valued_means v t (seal (term ns b.0) (term ns k.0)) (h.1 ∙ ap some s.2)) (valued_means v c (term ns k.0) (g.1 ∙ ap some (sym e))))

-- a split
pub split_no_value : (ns : List Node) (v : Values) (K : List Term) (t : Term) (x y : ℕ) → ValueAt ns v t None → DoneBy ns v K (splits t x y) None
split_no_value ns v K t x y h w r (halved m) = none_some (sym h ∙ means_valued m)

pub split_no_pair : (ns : List Node) (v : Values) (K : List Term) (t : Term) (x y : ℕ) (p : NodeNo) → ValueAt ns v t (Some p) → PartsAt pair ns p.0 None → DoneBy ns v K (splits t x y) None
split_no_pair ns v K t x y p h n w r (halved {a = a} {b = b} m) = n a b (some-injective (term ns p.0) (pair a b) (sym h.1 ∙ means_valued m))

pub split_yes : (ns : List Node) (v : Values) (K : List Term) (t : Term) (x y : Variable) (p a b : NodeNo) → x.0 < 64 → y.0 < 64 → ValueAt ns v t (Some p) → PartsAt pair ns p.0 (Some (a, b)) → DoneBy ns v K (splits t x.0 y.0) (Some (Split x a y b))
split_yes ns v K t x y p a b l m h s =
    ((s.0, l, s.1, m), halved (valued_means v t (pair (term ns a.0) (term ns b.0)) (h.1 ∙ ap some s.2)))

-- a same
pub same_no_first : (ns : List Node) (v : Values) (K : List Term) (t u : Term) → ValueAt ns v t None → DoneBy ns v K (same t u) None
same_no_first ns v K t u h w r (agreed m n) = none_some (sym h ∙ means_valued m)

pub same_no_second : (ns : List Node) (v : Values) (K : List Term) (t u : Term) → ValueAt ns v u None → DoneBy ns v K (same t u) None
same_no_second ns v K t u h w r (agreed m n) = none_some (sym h ∙ means_valued n)

pub same_other : (ns : List Node) (v : Values) (K : List Term) (t u : Term) (p q : NodeNo) → ValueAt ns v t (Some p) → ValueAt ns v u (Some q) → ¬ (term ns p.0 ≡ term ns q.0) → DoneBy ns v K (same t u) None
same_other ns v K t u p q h g n w r (agreed {M = M} m d) =
    n (some-injective (term ns p.0) M (sym h.1 ∙ means_valued m) ∙ sym (some-injective (term ns q.0) M (sym g.1 ∙ means_valued d)))

pub same_yes : (ns : List Node) (v : Values) (K : List Term) (t u : Term) (p q : NodeNo) → ValueAt ns v t (Some p) → ValueAt ns v u (Some q) → term ns p.0 ≡ term ns q.0 → DoneBy ns v K (same t u) (Some Agree)
same_yes ns v K t u p q h g e = (tt, agreed (valued_means v t (term ns p.0) h.1) (valued_means v u (term ns p.0) (g.1 ∙ ap some (sym e))))

-- a step that is no input is taken, or the strand is stuck
pub taken : (ns : List Node) (v : Values) (K : List Term) (p q : TermStep) (o : Option Effect) (r : Result Effect StepFault) → q ≡ p → ¬ IsInput p → r ≡ ok_or o Stuck → DoneBy ns v K p o → TakenBy ns v K q r
taken ns v K p q None r f i e d = rw (f, e) (i, d)
taken ns v K p q (Some x) r f i e d = rw (f, e) (i, d.0, d.1)

pub opens_by : (ss : List Node) (s p : NodeNo) (xk : Variable × NodeNo) → OpenedBy ss p.0 (Some xk) → step_of ss (step.Open s p) ≡ opens (term ss s.0) xk.0.0 (term ss xk.1.0)
opens_by ss s p (x, k) h = ap (λ (t : Term). opens (term ss s.0) (variable (first t)) (second t)) h.2

pub splits_by : (ss : List Node) (s p : NodeNo) (xy : Variable × Variable) → SplitBy ss p.0 (Some xy) → step_of ss (step.Split s p) ≡ splits (term ss s.0) xy.0.0 xy.1.0
splits_by ss s p (x, y) h = ap (λ (t : Term). splits (term ss s.0) (variable (first t)) (variable (second t))) h.2
