-- Whatever row of calls is made, the run is a run of some schedule, and what is written are closed messages.
use Rattle.std.proofs.Common.{◌≡◌, ℕ, List, [], ◌∷◌, ◌++◌, length, Ok, Err, Result, sym, refl, subst, ⊎_elim, arith}
use Rattle.std.proofs.lemmas.List.{get_or_append_left, get_or_push, length_push}
use Rattle.std.proofs.lemmas.Bool.{cases_lt}
use Rattle.terms.specs.Terms.{Term, name, env, var, pair, seal, Closed, Atom, IsName}
use Rattle.terms.specs.Nodes.{says, at}
use Rattle.terms.specs.declared.node.Node.{Node}
use Rattle.terms.specs.declared.node.Node.TheVariants.{Name, Env, Var, Pair, Seal}
use Rattle.terms.specs.declared.number.NodeNo.{NodeNo}
use Rattle.runs.specs.Protocols.{Protocol}
use Rattle.runs.specs.Runs.{Moves, moved, fed, stop}
use Rattle.runs.proofs.Releasing.{runs_on, kept_release}
use Rattle.playing.specs.declared.calls.Call.{Call}
use Rattle.playing.specs.declared.calls.Call.TheVariants as call
use Rattle.playing.specs.declared.faults.WriteFault.{WriteFault}
use Rattle.playing.specs.declared.faults.WriteFault.TheVariants as w
use Rattle.playing.specs.declared.faults.StepFault.{StepFault}
use Rattle.playing.specs.declared.faults.StepFault.TheVariants as s
use Rattle.playing.specs.Calls.{Said, AllSaid, Reached, Situation, opened, Writable, writing, Wrote, Fed, Moved, Called, Plays}
use Rattle.playing.specs.Laws.{PlaysRun, KeptPlay}

name_atom : (t : Term) → IsName t → Closed t × Atom t
name_atom (name n) h = (tt, tt)
name_atom (env n) h = (tt, tt)
name_atom (var x) h = absurd h
name_atom (pair a b) h = absurd h
name_atom (seal a b) h = absurd h

said : (names : ℕ) (ts : List Term) (n : Node) → AllSaid ts → Writable names ts n → Said (says (at ts) n)
said names ts (Name n) h w = (tt, tt)
said names ts (Env e) h w = (tt, tt)
said names ts (Var x) h w = absurd w
said names ts (Pair a b) h w = let p = h a.0 w.0 in let q = h b.0 w.1 in ((p.0, q.0), (p.1, q.1))
said names ts (Seal b k) h w = let p = h b.0 w.0 in let q = name_atom (at ts k.0) w.2 in ((p.0, q.0), (p.1, q.1))

said_more : (ts : List Term) (t : Term) → AllSaid ts → Said t → AllSaid (ts ++ (t ∷ []))
said_more ts t h s i l =
    ⊎_elim
    (λ m. subst Said (sym (get_or_append_left ts (t ∷ []) (name 0) i m)) (h i m))
    (λ m. subst Said (sym (get_or_push ts t (name 0) i (omega (arith, length_push ts t)))) s)
    (cases_lt i (length ts))

pub writing_good : (names : ℕ) (S : Protocol) (u : Situation) (n : Node) (v : Situation) → Writable names u.written n → v ≡ writing u n → Reached S u → Reached S v
writing_good names S u n v w e g = subst (Reached S) (sym e) (g.0, said_more u.written (says (at u.written) n) g.1 (said names u.written n g.1 w))

pub moves_good : (S : Protocol) (u : Situation) (k : ℕ) (v : Situation) → Moves S u.state k v.state → v.written ≡ u.written → Reached S u → Reached S v
moves_good S u k v m e g = ((g.0.0 ++ (k ∷ []), runs_on S g.0.0 u.state k v.state g.0.1 m), subst AllSaid (sym e) g.1)

pub wrote_good : (names : ℕ) (S : Protocol) (u : Situation) (n : Node) (r : Result NodeNo WriteFault) (v : Situation) → Wrote names u n r v → Reached S u → Reached S v
wrote_good names S u n (Ok p) v h g = writing_good names S u n v h.0 h.3 g
wrote_good names S u n (Err w.Unlawful) v h g = subst (Reached S) (sym h.1) g
wrote_good names S u n (Err w.Full) v h g = subst (Reached S) (sym h.2) g

pub fed_good : (S : Protocol) (u : Situation) (k q : ℕ) (r : Result (Unit {0}) StepFault) (v : Situation) → Fed S u k q r v → Reached S u → Reached S v
fed_good S u k q (Ok o) v h g =
    let m = g.1 q h.3 in
    let move = moved h.2 (fed (at u.written q) m.0 m.1 h.4) in
    subst (Reached S) (sym h.5) ((g.0.0 ++ (k ∷ []), runs_on S g.0.0 u.state k _ g.0.1 move), g.1)
fed_good S u k q (Err s.NoStrand) v h g = subst (Reached S) (sym h.1) g
fed_good S u k q (Err s.Finished) v h g = subst (Reached S) (sym h.1) g
fed_good S u k q (Err s.WrongCall) v h g = subst (Reached S) (sym h.3) g
fed_good S u k q (Err s.NotWritten) v h g = subst (Reached S) (sym h.4) g
fed_good S u k q (Err s.NotDerivable) v h g = subst (Reached S) (sym h.5) g
fed_good S u k q (Err s.Stuck) v h g = absurd h

pub moved_good : (S : Protocol) (u : Situation) (k : ℕ) (r : Result (Unit {0}) StepFault) (v : Situation) → Moved S u k r v → Reached S u → Reached S v
moved_good S u k (Ok o) v h g = moves_good S u k v h.3 h.4 g
moved_good S u k (Err s.NoStrand) v h g = subst (Reached S) (sym h.1) g
moved_good S u k (Err s.Finished) v h g = subst (Reached S) (sym h.1) g
moved_good S u k (Err s.WrongCall) v h g = subst (Reached S) (sym h.3) g
moved_good S u k (Err s.NotWritten) v h g = absurd h
moved_good S u k (Err s.NotDerivable) v h g = absurd h
moved_good S u k (Err s.Stuck) v h g = subst (Reached S) (sym h.4) g

pub called_good : (names : ℕ) (S : Protocol) (c : Call) (u v : Situation) → Called names S c u v → Reached S u → Reached S v
called_good names S (call.Write n) u v h g = wrote_good names S u n h.0 v h.1 g
called_good names S (call.Feed k q) u v h g = fed_good S u k.0 q.0 h.0 v h.1 g
called_good names S (call.Move k) u v h g = moved_good S u k.0 h.0 v h.1 g

pub plays_good : (names : ℕ) (S : Protocol) (cs : List Call) (u v : Situation) → Plays names S cs u v → Reached S u → Reached S v
unfolding Plays
plays_good names S [] u v h g = subst (Reached S) (sym h) g
plays_good names S (c ∷ cs) u v h g = plays_good names S cs h.0 v h.2 (called_good names S c u h.0 h.1 g)

pub plays_run : PlaysRun
plays_run names S cs v h = (plays_good names S cs opened v h (([], stop refl), λ i l. absurd (omega arith))).0

pub kept_play : KeptPlay
kept_play names S law budget c a cs v h = let r = plays_run names S cs v h in kept_release S law budget c a r.0 v.state r.1
