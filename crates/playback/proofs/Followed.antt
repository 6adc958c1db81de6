-- A run file is followed line by line.
use Rattle.std.proofs.Common.{◌≡◌, ℕ, ◌+◌, ◌≤◌, List, length, Some, None, Option, Ok, Err, Result, refl, ap, subst, ◌∙◌, arith}
use Rattle.runs.specs.Protocols.{Protocol}
use Rattle.runs.specs.Tables.{described}
use Rattle.protocol.specs.Lawful.{Content}
use Rattle.playing.specs.Calls.{Situation, opened}
use Rattle.playing.specs.Verdicts.{VerdictOf}
use Rattle.playing.specs.declared.verdict.Verdict.{Verdict}
use Rattle.records.specs.declared.record.FileFault.TheVariants.{Cut}
use Rattle.replays.specs.Lines.{rec, node, step, more_nodes, more_steps, HasRoom}
use Rattle.replays.specs.Lines as lines
use Rattle.replays.specs.Decoding.{line_of}
use Rattle.replays.specs.Reading.{left, nodes_read, steps_read, records_read, NextLine}
use Rattle.replays.specs.declared.reader.RunReader.{RunReader}
use Rattle.replays.specs.Replaying.{Replays, ended, cut, wrong, full, stopped, goes}
use Rattle.replays.specs.declared.line.Line.{Line}
use Rattle.replays.specs.declared.faults.RunFault.{RunFault}
use Rattle.replays.specs.declared.faults.RunFault.TheVariants.{File, Kind, Limit}
use Rattle.replays.specs.declared.faults.BenchFault.{BenchFault}
use Rattle.replays.specs.declared.faults.ReplayFault.{ReplayFault}
use Rattle.replays.specs.declared.faults.ReplayFault.TheVariants.{Run, Bench}
use Rattle.playback.specs.Following.{Followed, PlayedOut, Sofar}
use Rattle.bench.specs.declared.ended.EndedRun.{EndedRun}

-- what the reader answered, told by its value
pub next_is : (x y : RunReader) (r q : Result (Option Line) RunFault) → r ≡ q → NextLine (left x) (nodes_read x) (steps_read x) (records_read x) r (left y) (nodes_read y) (steps_read y) (records_read y) → NextLine (left x) (nodes_read x) (steps_read x) (records_read x) q (left y) (nodes_read y) (steps_read y) (records_read y)
next_is x y r q e h = subst (λ (z : Result (Option Line) RunFault). NextLine (left x) (nodes_read x) (steps_read x) (records_read x) z (left y) (nodes_read y) (steps_read y) (records_read y)) e h

-- before the first line
pub sofar_none : (names : ℕ) (S : Protocol) (bs cs : List ℕ) (n s : ℕ) (u : Situation) → n ≡ 0 → s ≡ 0 → u ≡ opened → cs ≡ bs → Sofar names S bs n s u cs
sofar_none names S bs cs n s u e f g h = rw (e, f, g, h) (omega arith, omega arith, λ r a. a)

room_more : (x : lines.Line) (n s : ℕ) → n ≤ 512 → s ≤ 128 → HasRoom n s x → (more_nodes x n ≤ 512) × (more_steps x s ≤ 128)
room_more (node k a b) n s l m h = (omega (arith, h), m)
room_more (step k q) n s l m h = (l, omega (arith, h))

count_line : (x : lines.Line) (n s : ℕ) → more_nodes x n + more_steps x s ≡ n + s + 1
count_line (node k a b) n s = omega arith
count_line (step k q) n s = omega arith

-- so many records are read as nodes and steps
pub count_more : (cs ds : List ℕ) (n s m t k j p : ℕ) (l : Line) → p ≡ n + s → NextLine cs n s k (Ok (Some l)) ds m t j → p + 1 ≡ m + t
count_more cs ds n s m t k j p l e x = omega (arith, e, x.3, x.4, count_line (line_of l) n s)

pub read_more : (cs ds : List ℕ) (n s m t k j : ℕ) (l : Line) → k ≡ n + s → NextLine cs n s k (Ok (Some l)) ds m t j → j ≡ m + t
read_more cs ds n s m t k j l e x = omega (arith, e, x.3, x.4, x.5, count_line (line_of l) n s)

-- a line is followed
pub sofar_more : (names : ℕ) (S : Protocol) (bs cs ds : List ℕ) (n s m t k j : ℕ) (u v : Situation) (l : Line) → Sofar names S bs n s u cs → NextLine cs n s k (Ok (Some l)) ds m t j → Followed names S (line_of l) u (Ok tt) v → Sofar names S bs m t v ds
sofar_more names S bs cs ds n s m t k j u v l h x f =
    let room = room_more (line_of l) n s h.0 h.1 x.2 in
    rw (x.3, x.4) (room.0, room.1, λ r a. h.2 r (goes (line_of l) ds v x.0 x.1 x.2 f a))

-- the file ends
pub sofar_end : (names : ℕ) (S : Protocol) (bs cs ds : List ℕ) (n s m t k j : ℕ) (u : Situation) (v : Verdict) → Sofar names S bs n s u cs → NextLine cs n s k (Ok None) ds m t j → VerdictOf S u.state.run v → Replays names S bs (Ok v)
sofar_end names S bs cs ds n s m t k j u v h x d = h.2 (Ok v) (ended v x.0 d refl)

-- a fault of the run file
pub sofar_fault : (names : ℕ) (S : Protocol) (bs cs ds : List ℕ) (n s m t k j : ℕ) (u : Situation) (f : RunFault) → k ≡ n + s → Sofar names S bs n s u cs → NextLine cs n s k (Err f) ds m t j → Replays names S bs (Err (Run f))
sofar_fault names S bs cs ds n s m t k j u (File (Cut i)) e h x = h.2 _ (cut x.0 (ap (λ (z : ℕ). Err (Run (File (Cut z)))) (x.1 ∙ e)))
sofar_fault names S bs cs ds n s m t k j u (Kind i) e h x = h.2 _ (wrong x.0 ds x.1 x.2 (ap (λ (z : ℕ). Err (Run (Kind z))) (x.3 ∙ e)))
sofar_fault names S bs cs ds n s m t k j u (Limit i) e h x = h.2 _ (full x.0 ds x.1 x.2 x.3 (ap (λ (z : ℕ). Err (Run (Limit z))) (x.4 ∙ e)))

-- a call that is turned down
pub sofar_stopped : (names : ℕ) (S : Protocol) (bs cs ds : List ℕ) (n s m t k j p : ℕ) (u v : Situation) (l : Line) (f : BenchFault) → p ≡ n + s → Sofar names S bs n s u cs → NextLine cs n s k (Ok (Some l)) ds m t j → Followed names S (line_of l) u (Err f) v → Replays names S bs (Err (Bench f p))
sofar_stopped names S bs cs ds n s m t k j p u v l f e h x g = h.2 _ (stopped (line_of l) ds f x.0 x.1 x.2 g.0 (ap (λ (z : ℕ). Err (Bench f z)) e))

-- of the sheet that the bench was opened on
pub followed_on : (C D : Content) (l : lines.Line) (u v : Situation) (r : Result (Unit {0}) BenchFault) → D ≡ C → Followed (length D.names) (described D) l u r v → Followed (length C.names) (described C) l u r v
followed_on C D l u v r e h = subst (λ (z : Content). Followed (length z.names) (described z) l u r v) e h

pub played_on : (C D : Content) (bs : List ℕ) (r : Result EndedRun ReplayFault) → D ≡ C → PlayedOut (length D.names) (described D) bs r → PlayedOut (length C.names) (described C) bs r
played_on C D bs r e h = subst (λ (z : Content). PlayedOut (length z.names) (described z) bs r) e h
