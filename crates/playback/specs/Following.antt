-- A line of a run file on a bench, and what is left to say of a replay.
use Rattle.std.specs.Prelude.{◌≡◌, ℕ, ◌≤◌, List, Ok, Err, Result}
use Rattle.runs.specs.Protocols.{Protocol}
use Rattle.playing.specs.Calls.{Situation}
use Rattle.playing.specs.Verdicts.{VerdictOf}
use Rattle.playing.specs.declared.verdict.Verdict.{Verdict}
use Rattle.replays.specs.Lines.{Line}
use Rattle.replays.specs.Replaying.{Made, Refused, Answers, Replays}
use Rattle.replays.specs.declared.faults.BenchFault.{BenchFault}
use Rattle.replays.specs.declared.faults.ReplayFault.{ReplayFault}
use Rattle.bench.specs.Benches.{situation_ended}
use Rattle.bench.specs.declared.ended.EndedRun.{EndedRun}

-- the call of a line is made; or it is turned down, and nothing is changed
abbrev pub Followed : ℕ → Protocol → Line → Situation → Result (Unit {0}) BenchFault → Situation → Type 0
Followed names S l u (Ok r) v = Made names S l u v
Followed names S l u (Err f) v = Refused names S l u f × (v ≡ u)

-- an ended run whose judgement is the answer, or the fault that is
abbrev pub PlayedOut : ℕ → Protocol → List ℕ → Result EndedRun ReplayFault → Type 0
PlayedOut names S bs (Ok e) = (v : Verdict) → VerdictOf S (situation_ended e).state.run v → Replays names S bs (Ok v)
PlayedOut names S bs (Err f) = Replays names S bs (Err f)

-- after so many nodes and steps, what is answered from here on is the answer to the whole file
abbrev pub Sofar : ℕ → Protocol → List ℕ → ℕ → ℕ → Situation → List ℕ → Type 0
Sofar names S bs n s u cs = (n ≤ 512) × (s ≤ 128) × ((r : Result Verdict ReplayFault) → Answers names S n s u cs r → Replays names S bs r)
