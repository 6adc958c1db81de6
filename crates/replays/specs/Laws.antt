-- A run file has one answer, and what is judged is a run.
use Rattle.std.specs.Prelude.{◌≡◌, ℕ, List, Ok, Result}
use Rattle.runs.specs.Protocols.{Protocol, LawfulProtocol}
use Rattle.runs.specs.Runs.{Runs}
use Rattle.runs.specs.Schedules.{Breaking, holds, Answers}
use Rattle.playing.specs.Verdicts.{VerdictOf}
use Rattle.playing.specs.Calls.{Situation}
use Rattle.playing.specs.declared.verdict.Verdict.{Verdict}
use Rattle.replays.specs.declared.faults.ReplayFault.{ReplayFault}
use Rattle.playing.specs.declared.verdict.Verdict.TheVariants.{Kept, Broken}
use Rattle.replays.specs.Replaying.{Replays}

abbrev pub OneReplay : Type 0
OneReplay = (names : ℕ) (S : Protocol) (bs : List ℕ) (r o : Result Verdict ReplayFault) → Replays names S bs r → Replays names S bs o → r ≡ o

-- a file that is judged plays a run of some schedule, and the verdict is that of the run
abbrev pub ReplayRuns : Type 0
ReplayRuns = (names : ℕ) (S : Protocol) (bs : List ℕ) (v : Verdict) → Replays names S bs (Ok v) → (s : List ℕ) × (u : Situation) × Runs S s u.state × VerdictOf S u.state.run v

-- so a file that is judged broken shows a schedule that breaks
abbrev pub BreakShown : Type 0
BreakShown = (names : ℕ) (S : Protocol) (bs : List ℕ) → Replays names S bs (Ok Broken) → (s : List ℕ) × Breaking S s

-- and where the search answers holds at some budget, no file is judged broken
abbrev pub KeptReplay : Type 0
KeptReplay = (names : ℕ) (S : Protocol) → LawfulProtocol S → (budget c : ℕ) → Answers S budget (holds c) → (bs : List ℕ) (v : Verdict) → Replays names S bs (Ok v) → v ≡ Kept
