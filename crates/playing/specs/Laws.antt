-- Each call has one answer, and what is played is a run.
use Rattle.std.specs.Prelude.{◌≡◌, ℕ, List, Result}
use Rattle.terms.specs.declared.node.Node.{Node}
use Rattle.terms.specs.declared.number.NodeNo.{NodeNo}
use Rattle.runs.specs.Protocols.{Protocol, LawfulProtocol}
use Rattle.runs.specs.Runs.{Runs, Broken}
use Rattle.runs.specs.Schedules.{holds, Answers}
use Rattle.playing.specs.declared.calls.Call.{Call}
use Rattle.playing.specs.declared.faults.WriteFault.{WriteFault}
use Rattle.playing.specs.declared.faults.StepFault.{StepFault}
use Rattle.playing.specs.Calls.{Situation, opened, Wrote, Fed, Moved, Plays}

abbrev pub OneWrite : Type 0
OneWrite = (names : ℕ) (u : Situation) (n : Node) (r q : Result NodeNo WriteFault) (v t : Situation) → Wrote names u n r v → Wrote names u n q t → (r ≡ q) × (v ≡ t)

abbrev pub OneFeed : Type 0
OneFeed = (S : Protocol) (u : Situation) (k q : ℕ) (r o : Result (Unit {0}) StepFault) (v t : Situation) → Fed S u k q r v → Fed S u k q o t → (r ≡ o) × (v ≡ t)

abbrev pub OneMove : Type 0
OneMove = (S : Protocol) (u : Situation) (k : ℕ) (r o : Result (Unit {0}) StepFault) (v t : Situation) → Moved S u k r v → Moved S u k o t → (r ≡ o) × (v ≡ t)

-- where the search answers holds at some budget, whatever row of calls is made leaves a run that is kept
abbrev pub KeptPlay : Type 0
KeptPlay = (names : ℕ) (S : Protocol) → LawfulProtocol S → (budget c : ℕ) → Answers S budget (holds c) → (cs : List Call) (v : Situation) → Plays names S cs opened v → ¬ Broken S v.state.run

-- from an open bench, any row of calls leads to a run of some schedule
abbrev pub PlaysRun : Type 0
PlaysRun = (names : ℕ) (S : Protocol) (cs : List Call) (v : Situation) → Plays names S cs opened v → (s : List ℕ) × Runs S s v.state
