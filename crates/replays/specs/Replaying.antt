-- What a replay answers. No notebook is spoken of, so the answer is the same on every one.
use Rattle.std.specs.Prelude.{◌≡◌, ℕ, ◌+◌, ◌⊎◌, List, [], ◌++◌, Ok, Err, Result}
use Rattle.records.specs.Bytes.{Rec, encode, CutOff}
use Rattle.records.specs.declared.record.FileFault.TheVariants.{Cut}
use Rattle.terms.specs.declared.node.Node.{Node}
use Rattle.terms.specs.declared.number.NodeNo.{NodeNo}
use Rattle.entries.specs.Format as e
use Rattle.entries.specs.Format.{node_entry}
use Rattle.runs.specs.Protocols.{Protocol}
use Rattle.playing.specs.Verdicts.{VerdictOf}
use Rattle.playing.specs.declared.faults.WriteFault.{WriteFault}
use Rattle.playing.specs.declared.faults.WriteFault.TheVariants.{Unlawful}
use Rattle.playing.specs.declared.faults.StepFault.{StepFault}
use Rattle.playing.specs.Calls.{Situation, opened, Wrote, Fed, Moved}
use Rattle.playing.specs.declared.verdict.Verdict.{Verdict}
use Rattle.replays.specs.declared.faults.RunFault.TheVariants.{File, Kind, Limit}
use Rattle.replays.specs.declared.faults.BenchFault.{BenchFault}
use Rattle.replays.specs.declared.faults.BenchFault.TheVariants.{Write, Step}
use Rattle.replays.specs.declared.faults.ReplayFault.{ReplayFault}
use Rattle.replays.specs.declared.faults.ReplayFault.TheVariants.{Run, Bench}
use Rattle.replays.specs.Lines.{Line, node, step, rec, InOrder, HasRoom, more_nodes, more_steps}

-- the fields of a line are those of a node; or of none, which is an unlawful node
abbrev pub Written : ℕ → Situation → ℕ → ℕ → ℕ → Result NodeNo WriteFault → Situation → Type 0
Written names u k a b r v =
    ((n : Node) × (node_entry n ≡ e.node k a b) × Wrote names u n r v)
    ⊎ (((n : Node) → ¬ (node_entry n ≡ e.node k a b)) × (r ≡ Err Unlawful) × (v ≡ u))

-- place 65535 means a move, any other a feed
abbrev pub Stepped : Protocol → Situation → ℕ → ℕ → Result (Unit {0}) StepFault → Situation → Type 0
Stepped S u s q r v = ((q ≡ 65535) × Moved S u s r v) ⊎ (¬ (q ≡ 65535) × Fed S u s q r v)

-- the call of a line is made, or turned down
abbrev pub Made : ℕ → Protocol → Line → Situation → Situation → Type 0
Made names S (node k a b) u v = (p : NodeNo) × Written names u k a b (Ok p) v
Made names S (step s q) u v = Stepped S u s q (Ok tt) v

abbrev pub Refused : ℕ → Protocol → Line → Situation → BenchFault → Type 0
Refused names S (node k a b) u (Write f) = Written names u k a b (Err f) u
Refused names S (node k a b) u (Step f) = ⊥
Refused names S (step s q) u (Write f) = ⊥
Refused names S (step s q) u (Step f) = Stepped S u s q (Err f) u

-- the answer to the bytes that are left after so many nodes and steps, where the bench means u
pub data Answers (names : ℕ) (S : Protocol) : ℕ → ℕ → Situation → List ℕ → Result Verdict ReplayFault → Type 0 where
  ended : {nodes steps : ℕ} {u : Situation} {bs : List ℕ} {r : Result Verdict ReplayFault} (v : Verdict) → bs ≡ [] → VerdictOf S u.state.run v → r ≡ Ok v → Answers names S nodes steps u bs r
  cut : {nodes steps : ℕ} {u : Situation} {bs : List ℕ} {r : Result Verdict ReplayFault} → CutOff bs → r ≡ Err (Run (File (Cut (nodes + steps)))) → Answers names S nodes steps u bs r
  wrong : {nodes steps : ℕ} {u : Situation} {bs : List ℕ} {r : Result Verdict ReplayFault} (x : Rec) (more : List ℕ) → bs ≡ encode x ++ more → ((l : Line) → rec l ≡ x → ¬ InOrder steps l) → r ≡ Err (Run (Kind (nodes + steps))) → Answers names S nodes steps u bs r
  full : {nodes steps : ℕ} {u : Situation} {bs : List ℕ} {r : Result Verdict ReplayFault} (l : Line) (more : List ℕ) → bs ≡ encode (rec l) ++ more → InOrder steps l → ¬ HasRoom nodes steps l → r ≡ Err (Run (Limit (nodes + steps))) → Answers names S nodes steps u bs r
  stopped : {nodes steps : ℕ} {u : Situation} {bs : List ℕ} {r : Result Verdict ReplayFault} (l : Line) (more : List ℕ) (f : BenchFault) → bs ≡ encode (rec l) ++ more → InOrder steps l → HasRoom nodes steps l → Refused names S l u f → r ≡ Err (Bench f (nodes + steps)) → Answers names S nodes steps u bs r
  goes : {nodes steps : ℕ} {u : Situation} {bs : List ℕ} {r : Result Verdict ReplayFault} (l : Line) (more : List ℕ) (v : Situation) → bs ≡ encode (rec l) ++ more → InOrder steps l → HasRoom nodes steps l → Made names S l u v → Answers names S (more_nodes l nodes) (more_steps l steps) v more r → Answers names S nodes steps u bs r

-- the answer to a run file, on a bench that is opened for it
abbrev pub Replays : ℕ → Protocol → List ℕ → Result Verdict ReplayFault → Type 0
Replays names S bs r = Answers names S 0 0 opened bs r
