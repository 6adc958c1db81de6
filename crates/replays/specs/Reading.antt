-- What the reader of run files answers.
use Rattle.std.specs.Prelude.{◌≡◌, ℕ, ◌+◌, List, [], ◌++◌, Some, None, Ok, Err, Option, Result}
use Rattle.records.specs.Bytes.{Rec, encode, CutOff}
use Rattle.records.specs.Reading.{rest, handed_out}
use Rattle.records.specs.declared.record.FileFault.TheVariants.{Cut}
use Rattle.replays.specs.Lines as lines
use Rattle.replays.specs.Lines.{rec, InOrder, HasRoom, more_nodes, more_steps}
use Rattle.replays.specs.Decoding.{line_of}
use Rattle.replays.specs.declared.line.Line.{Line}
use Rattle.replays.specs.declared.faults.RunFault.{RunFault}
use Rattle.replays.specs.declared.faults.RunFault.TheVariants.{File, Kind, Limit}
use Rattle.replays.specs.declared.reader.RunReader.{RunReader}

-- the bytes that are left, and how many nodes, steps and records have been read
abbrev pub left : RunReader → List ℕ
left x = rest x.records

abbrev pub nodes_read : RunReader → ℕ
nodes_read x = x.nodes

abbrev pub steps_read : RunReader → ℕ
steps_read x = x.steps

abbrev pub records_read : RunReader → ℕ
records_read x = handed_out x.records

-- what is answered with bytes bs left after n nodes, s steps and k records, and what is the case then
abbrev pub NextLine : List ℕ → ℕ → ℕ → ℕ → Result (Option Line) RunFault → List ℕ → ℕ → ℕ → ℕ → Type 0
NextLine bs n s k (Ok None) cs m t j = (bs ≡ []) × (cs ≡ []) × (m ≡ n) × (t ≡ s) × (j ≡ k)
NextLine bs n s k (Ok (Some l)) cs m t j = (bs ≡ encode (rec (line_of l)) ++ cs) × InOrder s (line_of l) × HasRoom n s (line_of l) × (m ≡ more_nodes (line_of l) n) × (t ≡ more_steps (line_of l) s) × (j ≡ k + 1)
NextLine bs n s k (Err (File (Cut i))) cs m t j = CutOff bs × (i ≡ k) × (cs ≡ bs) × (m ≡ n) × (t ≡ s) × (j ≡ k)
NextLine bs n s k (Err (Kind i)) cs m t j = (x : Rec) × (bs ≡ encode x ++ cs) × ((l : lines.Line) → rec l ≡ x → ¬ InOrder s l) × (i ≡ k) × (m ≡ n) × (t ≡ s) × (j ≡ k + 1)
NextLine bs n s k (Err (Limit i)) cs m t j = (l : lines.Line) × (bs ≡ encode (rec l) ++ cs) × InOrder s l × (¬ HasRoom n s l) × (i ≡ k) × (m ≡ n) × (t ≡ s) × (j ≡ k + 1)
