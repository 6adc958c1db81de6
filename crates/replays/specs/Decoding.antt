-- What a record of a run file says.
use Rattle.std.specs.Prelude.{◌≡◌, Ok, Err, Result}
use Rattle.records.specs.Bytes.{Rec}
use Rattle.replays.specs.Lines as lines
use Rattle.replays.specs.Lines.{rec}
use Rattle.replays.specs.declared.line.Line.{Line}
use Rattle.replays.specs.declared.line.Line.TheVariants.{Node, Step}
use Rattle.replays.specs.declared.line.NoLine.{NoLine}

-- a line of the code as its numbers
abbrev pub line_of : Line → lines.Line
line_of (Node f) = lines.node f.kind f.a f.b
line_of (Step s q) = lines.step s.0 q.0

-- the line that a record is, or none where it is none
abbrev pub LineDecoded : Rec → Result Line NoLine → Type 0
LineDecoded x (Ok l) = rec (line_of l) ≡ x
LineDecoded x (Err u) = (l : lines.Line) → ¬ (rec l ≡ x)
