use Rattle.std.proofs.Common.{length}
use Rattle.replays.specs.Reading.{left}
use Rattle.runplay.proofs.show_steps.Given as goal

abbrev pub decreases-loop-line : goal.decreases-loop-line
decreases-loop-line l = length (left l.reader)
