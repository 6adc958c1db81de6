use Rattle.std.proofs.Common.{take}
use Rattle.analysis.specs.Marks.{Noting}
use Rattle.notebooks.specs.Lists.{nodes_of, noted_of, Same}
use Rattle.notebooks.proofs.marks.Marks.mark_noted.Given as goal

abbrev pub invariant-loop-place : goal.invariant-loop-place
invariant-loop-place l =
    record {
      same : Same l.initial.self l.self;
      noting : Noting (nodes_of l.initial.self.pages.now) (take l.place-index (noted_of l.initial.self.pages.now)) l.self.known.now;
    }
