use Rattle.std.proofs.Common.{◌≡◌}
use Rattle.sheet.specs.Sheets.{content_of}
use Rattle.matching.specs.Matchings.{nodes_of, bound}
use Rattle.limits.specs.Beginnings.{strand_steps}
use Rattle.limits.proofs.Beginnings.{Reached}
use Rattle.limits.proofs.walk.longest.Given as goal

abbrev pub invariant-loop-n : goal.invariant-loop-n
invariant-loop-n l =
    record {
      nodes : nodes_of l.matching ≡ (content_of l.sheet).nodes;
      reached : Reached (strand_steps (content_of l.sheet) l.k) l.n (content_of l.sheet).nodes (bound l.matching) l.demands;
    }
