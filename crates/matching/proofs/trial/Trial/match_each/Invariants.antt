use Rattle.std.proofs.Common.{◌≡◌, take}
use Rattle.matching.specs.Matchings.{nodes_of, bound}
use Rattle.matching.specs.Trials.{kept}
use Rattle.matching.proofs.Trying.{Joint}
use Rattle.matching.proofs.trial.Trial.match_each.Given as goal

abbrev pub invariant-loop-w : goal.invariant-loop-w
invariant-loop-w l =
    (l.self.matching.ghost_name ≡ l.initial.self.matching.ghost_name)
    × (kept l.self ≡ kept l.initial.self)
    × (nodes_of l.self.matching.now ≡ nodes_of l.initial.self.matching.now)
    × Joint (nodes_of l.initial.self.matching.now) (bound l.initial.self.matching.now) (take l.w-index l.asks) (bound l.self.matching.now)
