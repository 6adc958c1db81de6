use Rattle.std.proofs.Common.{◌-◌, ◌^◌}
use Rattle.terms.specs.Tables.{nodes_in}
use Rattle.limits.proofs.Following.{Looking, amount}
use Rattle.limits.proofs.demands.Demands.settle.Given as goal

abbrev pub invariant-loop-more : goal.invariant-loop-more
invariant-loop-more l = Looking (nodes_in l.nodes.nodes) l.bindings l.initial.all l.all

abbrev pub decreases-loop-more : goal.decreases-loop-more
decreases-loop-more l = 2 ^ 65 - amount l.all
