use Rattle.std.proofs.Common.{◌≤◌, vec_items}
use Rattle.unification.proofs.Joining.{Way}
use Rattle.matching.proofs.classes.Classes.find.Given as goal

abbrev pub invariant-loop-parent : goal.invariant-loop-parent
invariant-loop-parent l = record { low : l.here.0 ≤ l.initial.here.0; way : Way (vec_items l.self.parents) l.initial.here.0 l.here.0 }

abbrev pub decreases-loop-parent : goal.decreases-loop-parent
decreases-loop-parent l = l.here.0
