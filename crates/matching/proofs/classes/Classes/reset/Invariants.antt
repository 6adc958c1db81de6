use Rattle.std.proofs.Common.{◌≡◌, vec_len}
use Rattle.matching.proofs.classes.Classes.reset.Given as goal

abbrev pub invariant-loop-n : goal.invariant-loop-n
invariant-loop-n l = vec_len l.self.parents ≡ vec_len l.initial.self.parents

abbrev pub decreases-loop-n : goal.decreases-loop-n
decreases-loop-n l = vec_len l.self.linked
