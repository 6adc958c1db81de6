use Rattle.std.proofs.Common.{rules, refl}
use Rattle.alike.proofs.finding.value.Goals as goal

pub returns-then-eq : goal.returns-then-eq
returns-then-eq c = (c.loop-b.b-index, c.loop-b-test.true, search rules, refl)
