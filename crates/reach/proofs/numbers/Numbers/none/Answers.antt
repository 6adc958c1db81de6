use Rattle.std.proofs.Common.{refl}
use Rattle.reach.proofs.Sets.{none_has}
use Rattle.reach.proofs.numbers.Numbers.none.Goals as goal

pub returns : goal.returns
returns c i = none_has _ c.empty-empty.result 1024 refl c.empty-empty.ensures i
