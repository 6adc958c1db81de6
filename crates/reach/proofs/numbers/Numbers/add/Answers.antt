use Rattle.std.proofs.Common.{refl, arith}
use Rattle.reach.proofs.Sets.{added}
use Rattle.reach.proofs.numbers.Numbers.add.Goals as goal

pub returns : goal.returns
returns c = added c.args.self.now c.args.n _ c.with-more.result (omega arith) c.with-more.ensures.members (omega arith) refl
