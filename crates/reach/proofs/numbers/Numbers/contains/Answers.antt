use Rattle.reach.proofs.Sets.{has_told}
use Rattle.reach.proofs.numbers.Numbers.contains.Goals as goal

pub returns : goal.returns
returns c = has_told c.args.self.now c.args.n c.contains.result c.contains.ensures
