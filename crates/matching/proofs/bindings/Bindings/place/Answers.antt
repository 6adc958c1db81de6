use Rattle.std.proofs.Common.{arith}
use Rattle.matching.proofs.bindings.Bindings.place.Goals as goal

pub index-requires : goal.index-requires
index-requires c = omega (arith, c.requires c.in-Var.x.0 c.in-Var.is, c.args.self.now.wide)
