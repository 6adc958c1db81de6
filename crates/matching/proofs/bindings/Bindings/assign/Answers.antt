use Rattle.std.proofs.Common.{vec_items}
use Rattle.unification.proofs.Stepping.{assigned}
use Rattle.matching.proofs.bindings.Bindings.assign.Goals as goal

pub returns : goal.returns
returns c = assigned (vec_items c.args.nodes.now.nodes) (vec_items c.args.self.now.list) (vec_items c.put.new.self.list) c.args.b.variable.0 c.args.b.node.0 c.requires.good c.requires.within c.requires.unbound c.requires.start (c.reaches.ensures.apart c.if-reaches.false) c.put.ensures
