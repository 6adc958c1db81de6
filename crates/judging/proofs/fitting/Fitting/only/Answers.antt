use Rattle.judging.specs.Fittings.{closed_nodes}
use Rattle.judging.proofs.Finding.{only_value, only_held}
use Rattle.judging.proofs.fitting.Fitting.only.Goals as goal

pub returns-clause-held : goal.returns-clause-held
returns-clause-held c = only_held (closed_nodes c.args.self.now) 256 c.args.node.0 c.args.place c.requires.within c.requires.here

pub returns-clause-value : goal.returns-clause-value
returns-clause-value c = only_value (closed_nodes c.args.self.now) 256 c.args.node.0 c.args.place c.requires.within
