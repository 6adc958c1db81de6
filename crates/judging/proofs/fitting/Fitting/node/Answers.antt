use Rattle.judging.proofs.Reading.{sheet_law, sheet_says}
use Rattle.judging.proofs.fitting.Fitting.node.Goals as goal

pub returns-clause-law : goal.returns-clause-law
returns-clause-law c = sheet_law c.args.self.now.sheet.now c.nodes.result.now c.args.n c.requires c.nodes.ensures

pub returns-clause-says : goal.returns-clause-says
returns-clause-says c = sheet_says c.args.self.now.sheet.now c.nodes.result.now c.args.n c.requires c.nodes.ensures
