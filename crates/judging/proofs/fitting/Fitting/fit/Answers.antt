use Rattle.std.proofs.Common.{arith, refl}
use Rattle.terms.specs.Nodes.{term}
use Rattle.judging.specs.Fittings.{open_nodes, closed_nodes}
use Rattle.judging.specs.Places.{values_in}
use Rattle.judging.proofs.Finding.{settled_fits}
use Rattle.judging.proofs.Reading.{few_nodes}
use Rattle.judging.proofs.fitting.Fitting.fit.Goals as goal

pub only-places-requires-clause-within : goal.only-places-requires-clause-within
only-places-requires-clause-within c = omega (arith, few_nodes c.args.self.now.sheet.now, c.requires.node_held)

pub returns : goal.returns
returns c =
    let ns = closed_nodes c.args.self.now in
    settled_fits (open_nodes c.args.self.now) ns _ c.args.node.0 (term ns c.args.place.0) (values_in ns c.args.values.now) (values_in ns c.only-places.result) (values_in ns c.settle_below.new.places) c.settle_below.result c.settle_below.new.values c.then_some.result refl c.only-places.ensures.value c.settle_below.ensures.settled c.settle_below.ensures.values c.then_some.ensures
