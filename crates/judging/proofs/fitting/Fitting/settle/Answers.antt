use Rattle.std.proofs.Common.{ap, arith}
use Rattle.terms.specs.Terms.{pair, seal}
use Rattle.judging.specs.Fittings.{open_nodes, closed_nodes}
use Rattle.judging.specs.Places.{term_at, values_in}
use Rattle.judging.proofs.Reading.{few_nodes}
use Rattle.judging.proofs.Settling.{settled_variable, pair_makes, seal_makes, settled_made}
use Rattle.judging.proofs.fitting.Fitting.settle.Goals as goal

pub offset_bounds-places-n : goal.offset_bounds-places-n
offset_bounds-places-n c = let few = few_nodes c.args.self.now.sheet.now in omega (arith, c.requires.within)

pub bounds : goal.bounds
bounds c = omega (arith, few_nodes c.args.self.now.sheet.now, c.requires.within)

pub returns-in-Var-clause-settled : goal.returns-in-Var-clause-settled
returns-in-Var-clause-settled c =
    let ns = closed_nodes c.args.self.now in
    settled_variable (open_nodes c.args.self.now) c.args.n (values_in ns c.args.values.now) (values_in ns c.args.places.now) _ (ap (term_at ns) c.in-Some.is) c.in-Var.x.0 c.assign.result (values_in ns c.assign.new.places) c.in-Var.ensures.says c.assign.ensures.assigned

pub returns-in-Pair-clause-settled : goal.returns-in-Pair-clause-settled
returns-in-Pair-clause-settled c =
    let ns = closed_nodes c.args.self.now in
    settled_made pair pair_makes (open_nodes c.args.self.now) ns c.args.n (values_in ns c.args.values.now) c.args.places.now c.in-Some.place.0 c.in-Pair.left.0 c.in-Pair.right.0 (ap (term_at ns) c.in-Some.is) c.in-Pair.ensures.law.0 c.in-Pair.ensures.law.1 c.in-Pair.ensures.says c.halves.result c.assign_parts.result c.assign_parts.new.places c.halves.ensures c.assign_parts.ensures.assigned

pub returns-in-Seal-clause-settled : goal.returns-in-Seal-clause-settled
returns-in-Seal-clause-settled c =
    let ns = closed_nodes c.args.self.now in
    settled_made seal seal_makes (open_nodes c.args.self.now) ns c.args.n (values_in ns c.args.values.now) c.args.places.now c.in-Some.place.0 c.in-Seal.body.0 c.in-Seal.key.0 (ap (term_at ns) c.in-Some.is) c.in-Seal.ensures.law.0 c.in-Seal.ensures.law.1 c.in-Seal.ensures.says c.sealed.result c.assign_parts-in-Seal.result c.assign_parts-in-Seal.new.places c.sealed.ensures c.assign_parts-in-Seal.ensures.assigned
