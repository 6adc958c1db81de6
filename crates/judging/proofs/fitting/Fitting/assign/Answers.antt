use Rattle.judging.proofs.Giving.{assigned_old}
use Rattle.judging.specs.Fittings.{closed_nodes}
use Rattle.judging.proofs.fitting.Fitting.assign.Goals as goal

pub returns-in-Some-clause-assigned : goal.returns-in-Some-clause-assigned
returns-in-Some-clause-assigned c =
    let q = c.requires.held c.args.entry in
    assigned_old (closed_nodes c.args.self.now) c.args.places.now c.args.entry c.in-Some.first c.args.place c.same.result c.in-Some.is (λ e. (c.same.ensures.0 e).2) (λ e. c.same.ensures.1 (rw c.in-Some.is at q, c.requires.here, e))
