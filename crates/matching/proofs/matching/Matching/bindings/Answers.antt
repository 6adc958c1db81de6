use Rattle.unification.proofs.Goodness.{good_within, good_once, good_ranked}
use Rattle.unification.proofs.Extending.{exactly_one, never_inside}
use Rattle.matching.specs.Matchings.{nodes_of, bound}
use Rattle.matching.proofs.matching.Matching.bindings.Goals as goal

pub returns : goal.returns
returns c =
    let m = c.args.self.now in
    record {
      list = c.as_slice.ensures;
      general = record {
        once = good_once (nodes_of m) (bound m) m.solver.good;
        within = good_within (nodes_of m) (bound m) m.solver.good;
        ranked = good_ranked (nodes_of m) (bound m) m.solver.good;
        free = never_inside (nodes_of m) (bound m) m.solver.good;
        extends = exactly_one (nodes_of m) (bound m) m.solver.good;
      };
    }
