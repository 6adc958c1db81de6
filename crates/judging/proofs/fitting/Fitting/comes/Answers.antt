use Rattle.std.proofs.Common.{rules}
use Rattle.std.proofs.lemmas.Iterator.{YieldsList-from_slice, cases_from_any}
use borrow.Author.Tests.{tests}
use Rattle.runs.specs.Tables.{action_of}
use Rattle.judging.specs.Fittings.{open_nodes, closed_nodes}
use Rattle.judging.specs.Places.{values_in}
use Rattle.judging.proofs.Breaking.{Suiting, Unsuiting, comes_decided}
use Rattle.judging.proofs.fitting.Fitting.comes.Goals as goal

pub returns : goal.returns
returns c =
    let ns = closed_nodes c.args.self.now in
    let v = values_in ns c.args.values.now in
    let e = action_of (open_nodes c.args.self.now) c.args.wanted in
    let all = YieldsList-from_slice {s = c.iter.result} c.args.run.now (cc) in
    let r = cases_from_any _ _ c.any.result (Suiting ns v e) (Unsuiting ns v e) c.any.ensures.ran all (λ x q k. search (rules, tests)) (λ x q k. search (rules, tests)) in
    comes_decided ns v e c.args.run.now c.any.result r
