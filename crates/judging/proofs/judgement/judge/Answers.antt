use Rattle.std.proofs.Common.{rules}
use Rattle.std.proofs.lemmas.Iterator.{YieldsList-from_slice, cases_from_all}
use borrow.Author.Tests.{tests}
use Rattle.pages.specs.Pages.{nodes_on}
use Rattle.judging.specs.Judgements.{SaysMessage}
use Rattle.judging.proofs.Saying.{SaysNone, Answered, all_say, run_held, run_closed}
use Rattle.judging.proofs.judgement.judge.Goals as goal
use Rattle.judging.proofs.judgement.judge.Goals.{After-all}

answered : (c : After-all) → Answered (nodes_on c.args.pages.now) c.args.run.now c.all.result
answered c =
    let ns = nodes_on c.args.pages.now in
    cases_from_all _ _ c.all.result (SaysMessage ns) (SaysNone ns) c.all.ensures.ran (YieldsList-from_slice {s = c.iter.result} c.args.run.now (cc)) (λ x q k. search (rules, tests)) (λ x q k. search (rules, tests))

pub is_broken-requires : goal.is_broken-requires
is_broken-requires c =
    let t = c.args.pages.now in
    let s = all_say (nodes_on t) c.args.run.now c.all.result c.if-not-all.false (answered (goal.at.is_broken-requires c).After-all) in
    record { held = run_held (nodes_on t) c.args.run.now s; said = run_closed t c.args.run.now s }
