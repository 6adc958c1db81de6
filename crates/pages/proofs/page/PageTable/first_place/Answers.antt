use Rattle.std.proofs.Common.{rules, length, ap, ◌∙◌, unwrap_or}
use Rattle.std.proofs.lemmas.Iterator.{YieldsList-from_slice, IsFirst-from_position}
use Rattle.std.proofs.lemmas.Iterator.Adapters.{serves_from_places}
use borrow.Author.Tests.{tests}
use Rattle.terms.specs.Nodes.{Below}
use Rattle.pages.specs.Pages.{nodes_on}
use Rattle.pages.proofs.Paging.{IsOf, IsNotOf, page_below, first_is}
use Rattle.pages.proofs.page.PageTable.first_place.Goals as goal

pub position-found-requires-clause-callable : goal.position-found-requires-clause-callable
position-found-requires-clause-callable c =
    let p = c.args.self.now in
    serves_from_places (YieldsList-from_slice p.list.items (cc)) (λ x q r. search rules)
    (λ x k l e. let b : Below (length (nodes_on p)) x.now.node = page_below p k x.now l e in search rules)

pub returns : goal.returns
returns c =
    let p = c.args.self.now in
    let n = p.list.ok.0 in
    let all = YieldsList-from_slice {s = c.iter.result} p.list.items (cc) in
    let r = IsFirst-from_position _ _ c.position-found.result (IsOf p c.args.node) (IsNotOf p c.args.node) c.position-found.ensures.ran all (λ x q k. search (rules, tests)) (λ x q k. search (rules, tests)) in
    c.unwrap_or.ensures ∙ ap (unwrap_or c.position-found.result) (c.len.ensures ∙ n) ∙ first_is p c.args.node c.position-found.result r
