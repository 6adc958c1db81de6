use Rattle.pages.proofs.Paging.{page_says}
use Rattle.judging.proofs.fitting.Fitting.page.Goals as goal

pub returns-clause-says : goal.returns-clause-says
returns-clause-says c =
    let h = rw c.unwrap.ensures at c.get.ensures in
    page_says c.args.self.now.pages.now c.args.place.0 c.unwrap.result.node h.0 h.1
