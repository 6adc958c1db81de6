use Rattle.pages.proofs.page.PageTable.+tell.Given as goal

abbrev pub decreases-tell : goal.decreases-tell
decreases-tell l = l.n
