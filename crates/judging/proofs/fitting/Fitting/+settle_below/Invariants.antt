use Rattle.judging.proofs.fitting.Fitting.+settle_below.Given as goal

abbrev pub decreases-settle_below : goal.decreases-settle_below
decreases-settle_below l = l.n
