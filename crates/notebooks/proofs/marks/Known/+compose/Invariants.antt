use Rattle.notebooks.proofs.marks.Known.+compose.Given as goal

abbrev pub decreases-compose : goal.decreases-compose
decreases-compose l = l.n
