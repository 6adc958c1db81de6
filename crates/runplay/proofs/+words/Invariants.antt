use Rattle.runplay.proofs.+words.Given as goal

abbrev pub decreases-words : goal.decreases-words
decreases-words g l = l.depth
