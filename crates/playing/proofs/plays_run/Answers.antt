use Rattle.playing.proofs.Running as lemmas
use Rattle.playing.proofs.plays_run.Goals as goal

pub returns : goal.returns
returns c = record { run = lemmas.plays_run; kept = lemmas.kept_play }
