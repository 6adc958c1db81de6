use Rattle.replays.proofs.Judging as lemmas
use Rattle.replays.proofs.replays_run.Goals as goal

pub returns : goal.returns
returns c = record { run = lemmas.replay_runs; broken = lemmas.break_shown; kept = lemmas.kept_replay }
