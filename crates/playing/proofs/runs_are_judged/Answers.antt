use Rattle.playing.proofs.Judging.{fit_finds, fit_adds, fit_tells, judged_by_fitting, verdict_decided}
use Rattle.playing.proofs.runs_are_judged.Goals as goal

pub returns : goal.returns
returns c = record { finds = fit_finds; adds = fit_adds; tells = fit_tells; judged = judged_by_fitting; decided = verdict_decided }
