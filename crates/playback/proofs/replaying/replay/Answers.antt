use Rattle.std.proofs.Common.{◌≡◌, Ok, rules, ◌∙◌, subst}
use Rattle.protocol.specs.Lawful.{Content}
use Rattle.sheet.specs.Sheets.{content_of}
use Rattle.runs.specs.Tables.{described}
use Rattle.playing.specs.Verdicts.{VerdictOf}
use Rattle.bench.specs.Benches.{sheet_of, sheet_ended, situation_ended}
use Rattle.playback.proofs.Followed.{played_on}
use Rattle.playback.proofs.replaying.replay.Goals as goal

pub returns-in-Ok-clause-replays : goal.returns-in-Ok-clause-replays
returns-in-Ok-clause-replays g c =
    let C = content_of c.args.sheet.now in
    let opened : sheet_of c.in_ok-bench.bench ≡ C = search rules in
    let ended : sheet_ended c.in-Ok.ended ≡ sheet_of c.in_ok-bench.bench = search rules in
    played_on C (sheet_of c.in_ok-bench.bench) c.args.bytes.now (Ok c.in-Ok.ended) opened c.in-Ok.ensures.played c.judgement.result
    (subst (λ (z : Content). VerdictOf (described z) (situation_ended c.in-Ok.ended).state.run c.judgement.result) (ended ∙ opened) c.judgement.ensures)
