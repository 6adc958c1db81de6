use Rattle.std.proofs.Common.{◌∙◌}
use Rattle.sheet.specs.Sheets.{content_of}
use Rattle.playback.proofs.Played.{plays_next}
use Rattle.playback.proofs.calls.play.Goals as goal

pub loop-call-preserved : goal.loop-call-preserved
loop-call-preserved g c =
    let i = c.loop-call.invariant in
    (c.make.ensures.sheet ∙ i.0, plays_next (content_of c.args.sheet.now) _ c.args.calls.now c.loop-call.call-index _ _ _ _ i.1 c.loop-call-test.true i.0 c.make.ensures.called)
