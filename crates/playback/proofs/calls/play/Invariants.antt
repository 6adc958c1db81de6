use Rattle.std.proofs.Common.{◌≡◌, take, length}
use Rattle.sheet.specs.Sheets.{content_of}
use Rattle.runs.specs.Tables.{described}
use Rattle.playing.specs.Calls.{opened, Plays}
use Rattle.bench.specs.Benches.{sheet_of, situation_of}
use Rattle.playback.proofs.calls.play.Given as goal

abbrev pub invariant-loop-call : goal.invariant-loop-call
invariant-loop-call g l =
    let C = content_of l.sheet in
    (sheet_of l.bench ≡ C) × Plays (length C.names) (described C) (take l.call-index l.calls) opened (situation_of l.bench)
