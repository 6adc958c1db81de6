use Rattle.std.proofs.Common.{ap, ◌∙◌}
use Rattle.std.proofs.lemmas.Result.{IfOk-weaker}
use Rattle.entries.specs.Reading.{taken, refused}
use Rattle.sheet.specs.Sheets.{content_of}
use Rattle.listing.specs.Showing.{refusal_line}
use Rattle.listing.proofs.reply.show.Goals as goal

pub returns-in-Ok : goal.returns-in-Ok
returns-in-Ok c =
    IfOk-weaker c.listing.result _ _
    (λ t w. (taken (content_of c.read.new.self), c.in-Ok.ensures.reply, w)) c.listing.ensures

pub returns-in-Err-Refused : goal.returns-in-Err-Refused
returns-in-Err-Refused c =
    let w = rw c.in-Err-Refused.field-0-is at c.in-Err-Refused.ensures.reply in
    IfOk-weaker c.format.result _ _ (λ t e. (refused c.in-Err-Refused.rule c.in-Err-Refused.record, w.0, e ∙ ap (λ n. refusal_line n c.in-Err-Refused.record) c.number-number.ensures)) c.format.ensures.ok
