use Rattle.runs.proofs.Replying.{one_listing, one_reply, one_word, some_reply}
use Rattle.runs.proofs.reply_stands.Goals as goal

pub returns : goal.returns
returns c = record { listing = one_listing; reply = one_reply; word = one_word; some = some_reply }
