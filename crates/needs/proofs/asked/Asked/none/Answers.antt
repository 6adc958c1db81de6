use Rattle.needs.proofs.Members.{none_asked}
use Rattle.needs.proofs.asked.Asked.none.Goals as goal

pub returns : goal.returns
returns c i = none_asked 65536 i
