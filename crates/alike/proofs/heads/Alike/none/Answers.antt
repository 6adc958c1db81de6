use Rattle.alike.proofs.Heading.{none_head}
use Rattle.alike.proofs.heads.Alike.none.Goals as goal

pub returns : goal.returns
returns c i = none_head 65536 i
