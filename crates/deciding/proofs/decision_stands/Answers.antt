use Rattle.deciding.proofs.Deciding.{decides}
use Rattle.deciding.proofs.Starting.{break_decided}
use Rattle.deciding.proofs.Tabling.{analz_table}
use Rattle.deciding.proofs.Chaining.{breaking_decided}
use Rattle.deciding.proofs.Instances.{instances_equate, instances_extend}
use Rattle.deciding.proofs.Unifying.{a_matcher}
use Rattle.deciding.proofs.decision_stands.Goals as goal

pub returns : goal.returns
returns c = record { recursion = decides; whole = break_decided; table = analz_table; breaking = breaking_decided; matcher = a_matcher; told = λ V S law small. breaking_decided V S law small (a_matcher V); equates = instances_equate; extends = instances_extend }
