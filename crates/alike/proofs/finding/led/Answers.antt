use Rattle.alike.proofs.Ending.{leads_variable}
use Rattle.alike.proofs.finding.led.Goals as goal

pub returns-in-Var : goal.returns-in-Var
returns-in-Var c = leads_variable c.args.bindings.now c.args.node c.in-Var.x c.value.result c.in-Var.is c.value.ensures
