use Rattle.runs.proofs.Inspecting.{law_decided, law_told}
use Rattle.runs.proofs.law_is_decided.Goals as goal

pub returns : goal.returns
returns c = record { decided = law_decided; told = law_told }
