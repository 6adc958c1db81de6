use Rattle.analysis.proofs.Finding.{first_places}
use Rattle.analysis.proofs.Deciding.{decided}
use Rattle.analysis.proofs.analysis_stands.Goals as goal

pub returns : goal.returns
returns c = record { places = first_places; decided = decided }
