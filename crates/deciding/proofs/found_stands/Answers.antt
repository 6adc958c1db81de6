use Rattle.deciding.proofs.Finding.{fresh_injective, solved_breaks}
use Rattle.deciding.proofs.found_stands.Goals as goal

pub returns : goal.returns
returns c = record { injective = fresh_injective; breaks = solved_breaks }
