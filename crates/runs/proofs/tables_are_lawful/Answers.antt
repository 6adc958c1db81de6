use Rattle.runs.proofs.Tabling.{tables_lawful, tables_sized, described_lawful}
use Rattle.runs.proofs.tables_are_lawful.Goals as goal

pub returns : goal.returns
returns c = record { lawful = tables_lawful; sized = tables_sized; described = described_lawful }
