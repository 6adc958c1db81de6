-- The number of a refused match.
use Rattle.std.specs.Prelude.{ℕ}
use Rattle.matching.specs.declared.fault.MatchFault.{MatchFault}
use Rattle.matching.specs.declared.fault.MatchFault.TheVariants.{NoSuchNode}

abbrev pub fault_number : MatchFault → ℕ
fault_number NoSuchNode = 50
