-- Places as numbers.
use Rattle.std.specs.Prelude.{ℕ, List, map}
use Rattle.terms.specs.declared.number.NodeNo.{NodeNo}

abbrev pub numbers : List NodeNo → List ℕ
numbers ps = map (λ p. p.0) ps
