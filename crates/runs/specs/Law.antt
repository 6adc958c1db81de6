-- Whether tables are lawful is decided; so a law that is only known to hold can be had.
use Rattle.protocol.specs.Lawful.{Content, Lawful}

-- every content is lawful or not
abbrev pub LawDecided : Type 0
LawDecided = (C : Content) → Dec (Lawful C)

-- what the type of sheets says of its tables, without which proof, gives the law itself
abbrev pub LawTold : Type 0
LawTold = (C : Content) → ∥ Lawful C ∥₁ → Lawful C
