-- What is shown of a file: the listing of its sheet, or its refusal.
use Rattle.std.specs.Prelude.{◌≡◌, ℕ, List, ◌++◌, Some, codes, decimal}
use Rattle.protocol.specs.declared.step.Property.{Property}
use Rattle.entries.specs.Faults.{number}
use Rattle.entries.specs.Reading.{Reply, taken, refused, Reads}
use Rattle.listing.specs.Lines.{lines}

-- the line of a refusal: its number and its record
abbrev pub refusal_line : ℕ → ℕ → List ℕ
refusal_line n k = codes "refused " ++ (decimal n ++ (codes " " ++ (decimal k ++ codes "\n")))

-- the text of a reply
abbrev pub Told : Reply → List ℕ → Type 0
Told (taken C) t = (p : Property) × (C.property ≡ Some p) × (t ≡ lines C p)
Told (refused q k) t = t ≡ refusal_line (number q) k

-- the text shown of a file: that of the reply to it
abbrev pub Shown : List ℕ → List ℕ → Type 0
Shown bs t = (p : Reply) × Reads bs p × Told p t
