-- What reading a sheet file answers.
use Rattle.std.specs.Prelude.{◌≡◌, ℕ, ◌<◌, List, [], ◌∷◌, ◌++◌, length, None}
use Rattle.std.specs.List.{AllByRecursion}
use Rattle.records.specs.Bytes.{Rec, encode, CutOff}
use Rattle.protocol.specs.Lawful.{Content, Sound, Lawful}
use Rattle.entries.specs.declared.fault.Rule.{Rule}
use Rattle.entries.specs.declared.fault.Rule.TheVariants as r
use Rattle.entries.specs.Format.{entries, file}
use Rattle.entries.specs.Rules.{Breaks}

-- a whole record comes next, and the rule is the first that it breaks
abbrev pub NextBreaks : Rule → Content → List ℕ → Type 0
NextBreaks q C more = (x : Rec) × (after : List ℕ) × (more ≡ encode x ++ after) × Breaks q C x

-- after the content's records the bytes break the rule, and no rule with a smaller number
abbrev pub Stops : Rule → Content → List ℕ → Type 0
Stops r.Whole C more = CutOff more
Stops r.Kind C more = NextBreaks r.Kind C more
Stops r.Limit C more = NextBreaks r.Limit C more
Stops r.Text C more = NextBreaks r.Text C more
Stops r.Node C more = NextBreaks r.Node C more
Stops r.Step C more = NextBreaks r.Step C more
Stops r.Variable C more = NextBreaks r.Variable C more
Stops r.Property C more = NextBreaks r.Property C more
Stops r.Ended C more = (more ≡ []) × (C.property ≡ None)

-- the replies: the sheet that the file describes, or the rule that is broken and the record
pub data Reply : Type 0 where
  taken : Content → Reply
  refused : Rule → ℕ → Reply

-- the reply to a file. A lawful sheet is taken from its own file and from no other;
-- a refusal stands at the first faulty record, with the smallest number there
abbrev pub Reads : List ℕ → Reply → Type 0
Reads bs (taken C) = Lawful C × (bs ≡ file C)
Reads bs (refused q k) = (C : Content) × (more : List ℕ) × Sound C × (bs ≡ file C ++ more) × (k ≡ length (entries C)) × Stops q C more

-- a file has one reply
abbrev pub OneReply : Type 0
OneReply = (bs : List ℕ) (p q : Reply) → Reads bs p → Reads bs q → p ≡ q

-- a content is lawful exactly when some file is read as it: its own file is, and has no other reply
abbrev pub LawfulExactly : Type 0
LawfulExactly =
    (C : Content) →
    (Lawful C → Reads (file C) (taken C) × ((p : Reply) → Reads (file C) p → p ≡ taken C))
    × ((bs : List ℕ) → Reads bs (taken C) → Lawful C)

-- and it is bytes
abbrev pub FilesAreBytes : Type 0
FilesAreBytes = (C : Content) → Lawful C → AllByRecursion (λ b. b < 256) (file C)

-- the file of the first sheet, in fifty bytes
abbrev pub first_file : List ℕ
first_file =
    1 ∷ 0 ∷ 1 ∷ 0 ∷ 97 ∷
    1 ∷ 0 ∷ 2 ∷ 0 ∷ 110 ∷
    6 ∷ 0 ∷ 4 ∷ 0 ∷ 1 ∷ 0 ∷ 0 ∷ 0 ∷ 0 ∷ 0 ∷
    0 ∷ 0 ∷ 5 ∷ 0 ∷
    6 ∷ 0 ∷ 6 ∷ 0 ∷ 2 ∷ 0 ∷ 0 ∷ 0 ∷ 0 ∷ 0 ∷
    12 ∷ 0 ∷ 7 ∷ 0 ∷ 0 ∷ 0 ∷ 0 ∷ 0 ∷ 0 ∷ 0 ∷ 2 ∷ 0 ∷ 0 ∷ 0 ∷ 0 ∷ 0 ∷ []
