-- What adding an entry to the tables of a sheet answers.
use Rattle.std.specs.Prelude.{◌≡◌, ℕ, List, [], ◌∷◌, ◌++◌, Ok, Err, Result}
use Rattle.records.specs.Bytes.{Rec}
use Rattle.protocol.specs.Strands.{Binds, step_of}
use Rattle.protocol.specs.Lawful.{Content, Text}
use Rattle.entries.specs.declared.fault.Rule.{Rule}
use Rattle.entries.specs.declared.fault.Rule.TheVariants as r
use Rattle.entries.specs.declared.entry.Fields.{Fields}
use Rattle.sheet.specs.declared.draft.Placed.{Placed}
use Rattle.sheet.specs.declared.refusal.Refusal.{Refusal}
use Rattle.sheet.specs.declared.refusal.Refusal.TheVariants.{Broken, NoMemory}
use Rattle.entries.specs.Format.{Entry, step, rec, step_entry}
use Rattle.entries.specs.Faults.{number}
use Rattle.entries.specs.Rules.{Keeps, KeepsBelow, Breaks}
use Rattle.entries.specs.Growth.{Adds}
use Rattle.sheet.specs.Checking.{Just}

-- the entry breaks the rule, and none with a smaller number
abbrev pub Refuses : Content → Entry → Rule → Type 0
Refuses C e q = KeepsBelow (number q) C e × ¬ Keeps q C e

-- adding an entry
abbrev pub Entered : Content → Entry → Result (Unit {0}) Refusal → Content → Type 0
Entered C e (Ok u) D = KeepsBelow 9 C e × Adds C e D
Entered C e (Err (Broken q)) D = Refuses C e q
Entered C e (Err NoMemory) D = Unit {0}

-- adding a record
abbrev pub Added : Content → Rec → Result (Unit {0}) Refusal → Content → Type 0
Added C x (Ok u) D = (e : Entry) × (rec e ≡ x) × KeepsBelow 9 C e × Adds C e D
Added C x (Err (Broken q)) D = Breaks q C x
Added C x (Err NoMemory) D = Unit {0}

-- adding a text to a table
abbrev pub TextAdded : List (List ℕ) → List ℕ → Result (Unit {0}) Refusal → List (List ℕ) → Type 0
TextAdded ts t (Ok u) ts' = Text t × (ts' ≡ ts ++ (t ∷ []))
TextAdded ts t (Err (Broken q)) ts' = (q ≡ r.Text) × (¬ Text t) × (ts' ≡ ts)
TextAdded ts t (Err NoMemory) ts' = ts' ≡ ts

-- a step that may be added to the latest strand, and what it binds
abbrev pub StepPlaced : Content → Fields → Result Placed Rule → Type 0
StepPlaced C f (Ok p) =
    KeepsBelow 9 C (step f.kind f.a f.b)
    × (step_entry p.step ≡ step f.kind f.a f.b)
    × Just (λ x. Binds x (step_of C.nodes p.step)) p.binds
StepPlaced C f (Err q) = Refuses C (step f.kind f.a f.b) q
