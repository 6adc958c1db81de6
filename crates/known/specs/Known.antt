-- Eight cases whose answers are known, as one table.
use Rattle.std.specs.Prelude.{◌≡◌, ℕ, List, [], ◌∷◌, Some}
use Rattle.std.proofs.Math.Option.{some}
use Rattle.terms.specs.Terms.{Term, name, pair, seal}
use Rattle.protocol.specs.declared.step.Property.{Property}
use Rattle.protocol.specs.Lawful.{Content, Lawful}
use Rattle.derivation.specs.Derive.{Derives}
use Rattle.runs.specs.Protocols.{Protocol}
use Rattle.runs.specs.Runs.{State, Runs, Moves}
use Rattle.runs.specs.Schedules.{Reply, holds, broken, spent, Answers}
use Rattle.runs.specs.Replies.{AtEveryBudget}
use Rattle.runs.specs.Tables.{protocol_of}
use Rattle.known.specs.Sheets.{sheet_1, sheet_2, sheet_3, sheet_4, sheet_5, sheet_6, sheet_7}

-- d under the key k: name 0 under name 1
abbrev pub locked : Term
locked = seal (name 0) (name 1)

-- a fact of a case: a sheet that holds or is broken with a count, its reply at one budget, a strand that cannot go on
-- after a run of a schedule that gave a variable a pair; a derived term, an underived one
pub data Fact : Type 0 where
  holding : Content → ℕ → Fact
  breaking : Content → ℕ → Fact
  answered : Content → ℕ → Reply → Fact
  stuck_by_pair : Content → List ℕ → ℕ → ℕ → Fact
  derived : List Term → Term → Fact
  underived : List Term → Term → Fact

-- the sheet is lawful, and P holds of its protocol
abbrev pub OfSheet : Content → (Protocol → Type 0) → Type 0
OfSheet C P = Lawful C × ((p : Property) → C.property ≡ Some p → P (protocol_of C p))

-- some run of the schedule has a pair for the variable's value
abbrev pub FedPair : List ℕ → ℕ → Protocol → Type 0
FedPair s x S = (st : State) × (a : Term) × (b : Term) × Runs S s st × (st.value x ≡ some (pair a b))

-- and after every such run strand k has no next step
abbrev pub StuckByPair : List ℕ → ℕ → ℕ → Protocol → Type 0
StuckByPair s x k S = FedPair s x S × ((st : State) → Runs S s st → (a b : Term) → st.value x ≡ some (pair a b) → (st' : State) → ¬ Moves S st k st')

-- what the fact says; a word with its count is told of every budget
abbrev pub Stands : Fact → Type 0
Stands (holding C c) = OfSheet C (λ S. AtEveryBudget S c (holds c))
Stands (breaking C c) = OfSheet C (λ S. AtEveryBudget S c (broken c))
Stands (answered C budget reply) = OfSheet C (λ S. Answers S budget reply)
Stands (stuck_by_pair C s x k) = OfSheet C (StuckByPair s x k)
Stands (derived K t) = Derives K t
Stands (underived K t) = ¬ Derives K t

-- every fact of a case stands
abbrev pub CaseStands : List Fact → Type 0
CaseStands [] = Unit {0}
CaseStands (f ∷ fs) = Stands f × CaseStands fs

-- every case of a table stands
abbrev pub TableStands : List (List Fact) → Type 0
TableStands [] = Unit {0}
TableStands (c ∷ cs) = CaseStands c × TableStands cs

-- the table, cases 1 to 8
abbrev pub cases : List (List Fact)
cases =
    (holding sheet_1 5 ∷ answered sheet_1 4 (spent 4) ∷ [])
    ∷ (breaking sheet_2 3 ∷ [])
    ∷ (breaking sheet_3 5 ∷ [])
    ∷ (breaking sheet_4 2 ∷ [])
    ∷ (breaking sheet_5 5 ∷ [])
    ∷ (holding sheet_6 2 ∷ [])
    ∷ (holding sheet_7 3 ∷ stuck_by_pair sheet_7 (0 ∷ []) 0 0 ∷ [])
    ∷ (underived (locked ∷ []) (name 0) ∷ derived (locked ∷ []) (pair locked locked) ∷ derived (locked ∷ name 1 ∷ []) (name 0) ∷ [])
    ∷ []

-- the whole table stands
abbrev pub KnownCases : Type 0
KnownCases = TableStands cases
