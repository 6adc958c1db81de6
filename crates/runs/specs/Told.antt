-- The same definitions told by places.
use Rattle.std.specs.Prelude.{◌≡◌, ℕ, ◌<◌, ◌↔◌, List, [], ◌∷◌, ◌++◌, length}
use Rattle.std.proofs.Math.Option.{Option, none, some}
use Rattle.std.proofs.Math.ListN.{get_elem?}
use Rattle.terms.specs.Terms.{Term, var, Closed, Message}
use Rattle.protocol.specs.Strands.{TermStep, input, output, opens, splits, same}
use Rattle.derivation.specs.Derive.{Derives}
use Rattle.lifting.specs.Lift.{known}
use Rattle.runs.specs.Protocols.{TermAction, Protocol}
use Rattle.runs.specs.Runs.{under, Broken}
use Rattle.runs.specs.Bridge.{AllFed}
use Rattle.runs.specs.Schedules.{holds, broken, spent, Answers}

-- no place before i holds the action
abbrev pub NotBefore : (ℕ → Term) → Option TermAction → ℕ → List TermAction → Type 0
NotBefore ρ none i r = Unit {0}
NotBefore ρ (some a) i r = (j : ℕ) → j < i → ¬ (get_elem? r j ≡ some (under ρ a))

-- at some place stands the later action, and at none before it the earlier
abbrev pub BrokenByPlace : Protocol → List TermAction → Type 0
BrokenByPlace S r = (ρ : ℕ → Term) × ((x : ℕ) → Closed (ρ x)) × ((x : ℕ) → Message (ρ x)) × (i : ℕ) × (get_elem? r i ≡ some (under ρ S.later)) × NotBefore ρ S.earlier i r

-- that is what broken says
abbrev pub BrokenTold : Type 0
BrokenTold = (S : Protocol) (r : List TermAction) → Broken S r ↔ BrokenByPlace S r

-- the open terms of the actions
abbrev pub said : TermStep → List Term
said (input l x) = var x ∷ []
said (output l n) = n ∷ []
said (opens s x k) = []
said (splits s x y) = []
said (same n m) = []

-- the open terms of the actions of the steps
abbrev pub all_said : List TermStep → List Term
all_said [] = []
all_said (p ∷ ps) = said p ++ all_said ps

-- each input is derived from what is known at its place, as the lifting lemma takes it
abbrev pub FedTold : Type 0
FedTold =
    (ρ : ℕ → Term) (ps : List TermStep) →
    AllFed ρ [] ps ↔ ((qs : List TermStep) (l x : ℕ) (rs : List TermStep) → ps ≡ qs ++ (input l x ∷ rs) → Derives (known (all_said ps) ρ (length (all_said qs))) (ρ x))

-- spent is the reply where neither of the others is
abbrev pub SpentTold : Type 0
SpentTold = (S : Protocol) (budget : ℕ) → Answers S budget (spent budget) → (c : ℕ) → (¬ Answers S budget (holds c)) × (¬ Answers S budget (broken c))
