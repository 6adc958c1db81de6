-- One listing, one reply, one word at every budget.
use Rattle.std.specs.Prelude.{◌≡◌, ℕ, ◌<◌, ◌≤◌, ◌↔◌, List}
use mathlib.Core.List.{Memᴰ}
use Rattle.runs.specs.Protocols.{Protocol}
use Rattle.runs.specs.Schedules.{Listing, Breaking, Reply, holds, broken, spent, Answers}

-- the feasible schedules have one listing
abbrev pub OneListing : Type 0
OneListing = (S : Protocol) (L L' : List (List ℕ)) → Listing S L → Listing S L' → L ≡ L'

-- one reply at a budget
abbrev pub OneReply : Type 0
OneReply = (S : Protocol) (budget : ℕ) (r r' : Reply) → Answers S budget r → Answers S budget r' → r ≡ r'

-- the same word and count wherever the budget covers it, and spent exactly where it does not
abbrev pub AtEveryBudget : Protocol → ℕ → Reply → Type 0
AtEveryBudget S c word = (budget : ℕ) → ((c ≤ budget) ↔ Answers S budget word) × ((budget < c) ↔ Answers S budget (spent budget))

-- an answer at one budget tells the answers at all
abbrev pub OneWord : Type 0
OneWord = (S : Protocol) (budget c : ℕ) → (Answers S budget (holds c) → AtEveryBudget S c (holds c)) × (Answers S budget (broken c) → AtEveryBudget S c (broken c))

-- where breaking is decided, there is a reply at every budget
abbrev pub SomeReply : Type 0
SomeReply = (S : Protocol) (L : List (List ℕ)) → Listing S L → ((s : List ℕ) → Memᴰ s L → Dec (Breaking S s)) → (budget : ℕ) → (r : Reply) × Answers S budget r
