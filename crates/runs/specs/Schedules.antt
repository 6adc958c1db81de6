-- Schedules, their order, and the replies of a search.
use Rattle.std.specs.Prelude.{◌≡◌, ℕ, suc, ◌<◌, ◌≤◌, ◌⊎◌, List, [], ◌∷◌, ◌++◌, length, take}
use mathlib.Core.List.{Memᴰ}
use Rattle.terms.specs.Terms.{Term, inst, Closed, Message, pair, seal}
use Rattle.protocol.specs.Strands.{TermStep, input, output, opens, splits, same, At}
use Rattle.runs.specs.Protocols.{Protocol}
use Rattle.runs.specs.Runs.{State, Runs, Broken, onward, nowhere}

infix 40 ◌≺◌
-- the schedule's steps in its order: a strand's n-th mention is its n-th step
pub data Plan (S : Protocol) : (ℕ → ℕ) → List ℕ → List TermStep → Type 0 where
  done : {next : ℕ → ℕ} → Plan S next [] []
  then : {next : ℕ → ℕ} {k : ℕ} {p : TermStep} {s : List ℕ} {ps : List TermStep} → At S.strands k (next k) p → Plan S (onward next k) s ps → Plan S next (k ∷ s) (p ∷ ps)

-- the open, split or same is satisfied; the action is a message
abbrev pub Holds : (ℕ → Term) → TermStep → Type 0
Holds ρ (input l x) = Message (ρ x)
Holds ρ (output l n) = Message (inst ρ n)
Holds ρ (opens s x k) = inst ρ s ≡ seal (ρ x) (inst ρ k)
Holds ρ (splits s x y) = inst ρ s ≡ pair (ρ x) (ρ y)
Holds ρ (same n m) = inst ρ n ≡ inst ρ m

-- every step is satisfied
abbrev pub AllHold : (ℕ → Term) → List TermStep → Type 0
AllHold ρ ps = (p : TermStep) → Memᴰ p ps → Holds ρ p

-- the schedule has its steps, and closed terms satisfy them together
abbrev pub Feasible : Protocol → List ℕ → Type 0
Feasible S s = (ps : List TermStep) × Plan S nowhere s ps × (ρ : ℕ → Term) × ((x : ℕ) → Closed (ρ x)) × AllHold ρ ps

-- some run of the schedule is broken
abbrev pub Breaking : Protocol → List ℕ → Type 0
Breaking S s = (st : State) × Runs S s st × Broken S st.run

-- a schedule comes before its extensions, and the smaller strand first
abbrev pub ◌≺◌ : List ℕ → List ℕ → Type 0
[] ≺ [] = ⊥
[] ≺ (j ∷ t) = Unit {0}
(k ∷ s) ≺ [] = ⊥
(k ∷ s) ≺ (j ∷ t) = (k < j) ⊎ ((k ≡ j) × (s ≺ t))

-- each comes before all that follow
abbrev pub Ascending : List (List ℕ) → Type 0
Ascending [] = Unit {0}
Ascending (s ∷ L) = ((t : List ℕ) → Memᴰ t L → s ≺ t) × Ascending L

-- the feasible schedules in their order
pub record Listing (S : Protocol) (L : List (List ℕ)) : Type 0 where
  pub ascending : Ascending L
  pub feasible : (s : List ℕ) → Memᴰ s L → Feasible S s
  pub complete : (s : List ℕ) → Feasible S s → Memᴰ s L

-- no schedule of the list is breaking
abbrev pub NoneBreaking : Protocol → List (List ℕ) → Type 0
NoneBreaking S L = (s : List ℕ) → Memᴰ s L → ¬ Breaking S s

-- what a search answers, with its count
pub data Reply : Type 0 where
  holds : ℕ → Reply
  broken : ℕ → Reply
  spent : ℕ → Reply

-- number c of the listing is the first that is breaking
abbrev pub FirstBreaking : Protocol → List (List ℕ) → ℕ → Type 0
FirstBreaking S L c = (before : List (List ℕ)) × (s : List ℕ) × (after : List (List ℕ)) × (L ≡ before ++ (s ∷ after)) × (c ≡ suc (length before)) × NoneBreaking S before × Breaking S s

-- the right reply at a budget: no break within all, the first break within the budget, or no break within the budget and more to visit
abbrev pub Answers : Protocol → ℕ → Reply → Type 0
Answers S budget (holds c) = (L : List (List ℕ)) × Listing S L × (c ≡ length L) × (c ≤ budget) × NoneBreaking S L
Answers S budget (broken c) = (L : List (List ℕ)) × Listing S L × FirstBreaking S L c × (c ≤ budget)
Answers S budget (spent c) = (L : List (List ℕ)) × Listing S L × (c ≡ budget) × (budget < length L) × NoneBreaking S (take budget L)
