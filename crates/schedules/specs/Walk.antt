-- The walk over schedules: a schedule comes before its extensions, and the smaller strand first.
use Rattle.std.specs.Prelude.{◌≡◌, List, [], ◌∷◌, ◌++◌, map, ℕ, zero, suc, ◌-◌, ◌<◌, ◌≤◌}
use Rattle.std.proofs.Math.Option.{Option, none, some}
use Rattle.runs.specs.Words.{less, if_any, branches, words, total}

-- the strand where the number is not 0, else the other answer
abbrev pub if_left : ℕ → ℕ → Option ℕ → Option ℕ
if_left zero k o = o
if_left (suc m) k o = some k

-- the smallest of the m strands from k on that may be mentioned once more
abbrev pub pick : (ℕ → ℕ) → ℕ → ℕ → Option ℕ
pick most k zero = none
pick most k (suc m) = if_left (most k) k (pick most (suc k) m)

-- how often each strand may be mentioned after the schedule
abbrev pub after : (ℕ → ℕ) → List ℕ → ℕ → ℕ
after most [] = most
after most (k ∷ s) = after (less most k) s

-- the schedule keeps to the limits of the n strands
abbrev pub Allowed : ℕ → (ℕ → ℕ) → List ℕ → Type 0
Allowed n most [] = Unit {0}
Allowed n most (k ∷ s) = (k < n) × (0 < most k) × Allowed n (less most k) s

-- a strand's schedule in front, or the last way out
abbrev pub under : ℕ → Option (List ℕ) → Option (List ℕ) → Option (List ℕ)
under k none o = o
under k (some s) o = some (k ∷ s)

abbrev pub only : Option ℕ → Option (List ℕ)
only none = none
only (some j) = some (j ∷ [])

-- the schedule that comes after all extensions of this one
abbrev pub up : ℕ → (ℕ → ℕ) → List ℕ → Option (List ℕ)
up n most [] = none
up n most (k ∷ s) = under k (up n (less most k) s) (only (pick most (suc k) (n - suc k)))

abbrev pub longer : List ℕ → Option ℕ → Option (List ℕ) → Option (List ℕ)
longer s none o = o
longer s (some j) o = some (s ++ (j ∷ []))

-- the next schedule: the first extension, or the one after all of them
abbrev pub next : ℕ → (ℕ → ℕ) → List ℕ → Option (List ℕ)
next n most s = longer s (pick (after most s) 0 n) (up n most s)

-- the schedules that come after this one, in their order
abbrev pub rest : ℕ → ℕ → (ℕ → ℕ) → List ℕ → List (List ℕ)
rest zero n most s = []
rest (suc f) n most [] = branches (λ j. if_any (most j) (words f n (less most j))) 0 n
rest (suc f) n most (k ∷ s) = map (λ (t : List ℕ). k ∷ t) (rest f n (less most k) s) ++ branches (λ j. if_any (most j) (words f n (less most j))) (suc k) (n - suc k)

-- a schedule and those after it, or nothing
abbrev pub from : ℕ → ℕ → (ℕ → ℕ) → Option (List ℕ) → List (List ℕ)
from f n most none = []
from f n most (some s) = s ∷ rest f n most s

-- the walk begins at the empty schedule
abbrev pub WalkStarts : Type 0
WalkStarts = (f n : ℕ) (most : ℕ → ℕ) → words f n most ≡ from f n most (some [])

-- what comes after a schedule begins with the next one, or is nothing
abbrev pub WalksOn : Type 0
WalksOn = (f n : ℕ) (most : ℕ → ℕ) (s : List ℕ) → total n most ≤ f → Allowed n most s → rest f n most s ≡ from f n most (next n most s)

-- past all extensions of s · k: a larger strand in the place of k, or past all extensions of s
abbrev pub UpLast : Type 0
UpLast = (n : ℕ) (most : ℕ → ℕ) (s : List ℕ) (k : ℕ) → up n most (s ++ (k ∷ [])) ≡ longer s (pick (after most s) (suc k) (n - suc k)) (up n most s)
