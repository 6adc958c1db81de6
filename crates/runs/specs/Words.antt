-- The feasible schedules, listed by counting.
use Rattle.std.specs.Prelude.{◌≡◌, ℕ, zero, suc, ◌+◌, ◌-◌, ◌≤◌, cond, List, [], ◌∷◌, ◌++◌, map, ◌==◌}
use Rattle.runs.specs.Protocols.{Protocol, LawfulProtocol}
use Rattle.runs.specs.Schedules.{Listing}
use Rattle.runs.specs.Apart.{Longest}

-- one mention of k less is allowed
abbrev pub less : (ℕ → ℕ) → ℕ → ℕ → ℕ
less most k j = cond (j == k) (most j - 1) (most j)

-- the list where the number is not 0
abbrev pub if_any : ℕ → List (List ℕ) → List (List ℕ)
if_any zero L = []
if_any (suc m) L = L

-- for each of the n strands from k, that strand and then each of its schedules
abbrev pub branches : (ℕ → List (List ℕ)) → ℕ → ℕ → List (List ℕ)
branches w k zero = []
branches w k (suc n) = map (λ (s : List ℕ). k ∷ s) (w k) ++ branches w (suc k) n

-- the schedules of at most f mentions over n strands, strand k mentioned at most `most k` times
abbrev pub words : ℕ → ℕ → (ℕ → ℕ) → List (List ℕ)
words zero n most = [] ∷ []
words (suc f) n most = [] ∷ branches (λ k. if_any (most k) (words f n (less most k))) 0 n

-- the sum over the first n strands
abbrev pub total : ℕ → (ℕ → ℕ) → ℕ
total zero most = 0
total (suc n) most = most n + total n most

-- counting lists the feasible schedules
abbrev pub WordsListed : Type 0
WordsListed =
    (S : Protocol) → LawfulProtocol S →
    (most : ℕ → ℕ) → Longest S most →
    (n f : ℕ) → ((k : ℕ) → n ≤ k → most k ≡ 0) → total n most ≤ f →
    Listing S (words f n most)
