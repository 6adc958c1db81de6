-- A body that is six numbers.
use Rattle.std.proofs.Common.{◌≡◌, ℕ, List, [], ◌∷◌, ◌++◌, length, get_or, arith}
use Rattle.std.specs.List.{flat_map}
use Rattle.records.specs.Bytes.{word}

pub six_body : (ws body : List ℕ) → length ws ≡ 6 → flat_map word ws ≡ body → word (get_or ws 0 0) ++ (word (get_or ws 1 0) ++ (word (get_or ws 2 0) ++ (word (get_or ws 3 0) ++ (word (get_or ws 4 0) ++ word (get_or ws 5 0))))) ≡ body
six_body [] body h e = absurd (omega arith)
six_body (a ∷ []) body h e = absurd (omega arith)
six_body (a ∷ b ∷ []) body h e = absurd (omega arith)
six_body (a ∷ b ∷ c ∷ []) body h e = absurd (omega arith)
six_body (a ∷ b ∷ c ∷ d ∷ []) body h e = absurd (omega arith)
six_body (a ∷ b ∷ c ∷ d ∷ f ∷ []) body h e = absurd (omega arith)
six_body (a ∷ b ∷ c ∷ d ∷ f ∷ g ∷ []) body h e = e
six_body (a ∷ b ∷ c ∷ d ∷ f ∷ g ∷ i ∷ ws) body h e = absurd (omega arith)
