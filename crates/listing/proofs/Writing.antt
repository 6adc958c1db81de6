-- A printable text that is written byte by byte.
use Rattle.std.proofs.Common.{◌≡◌, ℕ, ◌+◌, ◌<◌, ◌≤◌, List, [], ◌∷◌, ◌++◌, length, get_or, take, sym, ap, ◌∙◌, arith}
use Rattle.std.specs.List.{AllByRecursion}
use Rattle.std.proofs.ByRecursion.{All-get_or}
use Rattle.std.proofs.lemmas.List.{append_assoc, take_more}

-- one byte more, which is a character of its own
pub byte_more : {b c : List ℕ} (a bs : List ℕ) (i : ℕ) (e : List ℕ) → i < length bs → AllByRecursion (λ x. (33 ≤ x) × (x ≤ 126)) bs → b ≡ a ++ take i bs → c ≡ b ++ e → (get_or bs i 0 < 128 → e ≡ get_or bs i 0 ∷ []) → c ≡ a ++ take (i + 1) bs
byte_more a bs i e h p s g t =
    let r = All-get_or (λ x. (33 ≤ x) × (x ≤ 126)) bs i 0 h p in
    g ∙ ap (λ (l : List ℕ). l ++ e) s ∙ append_assoc a (take i bs) e ∙ ap (λ (l : List ℕ). a ++ l) (ap (λ (l : List ℕ). take i bs ++ l) (t (omega arith)) ∙ sym (take_more bs i 0 h))
