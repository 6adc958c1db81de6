-- A row of numbers as bytes, one number more at a time.
use Rattle.std.proofs.Common.{◌≡◌, ℕ, zero, suc, ◌+◌, ◌*◌, ◌<◌, List, [], ◌∷◌, ◌++◌, length, get_or, take, drop, set, sym, refl, ap, ◌∙◌, ap₂, not-suc-le-zero, arith}
use Rattle.std.proofs.Math.Seq.{take-add}
use Rattle.std.specs.Int.{w16, from_le_bytes}
use Rattle.std.specs.List.{flat_map}
use Rattle.std.specs.Simd.{first_chunks}
use Rattle.std.proofs.lemmas.List.{take_more_set, flat_map_more, drop-drop, length-drop, length-take-le, get_or-take, get_or-drop}
use Rattle.records.specs.Bytes.{word}

two : (a b c d : ℕ) → a ≡ c → b ≡ d → a ∷ b ∷ [] ≡ c ∷ d ∷ []
two a b c d p q = cc

-- two bytes are a number
word_of : (cs : List ℕ) (w : ℕ) → length cs ≡ 2 → get_or cs 0 0 < 256 → get_or cs 1 0 < 256 → w ≡ from_le_bytes w16 cs → word w ≡ cs
word_of [] w l u v e = absurd (omega (arith, l))
word_of (a ∷ []) w l u v e = absurd (omega (arith, l))
word_of (a ∷ b ∷ []) w l u v e = two _ _ _ _ (omega (arith, e)) (omega (arith, e))
word_of (a ∷ b ∷ c ∷ cs) w l u v e = absurd (omega (arith, l))

-- the bytes of one chunk
chunk_at : (k : ℕ) (bs : List ℕ) (i : ℕ) (d : List ℕ) → i < k → get_or (first_chunks 2 k bs) i d ≡ take 2 (drop (2 * i) bs)
chunk_at zero bs i d h = absurd (not-suc-le-zero h)
chunk_at (suc k) bs zero d h = refl
chunk_at (suc k) bs (suc i) d h =
    let e : 2 + 2 * i ≡ 2 * suc i = omega arith in
    chunk_at k (drop 2 bs) i d (omega arith) ∙ ap (take 2) (drop-drop (2 * i) 2 bs ∙ ap (λ (n : ℕ). drop n bs) e)

pub row_more : (ws bs : List ℕ) (ps : List (List ℕ)) (i w n : ℕ) (d : List ℕ) → length ws ≡ n → length bs ≡ 2 * n → ps ≡ first_chunks 2 n bs → i < n → ((i : ℕ) → get_or bs i 0 < 256) → flat_map word (take i ws) ≡ take (2 * i) bs → w ≡ from_le_bytes w16 (get_or ps i d) → flat_map word (take (i + 1) (set ws i w)) ≡ take (2 * (i + 1)) bs
row_more ws bs ps i w n d l m p h small e f =
    let c : List ℕ = take 2 (drop (2 * i) bs) in
    let g : get_or ps i d ≡ c = ap (λ (q : List (List ℕ)). get_or q i d) p ∙ chunk_at n bs i d h in
    let s : 2 * i + 2 ≡ 2 * (i + 1) = omega arith in
    ap (flat_map word) (take_more_set ws i w (omega arith))
    ∙ sym (flat_map_more word [] (take i ws) w)
    ∙ ap₂ (λ (x y : List ℕ). x ++ y) e (word_of c w (length-take-le 2 (drop (2 * i) bs) (simp length-drop (omega arith))) (few 0 (omega arith)) (few 1 (omega arith)) (rw g at f))
    ∙ sym (take-add (2 * i) 2 bs)
    ∙ ap (λ (k : ℕ). take k bs) s
  where
    few : (j : ℕ) → j < 2 → get_or (take 2 (drop (2 * i) bs)) j 0 < 256
    few j k = rw (get_or-take 2 (drop (2 * i) bs) j 0 k, get_or-drop (2 * i) bs j 0) (small (2 * i + j))
