-- The list of linked nodes, through one link more and one less.
use mathlib.Core.Path.{◌≡◌, sym, ap, ◌∙◌, subst}
use mathlib.Core.List.{List, [], ◌∷◌, ◌++◌}
use Prim.Native.Nat.{ℕ, ◌<◌}
use native.Mathlib.Decide.{ℕ_discrete, dec_lt}
use native.Mathlib.Omega.{arith}
use lib.ListN.{length, set, length-set, length-append, get_or-append}
use lib.Seq.{get_or-append_seam}
use Rattle.std.specs.Prelude.{map}
use Rattle.std.specs.List.{range_with_len}
use Rattle.std.proofs.lemmas.List.{length-map, get_or-map}
use Rattle.std.proofs.lemmas.List.FromFn.{length-range_with_len, get_or-range_with_len}
use Rattle.terms.specs.declared.number.NodeNo.{NodeNo}
use Rattle.unification.specs.Classes.{up, Own, Lower, Traced}
use Rattle.unification.proofs.Moves.{up_same, up_other}

up_old : (L : List NodeNo) (n : NodeNo) (k : ℕ) → k < length L → up (L ++ (n ∷ [])) k ≡ up L k
up_old L n k h = ap (λ (p : NodeNo). p.0) (get_or-append L (n ∷ []) (record { 0 = 0 }) k h)

up_new : (L : List NodeNo) (n : NodeNo) → up (L ++ (n ∷ [])) (length L) ≡ n.0
up_new L n = ap (λ (p : NodeNo). p.0) (get_or-append_seam L n [] (record { 0 = 0 }))

-- what holds of each node of a list and of one more holds of each of the longer list
pub listed_snoc : (Q : ℕ → Type 0) (L : List NodeNo) (n : NodeNo) → ((k : ℕ) → k < length L → Q (up L k)) → Q n.0 → (k : ℕ) → k < length (L ++ (n ∷ [])) → Q (up (L ++ (n ∷ [])) k)
listed_snoc Q L n all here k h =
    elim (dec_lt k (length L)) [
      | yes l ↦ subst Q (sym (up_old L n k l)) (all k l)
      | no l ↦ let e : k ≡ length L = omega (arith, length-append L (n ∷ [])) in subst Q (sym (ap (up (L ++ (n ∷ []))) e ∙ up_new L n)) here
    ]

pub listed_front : (Q : ℕ → Type 0) (L : List NodeNo) (n : NodeNo) → ((k : ℕ) → k < length (L ++ (n ∷ [])) → Q (up (L ++ (n ∷ [])) k)) → (k : ℕ) → k < length L → Q (up L k)
listed_front Q L n all k h = subst Q (up_old L n k h) (all k (omega (arith, length-append L (n ∷ []))))

pub listed_last : (Q : ℕ → Type 0) (L : List NodeNo) (n : NodeNo) → ((k : ℕ) → k < length (L ++ (n ∷ [])) → Q (up (L ++ (n ∷ [])) k)) → Q n.0
listed_last Q L n all = subst Q (up_new L n) (all (length L) (omega (arith, length-append L (n ∷ []))))

-- a root was linked, and is listed
pub traced_link : (P L : List NodeNo) (hi lo : NodeNo) → Traced P L → Traced (set P hi.0 lo) (L ++ (hi ∷ []))
traced_link P L hi lo t i h a =
    let other : i ≡ hi.0 → ⊥ = λ e. a (length L) (omega (arith, length-append L (hi ∷ []))) (up_new L hi ∙ sym e) in
    up_other P hi.0 i lo other ∙ t i (omega (arith, length-set P hi.0 lo)) (λ k l q. a k (omega (arith, length-append L (hi ∷ []))) (up_old L hi k l ∙ q))

-- the last that is listed is a class of its own again
pub traced_free : (P L L₀ : List NodeNo) (n : NodeNo) → L₀ ≡ L ++ (n ∷ []) → n.0 < length P → Traced P L₀ → Traced (set P n.0 n) L
traced_free P L L₀ n e w t i h a =
    elim (ℕ_discrete i n.0) [
      | yes p ↦ ap (up (set P n.0 n)) p ∙ up_same P n.0 n w ∙ sym p
      | no q ↦ up_other P n.0 i n q ∙ subst (Traced P) e t i (omega (arith, length-set P n.0 n)) (listed_snoc (λ j. j ≡ i → ⊥) L n a (λ f. q (sym f)))
    ]

pub lower_free : (P : List NodeNo) (n : NodeNo) → Lower P → n.0 < length P → Lower (set P n.0 n)
lower_free P n low w i h =
    elim (ℕ_discrete i n.0) [
      | yes p ↦ let a = ap (up (set P n.0 n)) p ∙ up_same P n.0 n w in omega arith
      | no q ↦ let a = up_other P n.0 i n q in let b = low i (omega (arith, length-set P n.0 n)) in omega arith
    ]

-- the first numbers, each a class of its own
pub own_first : (n : ℕ) → Own (map (λ (i : ℕ). record { 0 = i }) (range_with_len 0 n))
own_first n i h =
    let first : ℕ → NodeNo = λ i. record { 0 = i } in
    let l : i < length (range_with_len 0 n) = omega (arith, length-map (range_with_len 0 n) first) in
    let e = ap (λ (p : NodeNo). p.0) (get_or-map first (range_with_len 0 n) i 0 (record { 0 = 0 }) l) in
    omega (arith, e, get_or-range_with_len 0 n i 0 (omega (arith, length-range_with_len 0 n)))
