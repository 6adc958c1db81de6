-- The members of a set as a list, and sets filled one node after another.
use mathlib.Core.List.Memᴰ
use mathlib.Core.List.{[], ◌∷◌, Memᴰ}
use Rattle.std.proofs.Common.{◌≡◌, ℕ, zero, suc, ◌<◌, ◌^◌, ◌/◌, ◌%◌, List, false, get_or, replicate, sym, subst, inl, inr, arith}
use Rattle.std.proofs.lemmas.Bool.{cases_eq}
use Rattle.std.proofs.lemmas.Grind.{common_steps}
use native.Mathlib.Decide.{dec_lt}
use Rattle.terms.specs.Bits.{In}
use Rattle.reach.proofs.Variables.{member_below}

-- those below n
some_listed : (b n : ℕ) → (L : List ℕ) × ((x : ℕ) → Memᴰ x L → In x b) × ((x : ℕ) → x < n → In x b → Memᴰ x L)
some_listed b zero = ([], λ x m. absurd (Memᴰ.not-nil m), λ x l i. absurd (omega arith))
some_listed b (suc n) =
    let (L, f, g) = some_listed b n in
    elim (cases_eq ((b / 2 ^ n) % 2) 1) [
      | inl i ↦ (
        n ∷ L,
        λ x m. elim (Memᴰ.cases_cons m) [ inl e ↦ subst (λ (y : ℕ). In y b) (sym e) i | inr r ↦ f x r ],
        λ x l j. elim (dec_lt x n) [ yes q ↦ Memᴰ.tail (g x q j) | no q ↦ Memᴰ.head (omega arith) ],
      )
      | inr q ↦ (L, f, λ x l j. elim (dec_lt x n) [ yes w ↦ g x w j | no w ↦ absurd (q (subst (λ (y : ℕ). In y b) (omega arith) j)) ])
    ]

pub listed : (b : ℕ) → b < 2 ^ 64 → (L : List ℕ) × ((x : ℕ) → Memᴰ x L → In x b) × ((x : ℕ) → In x b → Memᴰ x L)
listed b w = let (L, f, g) = some_listed b 64 in (L, f, λ x i. g x (member_below b w x i) i)

-- a row where nothing is asked for
pub none_asked : (n i : ℕ) → get_or (replicate n false) i false ≡ false
none_asked n i = grind (arith, common_steps)
