-- The walk over schedules goes through the list of all, one after another.
use mathlib.Core.Path.{◌≡◌, refl, sym, ap, ◌∙◌, subst}
use mathlib.Core.Bool.{Bool, true, false, cond}
use mathlib.Core.Option.{Option, none, some}
use mathlib.Core.List.{List, [], ◌∷◌, ◌++◌, map}
use Prim.Native.Nat.{ℕ, zero, suc, ◌+◌, ◌-◌, ◌<◌, ◌≤◌}
use native.Mathlib.Nat.{not-suc-le-zero}
use native.Mathlib.Decide.{ℕ_discrete}
use native.Mathlib.Omega.{arith}
use lib.Dec.{T, eqb, eqb→eq, eqb_refl}
use Rattle.runs.specs.Words.{less, if_any, branches, words, total}
use Rattle.schedules.specs.Walk.{if_left, pick, after, under, only, up, longer, next, rest, from, WalkStarts, WalksOn, UpLast}

pub walk_starts : WalkStarts
walk_starts zero n most = refl
walk_starts (suc f) n most = refl

abbrev choices : ℕ → ℕ → (ℕ → ℕ) → ℕ → List (List ℕ)
choices f n most j = if_any (most j) (words f n (less most j))

-- the schedules that begin with one of the strands from k on begin with the one that is picked
picked : (f n : ℕ) (most : ℕ → ℕ) (k m : ℕ) → k + m ≡ n → branches (choices f n most) k m ≡ from (suc f) n most (only (pick most k m))
picked f n most k zero e = refl
picked f n most k (suc m) e = go (most k) (picked f n most (suc k) m (omega arith))
  where
    go : (l : ℕ) → branches (choices f n most) (suc k) m ≡ from (suc f) n most (only (pick most (suc k) m)) → map (λ (t : List ℕ). k ∷ t) (if_any l (words f n (less most k))) ++ branches (choices f n most) (suc k) m ≡ from (suc f) n most (only (if_left l k (pick most (suc k) m)))
    go zero q = q
    go (suc l) q =
        let here : n - suc k ≡ m = omega arith in
        ap (λ (L : List (List ℕ)). map (λ (t : List ℕ). k ∷ t) L ++ branches (choices f n most) (suc k) m) (walk_starts f n (less most k))
        ∙ ap (λ (i : ℕ). (k ∷ []) ∷ (map (λ (t : List ℕ). k ∷ t) (rest f n (less most k) []) ++ branches (choices f n most) (suc k) i)) (sym here)

-- one mention less of a strand that may be mentioned leaves one less in all
less_self : (most : ℕ → ℕ) (k : ℕ) → less most k k ≡ most k - 1
less_self most k = go (eqb k k) (eqb_refl k)
  where
    go : (b : Bool) → T b → cond b (most k - 1) (most k) ≡ most k - 1
    go true t = refl
    go false t = absurd t

less_other : (most : ℕ → ℕ) (k j : ℕ) → (j ≡ k → ⊥) → less most k j ≡ most j
less_other most k j n = go (eqb j k) (eqb→eq j k)
  where
    go : (b : Bool) → (T b → j ≡ k) → cond b (most j - 1) (most j) ≡ most j
    go true e = absurd (n (e tt))
    go false e = refl

total_beyond : (n : ℕ) (most : ℕ → ℕ) (k : ℕ) → n ≤ k → total n (less most k) ≡ total n most
total_beyond zero most k h = refl
total_beyond (suc n) most k h = let a = less_other most k n (λ e. omega arith) in let b = total_beyond n most k (omega arith) in omega arith

total_less : (n : ℕ) (most : ℕ → ℕ) (k : ℕ) → k < n → 0 < most k → total n (less most k) + 1 ≡ total n most
total_less zero most k h p = absurd (not-suc-le-zero h)
total_less (suc n) most k h p =
    elim (ℕ_discrete k n) [
      | yes e ↦
          let a : less most k n ≡ most n - 1 = subst (λ (i : ℕ). less most k i ≡ most i - 1) e (less_self most k) in
          let b = total_beyond n most k (omega arith) in
          let c : 0 < most n = subst (λ (i : ℕ). 0 < most i) e p in
          omega arith
      | no d ↦
          let a = less_other most k n (λ e. d (sym e)) in
          let b = total_less n most k (omega arith) p in
          omega arith
    ]

-- where nothing is left, nothing is picked
none_left : (most : ℕ → ℕ) (k m : ℕ) → total (k + m) most ≡ 0 → pick most k m ≡ none
none_left most k zero e = refl
none_left most k (suc m) e = go (most k) (zero_at (k + suc m) most k (omega arith) e) (none_left most (suc k) m (subst (λ (i : ℕ). total i most ≡ 0) (omega arith) e))
  where
    zero_at : (n : ℕ) (most : ℕ → ℕ) (k : ℕ) → k < n → total n most ≡ 0 → most k ≡ 0
    zero_at zero most k h e = absurd (not-suc-le-zero h)
    zero_at (suc n) most k h e = elim (ℕ_discrete k n) [ yes q ↦ subst (λ (i : ℕ). most i ≡ 0) (sym q) (omega arith) | no d ↦ zero_at n most k (omega arith) (omega arith) ]

    go : (l : ℕ) → l ≡ 0 → pick most (suc k) m ≡ none → if_left l k (pick most (suc k) m) ≡ none
    go zero q r = r
    go (suc l) q r = absurd (omega arith)

-- the strand in front
fronted : (f n : ℕ) (most : ℕ → ℕ) (k : ℕ) → k < n → (o : Option (List ℕ)) → map (λ (t : List ℕ). k ∷ t) (from f n (less most k) o) ++ branches (choices f n most) (suc k) (n - suc k) ≡ from (suc f) n most (under k o (only (pick most (suc k) (n - suc k))))
fronted f n most k h none = picked f n most (suc k) (n - suc k) (omega arith)
fronted f n most k h (some s) = refl

longer_only : (o : Option ℕ) → longer [] o none ≡ only o
longer_only none = refl
longer_only (some j) = refl

under_longer : (k : ℕ) (s : List ℕ) (o : Option ℕ) (u w : Option (List ℕ)) → under k (longer s o u) w ≡ longer (k ∷ s) o (under k u w)
under_longer k s none u w = refl
under_longer k s (some j) u w = refl

pub walks_on : WalksOn
walks_on zero n most [] h a =
    let z : total n most ≡ 0 = omega arith in
    let q : n ≡ 0 + n = omega arith in
    let e : pick most 0 n ≡ none = none_left most 0 n (subst (λ (i : ℕ). total i most ≡ 0) q z) in
    ap (λ (o : Option ℕ). from zero n most (longer [] o none)) (sym e)
walks_on (suc f) n most [] h a = picked f n most 0 n (omega arith) ∙ ap (from (suc f) n most) (sym (longer_only (pick most 0 n)))
walks_on zero n most (k ∷ s) h a = let t = total_less n most k a.0 a.1 in absurd (omega arith)
walks_on (suc f) n most (k ∷ s) h a =
    let t = total_less n most k a.0 a.1 in
    let ih = walks_on f n (less most k) s (omega arith) a.2 in
    ap (λ (L : List (List ℕ)). map (λ (u : List ℕ). k ∷ u) L ++ branches (choices f n most) (suc k) (n - suc k)) ih
    ∙ fronted f n most k a.0 (next n (less most k) s)
    ∙ ap (from (suc f) n most) (under_longer k s (pick (after (less most k) s) 0 n) (up n (less most k) s) (only (pick most (suc k) (n - suc k))))

pub up_last : UpLast
up_last n most [] k = sym (longer_only (pick most (suc k) (n - suc k)))
up_last n most (i ∷ s) k =
    ap (λ (o : Option (List ℕ)). under i o (only (pick most (suc i) (n - suc i)))) (up_last n (less most i) s k)
    ∙ under_longer i s (pick (after (less most i) s) (suc k) (n - suc k)) (up n (less most i) s) (only (pick most (suc i) (n - suc i)))
