-- The feasible schedules, listed by counting.
use Rattle.std.proofs.Common.{◌≡◌, ℕ, zero, suc, ◌+◌, ◌-◌, ◌<◌, ◌≤◌, Bool, true, false, cond, T, eqb, List, [], ◌∷◌, ◌++◌, map, length, sym, refl, ap, subst, inl, inr, le_of_suc-le-suc, not-suc-le-zero, arith, eqb→eq}
use mathlib.Core.List.Memᴰ
use mathlib.Core.List.{Memᴰ}
use native.Mathlib.Decide.{ℕ_discrete, dec_lt}
use lib.Dec.{eqb_refl}
use Rattle.runs.specs.Schedules.{◌≺◌, Ascending}
use Rattle.runs.specs.Apart.{mentions}
use Rattle.runs.specs.Words.{less, if_any, branches, words, total, WordsListed}
use Rattle.runs.proofs.Apartness.{feasible_counts}
use Rattle.runs.proofs.Values.{is_true}

abbrev pub Allows : (ℕ → ℕ) → List ℕ → Type 0
Allows most s = (k : ℕ) → mentions k s ≤ most k

-- the order
asc_append : (L R : List (List ℕ)) → Ascending L → Ascending R → ((s t : List ℕ) → Memᴰ s L → Memᴰ t R → s ≺ t) → Ascending (L ++ R)
asc_append [] R a b h = b
asc_append (s ∷ L) R a b h = (
  (λ t m. elim (Memᴰ.append_cases L m) [ inl l ↦ a.0 t l | inr r ↦ h s t (Memᴰ.head refl) r ]),
  asc_append L R a.1 b (λ u t l r. h u t (Memᴰ.tail l) r),
)

asc_map : (k : ℕ) (L : List (List ℕ)) → Ascending L → Ascending (map (λ (s : List ℕ). k ∷ s) L)
asc_map k [] a = tt
asc_map k (s ∷ L) a = (
  (λ t m. let r = Memᴰ.of_map (λ (u : List ℕ). k ∷ u) L m in subst (λ (z : List ℕ). (k ∷ s) ≺ z) r.2 (inr (refl, a.0 r.0 r.1))),
  asc_map k L a.1,
)

mem_branches : (w : ℕ → List (List ℕ)) (k n : ℕ) (s : List ℕ) → Memᴰ s (branches w k n) → (j : ℕ) × (t : List ℕ) × (k ≤ j) × (j < k + n) × Memᴰ t (w j) × (j ∷ t ≡ s)
mem_branches w k zero s m = absurd (Memᴰ.not-nil m)
mem_branches w k (suc n) s m =
    elim (Memᴰ.append_cases (map (λ (u : List ℕ). k ∷ u) (w k)) m) [
      | inl l ↦ let r = Memᴰ.of_map (λ (u : List ℕ). k ∷ u) (w k) l in (k, r.0, omega arith, omega arith, r.1, r.2)
      | inr l ↦ let r = mem_branches w (suc k) n s l in let a = r.2 in let b = r.3 in (r.0, r.1, omega arith, omega arith, r.4, r.5)
    ]

branches_mem : (w : ℕ → List (List ℕ)) (k n j : ℕ) (t : List ℕ) → k ≤ j → j < k + n → Memᴰ t (w j) → Memᴰ (j ∷ t) (branches w k n)
branches_mem w k zero j t h l m = absurd (omega arith)
branches_mem w k (suc n) j t h l m =
    elim (ℕ_discrete j k) [
      | yes e ↦ Memᴰ.append_left (branches w (suc k) n) (subst (λ (i : ℕ). Memᴰ (i ∷ t) (map (λ (u : List ℕ). k ∷ u) (w k))) (sym e) (Memᴰ.map (λ (u : List ℕ). k ∷ u) (subst (λ (i : ℕ). Memᴰ t (w i)) e m)))
      | no n' ↦ Memᴰ.append_right (map (λ (u : List ℕ). k ∷ u) (w k)) (branches_mem w (suc k) n j t (omega arith) (omega arith) m)
    ]

asc_branches : (w : ℕ → List (List ℕ)) → ((j : ℕ) → Ascending (w j)) → (k n : ℕ) → Ascending (branches w k n)
asc_branches w a k zero = tt
asc_branches w a k (suc n) =
    asc_append (map (λ (u : List ℕ). k ∷ u) (w k)) (branches w (suc k) n) (asc_map k (w k) (a k)) (asc_branches w a (suc k) n) (λ s t l r. go s t (Memᴰ.of_map (λ (u : List ℕ). k ∷ u) (w k) l) (mem_branches w (suc k) n t r))
  where
    go : (s t : List ℕ) → (u : List ℕ) × Memᴰ u (w k) × (k ∷ u ≡ s) → (j : ℕ) × (u : List ℕ) × (suc k ≤ j) × (j < suc k + n) × Memᴰ u (w j) × (j ∷ u ≡ t) → s ≺ t
    go s t (u, m, e) (j, v, h, l, m', f) = subst (λ (z : List ℕ). z ≺ t) e (subst (λ (z : List ℕ). (k ∷ u) ≺ z) f (inl h))

asc_if : (m : ℕ) (L : List (List ℕ)) → Ascending L → Ascending (if_any m L)
asc_if zero L a = tt
asc_if (suc m) L a = a

asc_words : (f n : ℕ) (most : ℕ → ℕ) → Ascending (words f n most)
asc_words zero n most = ((λ t m. absurd (Memᴰ.not-nil m)), tt)
asc_words (suc f) n most = (
  (λ t m. first t (mem_branches (λ k. if_any (most k) (words f n (less most k))) 0 n t m)),
  asc_branches (λ k. if_any (most k) (words f n (less most k))) (λ k. asc_if (most k) (words f n (less most k)) (asc_words f n (less most k))) 0 n,
)
  where
    first : (t : List ℕ) → (j : ℕ) × (u : List ℕ) × (0 ≤ j) × (j < 0 + n) × Memᴰ u (if_any (most j) (words f n (less most j))) × (j ∷ u ≡ t) → [] ≺ t
    first t (j, u, h, l, m, e) = subst (λ (z : List ℕ). [] ≺ z) e tt

-- counting
allows_cons : (most : ℕ → ℕ) (j : ℕ) (t : List ℕ) → 0 < most j → Allows (less most j) t → Allows most (j ∷ t)
allows_cons most j t h a k = go (eqb k j) (eqb→eq k j) (a k)
  where
    go : (b : Bool) → (T b → k ≡ j) → mentions k t ≤ cond b (most k - 1) (most k) → cond b (suc (mentions k t)) (mentions k t) ≤ most k
    go true e l = let p : 0 < most k = subst (λ (i : ℕ). 0 < most i) (sym (e tt)) h in omega arith
    go false e l = l

allows_tail : (most : ℕ → ℕ) (j : ℕ) (t : List ℕ) → Allows most (j ∷ t) → Allows (less most j) t
allows_tail most j t a k = go (eqb k j) (a k)
  where
    go : (b : Bool) → cond b (suc (mentions k t)) (mentions k t) ≤ most k → mentions k t ≤ cond b (most k - 1) (most k)
    go true l = omega arith
    go false l = l

mentions_here : (j : ℕ) (t : List ℕ) → mentions j (j ∷ t) ≡ suc (mentions j t)
mentions_here j t = ap (λ (b : Bool). cond b (suc (mentions j t)) (mentions j t)) (is_true (eqb j j) (eqb_refl j))

if_mem : (m : ℕ) (L : List (List ℕ)) (t : List ℕ) → Memᴰ t (if_any m L) → (0 < m) × Memᴰ t L
if_mem zero L t i = absurd (Memᴰ.not-nil i)
if_mem (suc m) L t i = (omega arith, i)

mem_if : (m : ℕ) (L : List (List ℕ)) (t : List ℕ) → 0 < m → Memᴰ t L → Memᴰ t (if_any m L)
mem_if zero L t h i = absurd (not-suc-le-zero h)
mem_if (suc m) L t h i = i

allows_none : (most : ℕ → ℕ) (s : List ℕ) → s ≡ [] → Allows most s
allows_none most s e k = subst (λ (z : List ℕ). mentions k z ≤ most k) (sym e) (omega arith)

words_allow : (f n : ℕ) (most : ℕ → ℕ) (s : List ℕ) → Memᴰ s (words f n most) → Allows most s
words_allow zero n most s m = elim (Memᴰ.cases_cons m) [ inl e ↦ allows_none most s e | inr r ↦ absurd (Memᴰ.not-nil r) ]
words_allow (suc f) n most s m =
    elim (Memᴰ.cases_cons m) [
      | inl e ↦ allows_none most s e
      | inr r ↦ let b = mem_branches (λ k. if_any (most k) (words f n (less most k))) 0 n s r in
          let i = if_mem (most b.0) (words f n (less most b.0)) b.1 b.4 in
          subst (λ (z : List ℕ). Allows most z) b.5 (allows_cons most b.0 b.1 i.0 (words_allow f n (less most b.0) b.1 i.1))
    ]

less_le : (most : ℕ → ℕ) (j k : ℕ) → less most j k ≤ most k
less_le most j k = go (eqb k j)
  where
    go : (b : Bool) → cond b (most k - 1) (most k) ≤ most k
    go true = omega arith
    go false = omega arith

less_here : (most : ℕ → ℕ) (j : ℕ) → 0 < most j → suc (less most j j) ≤ most j
less_here most j h = subst (λ (b : Bool). suc (cond b (most j - 1) (most j)) ≤ most j) (sym (is_true (eqb j j) (eqb_refl j))) (omega arith)

BeyondLess : (most : ℕ → ℕ) (n j : ℕ) → ((k : ℕ) → n ≤ k → most k ≡ 0) → (k : ℕ) → n ≤ k → less most j k ≡ 0
BeyondLess most n j h k l = let a = less_le most j k in let b = h k l in omega arith

letter_below : (most : ℕ → ℕ) (n j : ℕ) (t : List ℕ) → ((k : ℕ) → n ≤ k → most k ≡ 0) → Allows most (j ∷ t) → (0 < most j) × (j < n)
letter_below most n j t h a =
    let e = mentions_here j t in
    let l = a j in
    let pos : 0 < most j = omega arith in
    (pos, elim (dec_lt j n) [ yes g ↦ g | no g ↦ let z = h j (omega arith) in absurd (omega arith) ])

words_all : (f n : ℕ) (most : ℕ → ℕ) → ((k : ℕ) → n ≤ k → most k ≡ 0) → (s : List ℕ) → Allows most s → length s ≤ f → Memᴰ s (words f n most)
words_all zero n most h [] a l = Memᴰ.head refl
words_all zero n most h (j ∷ t) a l = absurd (not-suc-le-zero l)
words_all (suc f) n most h [] a l = Memᴰ.head refl
words_all (suc f) n most h (j ∷ t) a l =
    let b = letter_below most n j t h a in
    let c = b.1 in
    Memᴰ.tail (branches_mem (λ k. if_any (most k) (words f n (less most k))) 0 n j t (omega arith) (omega arith)
    (mem_if (most j) (words f n (less most j)) t b.0 (words_all f n (less most j) (BeyondLess most n j h) t (allows_tail most j t a) (le_of_suc-le-suc l))))

total_le : (n : ℕ) (most : ℕ → ℕ) (j : ℕ) → total n (less most j) ≤ total n most
total_le zero most j = omega arith
total_le (suc n) most j = let a = total_le n most j in let b = less_le most j n in omega arith

total_less : (n : ℕ) (most : ℕ → ℕ) (j : ℕ) → j < n → 0 < most j → suc (total n (less most j)) ≤ total n most
total_less zero most j h p = absurd (not-suc-le-zero h)
total_less (suc n) most j h p =
    elim (ℕ_discrete n j) [
      | yes e ↦ let a = total_le n most j in let b : suc (less most j n) ≤ most n = subst (λ (i : ℕ). suc (less most j i) ≤ most i) (sym e) (less_here most j p) in omega arith
      | no g ↦ let a = total_less n most j (omega arith) p in let b = less_le most j n in omega arith
    ]

pub length_total : (n : ℕ) (s : List ℕ) (most : ℕ → ℕ) → ((k : ℕ) → n ≤ k → most k ≡ 0) → Allows most s → length s ≤ total n most
length_total n [] most h a = omega arith
length_total n (j ∷ t) most h a =
    let b = letter_below most n j t h a in
    let c = total_less n most j b.1 b.0 in
    let d = length_total n t (less most j) (BeyondLess most n j h) (allows_tail most j t a) in
    omega arith

pub words_listed : WordsListed
words_listed S law most long n f h t = record {
  ascending = asc_words f n most;
  feasible = λ s m. (feasible_counts S law most long s).1 (words_allow f n most s m);
  complete = λ s g. let a = (feasible_counts S law most long s).0 g in let l = length_total n s most h a in words_all f n most h s a (omega arith);
}
