-- What taking apart reaches can be listed.
use mathlib.Core.Path.{◌≡◌, refl, sym, ◌∙◌, subst}
use mathlib.Core.List.Memᴰ
use mathlib.Core.List.{List, [], ◌∷◌, ◌++◌, Memᴰ}
use mathlib.Core.Logic.{◌⊎◌, inl, inr}
use Prim.Native.Nat.{ℕ, zero, suc, ◌<◌}
use native.Mathlib.Nat.{not-suc-le-zero, lt-suc_self}
use native.Mathlib.Omega.{arith}
use lib.ListN.{length}
use Rattle.terms.specs.Terms.{Term, name, env, var, pair, seal}
use Rattle.lifting.specs.Lift.{Analz, by_var, by_env, by_name}
use Rattle.deciding.specs.Decide.{AnalzTable}
use Rattle.deciding.proofs.Deciding.{mem_term?}

abbrev parts : Term → List Term
parts (name n) = name n ∷ []
parts (env n) = env n ∷ []
parts (var x) = var x ∷ []
parts (pair a b) = pair a b ∷ (parts a ++ parts b)
parts (seal a b) = seal a b ∷ (parts a ++ parts b)

front : (xs ys : List Term) (t : Term) → Memᴰ t xs → Memᴰ t (xs ++ ys)
front [] ys t h = absurd (Memᴰ.not-nil h)
front (x ∷ xs) ys t h = elim (Memᴰ.cases_cons h) [ inl e ↦ Memᴰ.head e | inr r ↦ Memᴰ.tail (front xs ys t r) ]

back : (xs ys : List Term) (t : Term) → Memᴰ t ys → Memᴰ t (xs ++ ys)
back [] ys t h = h
back (x ∷ xs) ys t h = Memᴰ.tail (back xs ys t h)

either : (xs ys : List Term) (t : Term) → Memᴰ t (xs ++ ys) → Memᴰ t xs ⊎ Memᴰ t ys
either [] ys t m = inr m
either (x ∷ xs) ys t m = elim (Memᴰ.cases_cons m) [ inl e ↦ inl (Memᴰ.head e) | inr r ↦ elim (either xs ys t r) [ inl q ↦ inl (Memᴰ.tail q) | inr q ↦ inr q ] ]

self : (t : Term) → Memᴰ t (parts t)
self (name n) = Memᴰ.head refl
self (env n) = Memᴰ.head refl
self (var x) = Memᴰ.head refl
self (pair a b) = Memᴰ.head refl
self (seal a b) = Memᴰ.head refl

within : (t u v : Term) → Memᴰ u (parts t) → Memᴰ v (parts u) → Memᴰ v (parts t)
within (name n) u v m k = elim (Memᴰ.cases_cons m) [ inl e ↦ subst (λ (z : Term). Memᴰ v (parts z)) e k | inr r ↦ absurd (Memᴰ.not-nil r) ]
within (env n) u v m k = elim (Memᴰ.cases_cons m) [ inl e ↦ subst (λ (z : Term). Memᴰ v (parts z)) e k | inr r ↦ absurd (Memᴰ.not-nil r) ]
within (var x) u v m k = elim (Memᴰ.cases_cons m) [ inl e ↦ subst (λ (z : Term). Memᴰ v (parts z)) e k | inr r ↦ absurd (Memᴰ.not-nil r) ]
within (pair a b) u v m k =
    elim (Memᴰ.cases_cons m) [
      | inl e ↦ subst (λ (z : Term). Memᴰ v (parts z)) e k
      | inr r ↦ elim (either (parts a) (parts b) u r) [ inl h ↦ Memᴰ.tail (front (parts a) (parts b) v (within a u v h k)) | inr h ↦ Memᴰ.tail (back (parts a) (parts b) v (within b u v h k)) ]
    ]
within (seal a b) u v m k =
    elim (Memᴰ.cases_cons m) [
      | inl e ↦ subst (λ (z : Term). Memᴰ v (parts z)) e k
      | inr r ↦ elim (either (parts a) (parts b) u r) [ inl h ↦ Memᴰ.tail (front (parts a) (parts b) v (within a u v h k)) | inr h ↦ Memᴰ.tail (back (parts a) (parts b) v (within b u v h k)) ]
    ]

abbrev all_parts : List Term → List Term
all_parts [] = []
all_parts (t ∷ S) = parts t ++ all_parts S

listed_part : (S : List Term) (t : Term) → Memᴰ t S → Memᴰ t (all_parts S)
listed_part [] t m = absurd (Memᴰ.not-nil m)
listed_part (s ∷ S) t m = elim (Memᴰ.cases_cons m) [ inl e ↦ front (parts s) (all_parts S) t (subst (λ (z : Term). Memᴰ t (parts z)) e (self t)) | inr r ↦ back (parts s) (all_parts S) t (listed_part S t r) ]

part_part : (S : List Term) (u v : Term) → Memᴰ u (all_parts S) → Memᴰ v (parts u) → Memᴰ v (all_parts S)
part_part [] u v m k = absurd (Memᴰ.not-nil m)
part_part (s ∷ S) u v m k = elim (either (parts s) (all_parts S) u m) [ inl h ↦ front (parts s) (all_parts S) v (within s u v h k) | inr h ↦ back (parts s) (all_parts S) v (part_part S u v h k) ]

reached_part : (S : List Term) → {t : Term} → Analz S t → Memᴰ t (all_parts S)
reached_part S {t} (Analz.listed m) = listed_part S t m
reached_part S (Analz.left {a} {b} z) = part_part S (pair a b) a (reached_part S z) (Memᴰ.tail (front (parts a) (parts b) a (self a)))
reached_part S (Analz.right {a} {b} z) = part_part S (pair a b) b (reached_part S z) (Memᴰ.tail (back (parts a) (parts b) b (self b)))
reached_part S (by_var {b} {x} z) = part_part S (seal b (var x)) b (reached_part S z) (Memᴰ.tail (front (parts b) (parts (var x)) b (self b)))
reached_part S (by_env {b} {n} z) = part_part S (seal b (env n)) b (reached_part S z) (Memᴰ.tail (front (parts b) (parts (env n)) b (self b)))
reached_part S (by_name {b} {n} z k) = part_part S (seal b (name n)) b (reached_part S z) (Memᴰ.tail (front (parts b) (parts (name n)) b (self b)))

-- what follows from a term in one step, over the list L
abbrev Follows : List Term → Term → Type 0
Follows L (name n) = Unit {0}
Follows L (env n) = Unit {0}
Follows L (var x) = Unit {0}
Follows L (pair a b) = Memᴰ a L × Memᴰ b L
Follows L (seal b (name n)) = Memᴰ (name n) L → Memᴰ b L
Follows L (seal b (env n)) = Memᴰ b L
Follows L (seal b (var x)) = Memᴰ b L
Follows L (seal b (pair c d)) = Unit {0}
Follows L (seal b (seal c d)) = Unit {0}

module _ (S : List Term) (L : List Term) (sound : (t : Term) → Memᴰ t L → Analz S t) where
  abbrev New : Type 0
  New = (t : Term) × Analz S t × (¬ Memᴰ t L)

  body : (b : Term) → Analz S b → New ⊎ Memᴰ b L
  body b a = elim (mem_term? b L) [ yes h ↦ inr h | no f ↦ inl (b, a, f) ]

  follow : (t : Term) → Analz S t → New ⊎ Follows L t
  follow (name n) z = inr tt
  follow (env n) z = inr tt
  follow (var x) z = inr tt
  follow (pair a b) z =
      elim (body a (Analz.left z)) [ inl n ↦ inl n | inr h ↦ elim (body b (Analz.right z)) [ inl n ↦ inl n | inr k ↦ inr (h, k) ] ]
  follow (seal b (name n)) z =
      elim (mem_term? (name n) L) [
        | yes h ↦ elim (body b (by_name z (sound (name n) h))) [ inl w ↦ inl w | inr k ↦ inr (λ m. k) ]
        | no f ↦ inr (λ m. absurd (f m))
      ]
  follow (seal b (env n)) z = body b (by_env z)
  follow (seal b (var x)) z = body b (by_var z)
  follow (seal b (pair c d)) z = inr tt
  follow (seal b (seal c d)) z = inr tt

  follow_all : (R : List Term) → ((t : Term) → Memᴰ t R → Memᴰ t L) → New ⊎ ((t : Term) → Memᴰ t R → Follows L t)
  follow_all [] h = inr (λ t m. absurd (Memᴰ.not-nil m))
  follow_all (s ∷ R) h =
      elim (follow s (sound s (h s (Memᴰ.head refl)))) [
        | inl n ↦ inl n
        | inr f ↦ elim (follow_all R (λ t m. h t (Memᴰ.tail m))) [
          | inl n ↦ inl n
          | inr g ↦ inr (λ t m. elim (Memᴰ.cases_cons m) [ inl e ↦ subst (λ (z : Term). Follows L z) (sym e) f | inr r ↦ g t r ])
        ]
      ]

  module _ (starts : (t : Term) → Memᴰ t S → Memᴰ t L) (all : (t : Term) → Memᴰ t L → Follows L t) where
    complete : {t : Term} → Analz S t → Memᴰ t L
    complete {t} (Analz.listed m) = starts t m
    complete (Analz.left {a} {b} z) = (all (pair a b) (complete z)).0
    complete (Analz.right {a} {b} z) = (all (pair a b) (complete z)).1
    complete (by_var {b} {x} z) = all (seal b (var x)) (complete z)
    complete (by_env {b} {n} z) = all (seal b (env n)) (complete z)
    complete (by_name {b} {n} z k) = all (seal b (name n)) (complete z) (complete k)

less : (L : List Term) (m : Term) → Memᴰ m L → (L' : List Term) × (length L' < length L) × ((k : Term) → Memᴰ k L → (k ≡ m) ⊎ Memᴰ k L')
less [] m h = absurd (Memᴰ.not-nil h)
less (a ∷ L) m h =
    elim (Memᴰ.cases_cons h) [
      | inl q ↦ (L, lt-suc_self (length L), λ k c. elim (Memᴰ.cases_cons c) [ inl e ↦ inl (e ∙ sym q) | inr r ↦ inr r ])
      | inr q ↦ let w = less L m q in (a ∷ w.0, omega (arith, w.1), λ k c. elim (Memᴰ.cases_cons c) [ inl e ↦ inr (Memᴰ.head e) | inr r ↦ elim (w.2 k r) [ inl e ↦ inl e | inr z ↦ inr (Memᴰ.tail z) ] ])
    ]

fill : (n : ℕ) (S L left : List Term) → length left < n → ((t : Term) → Memᴰ t L → Analz S t) → ((t : Term) → Memᴰ t S → Memᴰ t L) → ((t : Term) → Analz S t → ¬ Memᴰ t L → Memᴰ t left) → (R : List Term) × ((t : Term) → Memᴰ t R → Analz S t) × ((t : Term) → Analz S t → Memᴰ t R)
fill zero S L left h sound starts lf = absurd (not-suc-le-zero h)
fill (suc n) S L left h sound starts lf =
    elim (follow_all S L sound L (λ t m. m)) [
      | inr all ↦ (L, sound, λ t a. complete S L sound starts all a)
      | inl w ↦
          let rm = less left w.0 (lf w.0 w.1 w.2) in
          fill n S (w.0 ∷ L) rm.0 (omega (arith, rm.1))
          (λ t m. elim (Memᴰ.cases_cons m) [ inl e ↦ subst (λ (z : Term). Analz S z) (sym e) w.1 | inr r ↦ sound t r ])
          (λ t m. Memᴰ.tail (starts t m))
          (λ t a f. elim (rm.2 t (lf t a (λ m. f (Memᴰ.tail m)))) [ inl e ↦ absurd (f (Memᴰ.head e)) | inr z ↦ z ])
    ]

pub analz_table : AnalzTable
analz_table S = fill (suc (length (all_parts S))) S S (all_parts S) (lt-suc_self (length (all_parts S))) (λ t m. Analz.listed m) (λ t m. m) (λ t a f. reached_part S a)
