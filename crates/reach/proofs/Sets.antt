-- Sets of numbers: none in the empty one, one more in a longer one.
use Rattle.std.proofs.Common.{◌≡◌, ℕ, ◌-◌, ◌/◌, ◌%◌, ◌^◌, ◌<◌, Bool, true, false, Decides, eqb, List, length, get_or, set, replicate, refl, sym, ap, ◌∙◌, subst, ◌⊎◌, inl, inr, ⊎_elim, arith, mod-lt}
use Rattle.std.specs.Prelude.{sum_by}
use Rattle.std.proofs.lemmas.List.{get_or-replicate, get_or_past, length-replicate, get_or-set_same, get_or-set_other}
use Rattle.std.proofs.lemmas.List.Sums.{sum_by-set}
use Rattle.std.proofs.lemmas.Bool.{cases_lt, cases_eq, iff_false}
use Rattle.std.proofs.lemmas.Bool.Decides.{Decides-eqb, same_from_decides}
use Rattle.terms.specs.Bits.{In}
use Rattle.terms.specs.Sets.{bits}
use Rattle.terms.specs.declared.variables.VarSet.{VarSet}
use Rattle.terms.proofs.Bitsets.{not_in_zero}
use Rattle.limits.proofs.Subsets.{subset_le}
use Rattle.reach.specs.Numbers.{row, has, room, Added}
use Rattle.reach.specs.declared.numbers.Numbers.{Numbers}

-- the empty row
abbrev pub no_row : VarSet
no_row = record { 0 = 0 }

-- whether the digit is there
told : (a x : ℕ) → Decides (eqb ((a / 2 ^ x) % 2) 1) (In x a)
told a x = Decides-eqb ((a / 2 ^ x) % 2) 1

not_told : (a x : ℕ) → a ≡ 0 → eqb ((a / 2 ^ x) % 2) 1 ≡ false
not_told a x e = same_false (eqb ((a / 2 ^ x) % 2) 1) (λ t. not_in_zero x (subst (In x) e ((told a x).0 t)))
  where
    same_false : (b : Bool) → (b ≡ true → ⊥) → b ≡ false
    same_false true f = absurd (f refl)
    same_false false f = refl

pub none_has : (s : Numbers) (v : VarSet) (n : ℕ) → s.rows ≡ replicate n v → bits v ≡ 0 → (i : ℕ) → has s i ≡ false
none_has s v n e z i = not_told (bits (row s (i / 64))) (i % 64) (ap (λ (r : List VarSet). bits (get_or r (i / 64) no_row)) e ∙ empty)
  where
    empty : bits (get_or (replicate n v) (i / 64) no_row) ≡ 0
    empty = ⊎_elim (λ l. ap bits (get_or-replicate n (i / 64) v no_row l) ∙ z) (λ l. ap bits (get_or_past (replicate n v) (i / 64) no_row (omega (arith, length-replicate n v)))) (cases_lt (i / 64) n)

-- a test of the digit is a test of the set
pub has_told : (s : Numbers) (i : ℕ) (b : Bool) → Decides b (In (i % 64) (bits (row s (i / 64)))) → b ≡ has s i
has_told s i b d = same_from_decides b (has s i) d (told (bits (row s (i / 64))) (i % 64))

pub added : (s : Numbers) (n : ℕ) (s' : Numbers) (v : VarSet) → n / 64 < length s.rows → ((x : ℕ) → (In x (bits v) → In x (bits (row s (n / 64))) ⊎ ((x ≡ n % 64) × (x < 64))) × (In x (bits (row s (n / 64))) ⊎ ((x ≡ n % 64) × (x < 64)) → In x (bits v))) → v.0 < 18446744073709551616 → s'.rows ≡ set s.rows (n / 64) v → Added s n s'
added s n s' v l w wide e = record { here = (told (bits (row s' (n / 64))) (n % 64)).1 (subst (λ (r : VarSet). In (n % 64) (bits r)) (sym same) new); others = others; less = less }
  where
    old : VarSet
    old = row s (n / 64)

    new : In (n % 64) (bits v)
    new = (w (n % 64)).1 (inr (refl, mod-lt n {m = 64} (omega arith)))

    same : row s' (n / 64) ≡ v
    same = ap (λ (r : List VarSet). get_or r (n / 64) no_row) e ∙ get_or-set_same s.rows (n / 64) v no_row l

    others : (i : ℕ) → (i ≡ n → ⊥) → has s' i ≡ has s i
    others i d = ⊎_elim here there (cases_eq (i / 64) (n / 64))
      where
        there : (i / 64 ≡ n / 64 → ⊥) → has s' i ≡ has s i
        there f = ap (λ (r : VarSet). eqb ((bits r / 2 ^ (i % 64)) % 2) 1) (ap (λ (r : List VarSet). get_or r (i / 64) no_row) e ∙ get_or-set_other s.rows (n / 64) (i / 64) v no_row f)

        here : i / 64 ≡ n / 64 → has s' i ≡ has s i
        here q =
            let f : i % 64 ≡ n % 64 → ⊥ = λ p. d (omega (arith, p, q)) in
            let r : row s' (i / 64) ≡ v = ap (row s') q ∙ same in
            let u : row s (i / 64) ≡ row s (n / 64) = ap (row s) q in
            let t = told (bits (row s' (i / 64))) (i % 64) in
            has_told s i (has s' i) (
              λ h. subst (λ (z : VarSet). In (i % 64) (bits z)) (sym u) (⊎_elim (λ k. k) (λ k. absurd (f k.0)) ((w (i % 64)).0 (subst (λ (z : VarSet). In (i % 64) (bits z)) r (t.0 h)))),
              λ h. t.1 (subst (λ (z : VarSet). In (i % 64) (bits z)) (sym r) ((w (i % 64)).1 (inl (subst (λ (z : VarSet). In (i % 64) (bits z)) u h)))),
            )

    less : has s n ≡ false → room s' < room s
    less f =
        let h = sum_by-set (λ (z : VarSet). 2 ^ 64 - bits z) s.rows (n / 64) v no_row l in
        let k = ap (λ (r : List VarSet). sum_by (λ (z : VarSet). 2 ^ 64 - bits z) r) e in
        let m = subset_le (bits (row s (n / 64))) (bits v) (λ x i. (w x).1 (inl i)) in
        let other : bits (row s (n / 64)) ≡ bits v → ⊥ = λ q. iff_false (told (bits (row s (n / 64))) (n % 64)) f (subst (In (n % 64)) (sym q) new) in
        omega (arith, h, k, m, other)

pub added_grows : (s : Numbers) (n : ℕ) (s' : Numbers) → Added s n s' → (i : ℕ) → has s i ≡ true → has s' i ≡ true
added_grows s n s' a i h = ⊎_elim (λ e. ap (has s') e ∙ a.here) (λ d. a.others i d ∙ h) (cases_eq i n)

pub added_from : (s : Numbers) (n : ℕ) (s' : Numbers) → Added s n s' → (i : ℕ) → has s' i ≡ true → (has s i ≡ true) ⊎ (i ≡ n)
added_from s n s' a i h = ⊎_elim (λ e. inr e) (λ d. inl (sym (a.others i d) ∙ h)) (cases_eq i n)
