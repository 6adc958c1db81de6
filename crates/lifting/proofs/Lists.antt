-- Small facts of lists and numbers that clashes of constructors lean on.
use mathlib.Core.Path.{◌≡◌, refl}
use mathlib.Core.List.Memᴰ
use mathlib.Core.List.{List, [], ◌∷◌, ◌++◌, Memᴰ}
use mathlib.Core.Logic.{inl, inr}
use mathlib.Core.Option.{Option, none, some}
use Prim.Native.Nat.{ℕ, zero, suc, ◌<◌}
use native.Mathlib.Omega.{arith}
use lib.ListN.{length, get_or, get_elem?}

pub clash : ◌≡◌ {A = ℕ} 0 1 → ⊥
clash e = omega arith

-- a list with a member is not empty
pub nil_cons : {A : Type 0} (bs : List A) (l : A) (after : List A) → [] ≡ bs ++ (l ∷ after) → ⊥
nil_cons [] l after e = grind arith
nil_cons (b ∷ bs) l after e = grind arith

-- a list of one has one member
pub only : {A : Type 0} (s t : A) → Memᴰ t (s ∷ []) → t ≡ s
only s t m = elim (Memᴰ.cases_cons m) [ inl e ↦ e | inr r ↦ absurd (Memᴰ.not-nil r) ]

pub none_some : {A : Type 0} (a : A) → ◌≡◌ {A = Option A} none (some a) → ⊥
none_some a e = grind arith

-- what is read at a place within a list is the item there
pub get_some : {A : Type 0} (l : List A) (i : ℕ) (d : A) → i < length l → get_elem? l i ≡ some (get_or l i d)
get_some [] i d h = absurd (omega arith)
get_some (a ∷ l) zero d h = refl
get_some (a ∷ l) (suc i) d h = get_some l i d (omega arith)
