-- Decisions that compute: of connectives, and of the variables of terms and steps.
use Rattle.std.proofs.Common.{ℕ, ◌⊎◌, sym, refl, subst, inl, inr}
use native.Mathlib.Decide.{ℕ_discrete}
use Rattle.terms.specs.Terms.{Term, name, env, var, pair, seal, Vars, Occurs}
use Rattle.protocol.specs.Strands.{TermStep, input, output, opens, splits, same, Binds, Uses}

abbrev pub by_iff : {A B : Type 0} → (A → B) → (B → A) → Dec A → Dec B
by_iff f g (yes a) = yes (f a)
by_iff f g (no n) = no (λ b. n (g b))

abbrev pub both? : {A B : Type 0} → Dec A → Dec B → Dec (A × B)
both? (yes a) (yes b) = yes (a, b)
both? (yes a) (no n) = no (λ s. n s.1)
both? (no n) d = no (λ s. n s.0)

abbrev pub either? : {A B : Type 0} → Dec A → Dec B → Dec (A ⊎ B)
either? (yes p) d = yes (inl p)
either? (no p) (yes q) = yes (inr q)
either? (no p) (no q) = no (λ z. elim z [ inl u ↦ p u | inr u ↦ q u ])

abbrev pub not? : {A : Type 0} → Dec A → Dec (¬ A)
not? (yes a) = no (λ n. n a)
not? (no n) = yes n

abbrev pub implies? : {A B : Type 0} → Dec A → Dec B → Dec (A → B)
implies? d (yes b) = yes (λ a. b)
implies? (yes a) (no n) = no (λ f. n (f a))
implies? (no m) (no n) = yes (λ a. absurd (m a))

abbrev pub three? : {A B D : Type 0} → Dec A → Dec B → Dec D → Dec (A × B × D)
three? (yes a) (yes b) (yes c) = yes (a, b, c)
three? (yes a) (yes b) (no c) = no (λ s. c s.2)
three? (yes a) (no b) e = no (λ s. b s.1)
three? (no a) d e = no (λ s. a s.0)

-- where either is excluded, so is what is one of them
abbrev pub one? : {A B D : Type 0} → (A → D) → (B → D) → (¬ A → ¬ B → ¬ D) → Dec A → Dec B → Dec D
one? f g h (yes a) e = yes (f a)
one? f g h (no n) (yes b) = yes (g b)
one? f g h (no n) (no m) = no (h n m)

-- a decided fact that is not refuted
pub held : {A : Type 0} → Dec A → ¬ ¬ A → A
held (yes a) n = a
held (no m) n = absurd (n m)

-- what a decision that computes to yes decides
abbrev pub SaysYes : {A : Type 0} → Dec A → Type 0
SaysYes (yes a) = Unit {0}
SaysYes (no n) = ⊥

pub from_yes : {A : Type 0} (d : Dec A) → SaysYes d → A
from_yes (yes a) h = a
from_yes (no n) h = absurd h

abbrev pub occurs? : (x : ℕ) (t : Term) → Dec (Occurs x t)
occurs? x (name n) = no (λ z. z)
occurs? x (env n) = no (λ z. z)
occurs? x (var y) = ℕ_discrete x y
occurs? x (pair a b) = either? (occurs? x a) (occurs? x b)
occurs? x (seal a b) = either? (occurs? x a) (occurs? x b)

abbrev pub binds? : (x : ℕ) (p : TermStep) → Dec (Binds x p)
binds? x (input l y) = ℕ_discrete x y
binds? x (output l n) = no (λ z. z)
binds? x (opens s y k) = ℕ_discrete x y
binds? x (splits s y z) = elim (ℕ_discrete x y) [ yes e ↦ yes (inl e) | no n ↦ elim (ℕ_discrete x z) [ yes e ↦ yes (inr e) | no m ↦ no (λ h. elim h [ inl e ↦ n e | inr e ↦ m e ]) ] ]
binds? x (same n m) = no (λ z. z)

abbrev pub vars? : (P : ℕ → Type 0) → ((x : ℕ) → Dec (P x)) → (t : Term) → Dec (Vars P t)
vars? P d (name n) = yes tt
vars? P d (env n) = yes tt
vars? P d (var x) = d x
vars? P d (pair a b) = both? (vars? P d a) (vars? P d b)
vars? P d (seal b k) = both? (vars? P d b) (vars? P d k)

abbrev pub uses? : (P : ℕ → Type 0) → ((x : ℕ) → Dec (P x)) → (p : TermStep) → Dec (Uses P p)
uses? P d (input l y) = yes tt
uses? P d (output l n) = vars? P d n
uses? P d (opens s y k) = both? (vars? P d s) (vars? P d k)
uses? P d (splits s y z) = vars? P d s
uses? P d (same n m) = both? (vars? P d n) (vars? P d m)

-- every variable that the step binds
abbrev pub all_bound? : (p : TermStep) (P : ℕ → Type 0) → ((x : ℕ) → Dec (P x)) → Dec ((x : ℕ) → Binds x p → P x)
all_bound? (input l y) P d = by_iff (λ h x b. subst P (sym b) h) (λ h. h y refl) (d y)
all_bound? (output l n) P d = yes (λ x b. absurd b)
all_bound? (opens s y k) P d = by_iff (λ h x b. subst P (sym b) h) (λ h. h y refl) (d y)
all_bound? (splits s y z) P d = by_iff (λ h x b. elim b [ inl e ↦ subst P (sym e) h.0 | inr e ↦ subst P (sym e) h.1 ]) (λ h. (h y (inl refl), h z (inr refl))) (both? (d y) (d z))
all_bound? (same n m) P d = yes (λ x b. absurd b)
