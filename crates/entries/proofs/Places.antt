-- The steps of strands, by place: where strands have one step or one strand more.
use Rattle.std.proofs.Common.{◌≡◌, ℕ, zero, suc, ◌+◌, ◌<◌, ◌≤◌, ◌⊎◌, List, [], ◌∷◌, ◌++◌, length, get_or, set, sym, refl, ap, ◌∙◌, inl, inr, arith}
use mathlib.Core.Option.{none, some}
use native.Mathlib.Decide.{ℕ_discrete}
use lib.ListN.{get_elem?}
use Rattle.std.proofs.lemmas.List.{get_or-set_same, get_or-set_other, length_push, append_assoc, append-nil, map_push}
use Rattle.std.specs.List.{flat_map}
use Rattle.protocol.specs.declared.step.Step.{Step}
use Rattle.protocol.specs.Strands.{At}
use Rattle.entries.specs.Format.{Entry, strand, step_entry, strand_entries}

none_some : {A : Type 0} (x : A) → none ≡ some x → ⊥
none_some x e = grind arith

-- an element that is there stands within the list
pub within : {A : Type 0} (xs : List A) (i : ℕ) (x : A) → get_elem? xs i ≡ some x → i < length xs
within [] i x e = absurd (none_some x e)
within (y ∷ xs) zero x e = omega arith
within (y ∷ xs) (suc i) x e = omega (arith, within xs i x e)

-- one element more: each that was there stays, and no other comes but the new one at the end
stays_front : {A : Type 0} (xs ys : List A) (i : ℕ) (x : A) → get_elem? xs i ≡ some x → get_elem? (xs ++ ys) i ≡ some x
stays_front [] ys i x e = absurd (none_some x e)
stays_front (y ∷ xs) ys zero x e = e
stays_front (y ∷ xs) ys (suc i) x e = stays_front xs ys i x e

last_or_front : {A : Type 0} (xs : List A) (y : A) (i : ℕ) (x : A) → get_elem? (xs ++ (y ∷ [])) i ≡ some x → (get_elem? xs i ≡ some x) ⊎ ((i ≡ length xs) × (x ≡ y))
last_or_front [] y zero x e = inr (refl, (cc))
last_or_front [] y (suc i) x e = absurd (none_some x e)
last_or_front (z ∷ xs) y zero x e = inl e
last_or_front (z ∷ xs) y (suc i) x e = elim (last_or_front xs y i x e) [ inl h ↦ inl h | inr h ↦ inr (ap suc h.0, h.1) ]

-- in no strands there is no step
pub at_none : {A : Type 0} (ss : List (List A)) (k i : ℕ) (x : A) → ss ≡ [] → At ss k i x → ⊥
at_none ss k i x e a = none_some x (rw e at a)

-- a step that is there stands within its strand
pub at_within : {A : Type 0} (ss : List (List A)) (k i : ℕ) (x : A) → At ss k i x → i < length (get_or ss k [])
at_within ss k i x a = within (get_or ss k []) i x a

-- strand k with one step more
abbrev pub longer : {A : Type 0} → List (List A) → ℕ → A → List (List A)
longer ss k x = set ss k (get_or ss k [] ++ (x ∷ []))

-- each step that was there stays, and no other comes but the new one, last in strand k
last_there : {A : Type 0} (xs : List A) (x : A) → get_elem? (xs ++ (x ∷ [])) (length xs) ≡ some x
last_there [] x = refl
last_there (y ∷ xs) x = last_there xs x

module _ {A : Type 0} (ss : List (List A)) (k : ℕ) (x : A) (inside : k < length ss) where
  longer_there : (j : ℕ) → j ≡ k → get_or (longer ss k x) j [] ≡ get_or ss j [] ++ (x ∷ [])
  longer_there j e = rw e (get_or-set_same ss k (get_or ss k [] ++ (x ∷ [])) [] inside)

  longer_else : (j : ℕ) → (j ≡ k → ⊥) → get_or (longer ss k x) j [] ≡ get_or ss j []
  longer_else j n = get_or-set_other ss k j (get_or ss k [] ++ (x ∷ [])) [] n

  -- the step that was added
  pub longer_is : get_or (longer ss k x) k [] ≡ get_or ss k [] ++ (x ∷ [])
  longer_is = longer_there k refl

  pub at_last : At (longer ss k x) k (length (get_or ss k [])) x
  at_last = rw longer_is (last_there (get_or ss k []) x)

  pub at_keeps : (j i : ℕ) (y : A) → At ss j i y → At (longer ss k x) j i y
  at_keeps j i y a =
      elim (ℕ_discrete j k) [
        | yes e ↦ rw (longer_there j e) (stays_front (get_or ss j []) (x ∷ []) i y a)
        | no n ↦ rw (longer_else j n) a
      ]

  pub at_more : (j i : ℕ) (y : A) → At (longer ss k x) j i y → At ss j i y ⊎ ((j ≡ k) × (i ≡ length (get_or ss k [])) × (y ≡ x))
  at_more j i y a =
      elim (ℕ_discrete j k) [
        | yes e ↦ elim (last_or_front (get_or ss j []) x i y (rw (longer_there j e) at a)) [
          | inl h ↦ inl h
          | inr h ↦ inr (e, h.0 ∙ ap (λ (m : ℕ). length (get_or ss m [])) e, h.1)
        ]
        | no n ↦ inl (rw (longer_else j n) at a)
      ]

  pub longer_lengths : (n : ℕ) → ((j : ℕ) → length (get_or ss j []) ≤ n) → length (get_or ss k []) < n → (j : ℕ) → length (get_or (longer ss k x) j []) ≤ n
  longer_lengths n all here j =
      elim (ℕ_discrete j k) [
        | yes e ↦ omega (arith, ap length (longer_there j e), length_push (get_or ss j []) x, ap (λ (m : ℕ). length (get_or ss m [])) e)
        | no m ↦ omega (arith, ap length (longer_else j m), all j)
      ]

-- one strand more, with no step yet
pub empty_more : {A : Type 0} (ss : List (List A)) (j : ℕ) → get_or (ss ++ ([] ∷ [])) j [] ≡ get_or ss j []
empty_more [] zero = refl
empty_more [] (suc j) = refl
empty_more (s ∷ ss) zero = refl
empty_more (s ∷ ss) (suc j) = empty_more ss j

-- the entries of strands of which the last has one step more
pub joined_longer : (ss : List (List Step)) (k : ℕ) (p : Step) → k + 1 ≡ length ss → flat_map strand_entries (longer ss k p) ≡ flat_map strand_entries ss ++ (step_entry p ∷ [])
joined_longer [] k p e = absurd (omega arith)
joined_longer (s ∷ []) zero p e =
    append-nil (strand_entries (s ++ (p ∷ [])))
    ∙ ap (λ (l : List Entry). strand ∷ l) (map_push step_entry s p)
    ∙ ap (λ (l : List Entry). l ++ (step_entry p ∷ [])) (sym (append-nil (strand_entries s)))
joined_longer (s ∷ t ∷ ss) zero p e = absurd (omega arith)
joined_longer (s ∷ ss) (suc k) p e =
    ap (λ (l : List Entry). strand_entries s ++ l) (joined_longer ss k p (omega arith)) ∙ sym (append_assoc (strand_entries s) (flat_map strand_entries ss) (step_entry p ∷ []))
