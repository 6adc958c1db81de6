-- To try each visited schedule at its last step is enough.
use Rattle.std.proofs.Common.{◌≡◌, ℕ, zero, suc, ◌+◌, ◌<◌, ◌⊎◌, List, [], ◌∷◌, ◌++◌, length, sym, refl, ap, ◌∙◌, subst, inl, inr, not-suc-le-zero, arith, length-append}
use mathlib.Core.List.{Memᴰ}
use Rattle.protocol.specs.Strands.{TermStep, At}
use Rattle.runs.specs.Protocols.{Protocol, LawfulProtocol}
use Rattle.runs.specs.Schedules.{Plan, done, then, Feasible, Breaking, ◌≺◌, Ascending, Listing}
use Rattle.runs.specs.Apart.{mentions}
use Rattle.runs.specs.Tries.{Tried, TriesSuffice}
use Rattle.runs.proofs.Apartness.{onward_mentions}
use Rattle.runs.proofs.Beginnings.{beginning_feasible}
use Rattle.runs.proofs.Replying.{≺_asym}
use Rattle.runs.proofs.Releasing.{begin_≺}
use Rattle.runs.proofs.Lasting.{breaks_at_last, nothing_breaks_nothing}

-- the last mention, and the step that it is
pub plan_last : {S : Protocol} (s : List ℕ) (k : ℕ) {next : ℕ → ℕ} {ps : List TermStep} → Plan S next (s ++ (k ∷ [])) ps → (qs : List TermStep) × (p : TermStep) × Plan S next s qs × At S.strands k (next k + mentions k s) p
plan_last {S} [] k {next} (then {p = p} at pl) = ([], p, done, subst (λ (i : ℕ). At S.strands k i p) (omega arith) at)
plan_last {S} (j ∷ s) k {next} (then {p = q} at pl) = let r = plan_last s k pl in (q ∷ r.0, r.1, then at r.2, subst (λ (i : ℕ). At S.strands k i r.1) (onward_mentions next j k s) r.3)

ascending_apart : (L R : List (List ℕ)) → Ascending (L ++ R) → (s t : List ℕ) → Memᴰ s L → Memᴰ t R → s ≺ t
ascending_apart [] R a s t m n = absurd (mathlib.Core.List.Memᴰ.not-nil m)
ascending_apart (u ∷ L) R a s t m n =
    elim (mathlib.Core.List.Memᴰ.cases_cons m) [
      | inl e ↦ subst (λ (z : List ℕ). z ≺ t) (sym e) (a.0 t (mathlib.Core.List.Memᴰ.append_right L n))
      | inr r ↦ ascending_apart L R a.1 s t r n
    ]

-- a schedule is empty or has a last mention
ends : (s : List ℕ) → (s ≡ []) ⊎ ((t : List ℕ) × (k : ℕ) × (s ≡ t ++ (k ∷ [])))
ends [] = inl refl
ends (j ∷ s) = inr (elim (ends s) [ inl e ↦ ([], j, ap (λ (z : List ℕ). j ∷ z) e) | inr q ↦ (j ∷ q.0, q.1, ap (λ (z : List ℕ). j ∷ z) q.2) ])

module _ (S : Protocol) (law : LawfulProtocol S) (before after : List (List ℕ)) (all : Listing S (before ++ after)) (tried : Tried S before) where
  -- the beginning of a visited schedule was visited
  visited : (s : List ℕ) (k : ℕ) → Memᴰ (s ++ (k ∷ [])) before → Memᴰ s before
  visited s k m =
      let f : Feasible S s = beginning_feasible S s (k ∷ []) (all.feasible (s ++ (k ∷ [])) (mathlib.Core.List.Memᴰ.append_left after m)) in
      elim (mathlib.Core.List.Memᴰ.append_cases before (all.complete s f)) [
        | inl b ↦ b
        | inr a ↦ absurd (≺_asym s (s ++ (k ∷ [])) (begin_≺ s k []) (ascending_apart before after all.ascending (s ++ (k ∷ [])) s m a))
      ]

  none_up_to : (n : ℕ) (s : List ℕ) → length s < n → Memᴰ s before → ¬ Breaking S s
  none_up_to zero s h m b = not-suc-le-zero h
  none_up_to (suc n) s h m b = go (ends s) (λ t l i. none_up_to n t l i)
    where
      go : (s ≡ []) ⊎ ((t : List ℕ) × (k : ℕ) × (s ≡ t ++ (k ∷ []))) → ((t : List ℕ) → length t < n → Memᴰ t before → ¬ Breaking S t) → ⊥
      go (inl e) ih = nothing_breaks_nothing S (subst (λ (z : List ℕ). Breaking S z) e b)
      go (inr (t, k, e)) ih =
          let m' : Memᴰ (t ++ (k ∷ [])) before = subst (λ (z : List ℕ). Memᴰ z before) e m in
          let shorter : length t < n = (let l : length s ≡ length t + 1 = ap length e ∙ length-append t (k ∷ []) in omega arith) in
          let kept : ¬ Breaking S t = ih t shorter (visited t k m') in
          let f = all.feasible (t ++ (k ∷ [])) (mathlib.Core.List.Memᴰ.append_left after m') in
          let q = plan_last t k f.1 in
          let at : At S.strands k (mentions k t) q.1 = subst (λ (i : ℕ). At S.strands k i q.1) (omega arith) q.3 in
          let w = (breaks_at_last S law t k kept q.0 q.1 q.2 at).0 (subst (λ (z : List ℕ). Breaking S z) e b) in
          tried t k q.0 q.1 m' q.2 at w.0 w.1

pub tries_suffice : TriesSuffice
tries_suffice S law before after all tried s m = none_up_to S law before after all tried (suc (length s)) s (omega arith) m
