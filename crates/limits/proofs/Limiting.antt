-- One number for each strand of a sheet.
use Rattle.std.proofs.Common.{◌≡◌, ℕ, ◌+◌, ◌<◌, List, [], ◌∷◌, ◌++◌, map, length, get_or, sym, ap, subst, ◌∙◌, arith}
use mathlib.Core.List.Memᴰ
use Rattle.std.proofs.lemmas.List.{get_or_append_left, get_or_push}
use native.Mathlib.Decide.{dec_lt}
use lib.ListN.{get_or-eq_default, get_or-map}
use Rattle.terms.specs.Terms.{env}
use Rattle.protocol.specs.Lawful.{Content}
use Rattle.protocol.specs.Strands.{TermStep, step_of}
use Rattle.runs.specs.Apart.{Longest}
use Rattle.runs.specs.Tables.{described}
use Rattle.limits.specs.Beginnings.{LongestOf, strand_steps}

-- a strand without steps
none_longest : LongestOf [] 0
none_longest = ((omega arith, λ x. env 0, (λ x. tt), λ p m. absurd (Memᴰ.not-nil m)), λ f. absurd (omega (arith, f.0)))

-- the first k numbers are right
abbrev pub FirstRight : Content → List ℕ → ℕ → Type 0
FirstRight C ms k = (j : ℕ) → j < k → LongestOf (strand_steps C j) (get_or ms j 0)

pub right_more : (C : Content) (ms ms' : List ℕ) (k n : ℕ) → length ms ≡ k → ms' ≡ ms ++ (n ∷ []) → FirstRight C ms k → LongestOf (strand_steps C k) n → FirstRight C ms' (k + 1)
right_more C ms ms' k n size e h l j m =
    elim (dec_lt j k) [
      | yes g ↦ subst (λ (x : ℕ). LongestOf (strand_steps C j) x) (sym (ap (λ (xs : List ℕ). get_or xs j 0) e ∙ get_or_append_left ms (n ∷ []) 0 j (omega arith))) (h j g)
      | no g ↦
          let here : k ≡ j = omega arith in
          let there : n ≡ get_or ms' j 0 = sym (ap (λ (xs : List ℕ). get_or xs j 0) e ∙ get_or_push ms n 0 j (omega arith)) in
          subst (λ (x : ℕ). LongestOf (strand_steps C j) x) there (subst (λ (i : ℕ). LongestOf (strand_steps C i) n) here l)
    ]

-- past the last strand there are no steps
pub all_longest : (C : Content) (ms : List ℕ) (k : ℕ) → length C.strands ≡ k → length ms ≡ k → FirstRight C ms k → Longest (described C) (λ j. get_or ms j 0)
all_longest C ms k count size h j =
    subst (λ (ps : List TermStep). LongestOf ps (get_or ms j 0)) (sym (get_or-map (map (step_of C.nodes)) C.strands j []))
    (elim (dec_lt j k) [
      | yes l ↦ h j l
      | no l ↦
          let ends : [] ≡ strand_steps C j = sym (ap (map (step_of C.nodes)) (get_or-eq_default C.strands [] (omega arith))) in
          let zero_there : 0 ≡ get_or ms j 0 = sym (get_or-eq_default ms 0 (omega arith)) in
          subst (λ (x : ℕ). LongestOf (strand_steps C j) x) zero_there (subst (λ (ps : List TermStep). LongestOf ps 0) ends none_longest)
    ])
