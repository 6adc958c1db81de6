-- Where the strands stand.
use Rattle.std.proofs.Common.{◌≡◌, ℕ, suc, ◌+◌, ◌<◌, Bool, true, false, cond, T, eqb, eqb→eq, slice_set, List, [], map, length, get_or, slice_index_or, Some, None, Option, Bor, option_copied, refl, sym, ap, ◌∙◌, arith}
use Rattle.std.specs.Slice.{IsItemAt}
use Rattle.std.specs.Option.{ok_or}
use Rattle.std.proofs.lemmas.Bool.{ltb-true, ltb-false}
use Rattle.std.proofs.lemmas.List.{length-map, map-set, get_or-map, get_or-set_same, get_or-set_other}
use Rattle.std.proofs.Math.Seq.{map-set_same}
use native.Mathlib.Decide.{ℕ_discrete}
use mathlib.Core.Path.{fun_ext}
use Rattle.runs.specs.Runs.{onward}
use Rattle.runs.proofs.Values.{onward_here}
use mathlib.Core.Option.{some}
use lib.ListN.{get_elem?}
use Rattle.lifting.proofs.Lists.{get_some}
use Rattle.protocol.specs.declared.step.Step.{Step}
use Rattle.protocol.specs.Strands.{steps_of}
use Rattle.protocol.specs.Lawful.{Content}
use Rattle.playing.specs.Calls.{Situation}
use Rattle.playing.specs.declared.faults.StepFault.TheVariants.{Finished}
use Rattle.bench.specs.Places.{next_in, strands_in}
use Rattle.bench.specs.Steps.{StepAt, NextStep}
use Rattle.bench.specs.declared.standing.Standing.{Standing}

pub step_at : (ps : List Step) (i : ℕ) (r : Option (Bor Step)) → IsItemAt ps i r → StepAt ps i (option_copied r)
step_at ps i None h = omega (arith, ltb-false _ _ (sym h.0))
step_at ps i (Some x) h = get_some ps i x.now (omega (arith, ltb-true _ _ (sym h.0))) ∙ ap some (sym h.1)

-- a strand's place in the table, and its steps
pub standing_steps : (ss : List Standing) (cs : List (List Step)) (k : ℕ) (s : Standing) → strands_in ss ≡ cs → k < length ss → s ≡ slice_index_or ss k s → slice_index_or cs k [] ≡ steps_of s.strand
standing_steps ss cs k s e l h = ap (λ (x : List (List Step)). get_or x k []) (sym e) ∙ get_or-map (λ (x : Standing). steps_of x.strand) ss k s [] l ∙ ap (λ (x : Standing). steps_of x.strand) (sym h)

pub standing_next : (ss : List Standing) (k : ℕ) (s : Standing) → k < length ss → s ≡ slice_index_or ss k s → next_in ss k ≡ s.next
standing_next ss k s l h = get_or-map (λ (x : Standing). x.next) ss k s 0 l ∙ ap (λ (x : Standing). x.next) (sym h)

pub standing_count : (ss : List Standing) (cs : List (List Step)) → strands_in ss ≡ cs → length cs ≡ length ss
standing_count ss cs e = ap length (sym e) ∙ length-map ss (λ (x : Standing). steps_of x.strand)

-- the next step of a strand of the table
pub standing_told : (C : Content) (u : Situation) (ss : List Standing) (k : ℕ) (s : Standing) (r : Option Step) → strands_in ss ≡ C.strands → u.state.next ≡ next_in ss → k < length ss → s ≡ slice_index_or ss k s → StepAt (steps_of s.strand) s.next r → NextStep C u k (ok_or r Finished)
standing_told C u ss k s None e n l h a =
    (omega (arith, l, standing_count ss C.strands e), omega (arith, a, ap length (standing_steps ss C.strands k s e l h), ap (λ (f : ℕ → ℕ). f k) n, standing_next ss k s l h))
standing_told C u ss k s (Some p) e n l h a =
    ap (λ (ps : List Step). get_elem? ps (u.state.next k)) (standing_steps ss C.strands k s e l h) ∙ ap (λ (i : ℕ). get_elem? (steps_of s.strand) i) (ap (λ (f : ℕ → ℕ). f k) n ∙ standing_next ss k s l h) ∙ a

-- one strand further
pub advanced_strands : (ss : List Standing) (k : ℕ) (s d : Standing) → s.strand ≡ (slice_index_or ss k d).strand → strands_in (slice_set ss k s) ≡ strands_in ss
advanced_strands ss k s d e = map-set_same (λ (x : Standing). steps_of x.strand) ss k s d (ap steps_of e)

next_set : (ss : List Standing) (k j : ℕ) (s : Standing) → next_in (slice_set ss k s) j ≡ get_or (slice_set (map (λ (x : Standing). x.next) ss) k s.next) j 0
next_set ss k j s = ap (λ (l : List ℕ). get_or l j 0) (map-set (λ (x : Standing). x.next) ss k s)

onward_there : (next : ℕ → ℕ) (k j : ℕ) → (j ≡ k → ⊥) → onward next k j ≡ next j
onward_there next k j n = go (eqb j k) (eqb→eq j k)
  where
    go : (b : Bool) → (T b → j ≡ k) → cond b (suc (next j)) (next j) ≡ next j
    go true h = absurd (n (h tt))
    go false h = refl

advanced_at : (ss : List Standing) (k j : ℕ) (s d : Standing) → k < length ss → s.next ≡ (slice_index_or ss k d).next + 1 → next_in (slice_set ss k s) j ≡ onward (next_in ss) k j
advanced_at ss k j s d l e =
    let m = length-map ss (λ (x : Standing). x.next) in
    elim (ℕ_discrete j k) [
      | yes f ↦
          let here : next_in (slice_set ss k s) k ≡ s.next = next_set ss k k s ∙ get_or-set_same (map (λ (x : Standing). x.next) ss) k s.next 0 (omega (arith, l, m)) in
          let was : next_in ss k ≡ (slice_index_or ss k d).next = get_or-map (λ (x : Standing). x.next) ss k d 0 l in
          let up : s.next ≡ suc (next_in ss k) = omega (arith, e, was) in
          rw f (here ∙ up ∙ sym (onward_here (next_in ss) k))
      | no n ↦ next_set ss k j s ∙ get_or-set_other (map (λ (x : Standing). x.next) ss) k j s.next 0 n ∙ sym (onward_there (next_in ss) k j n)
    ]

pub advanced_next : (ss : List Standing) (k : ℕ) (s d : Standing) → k < length ss → s.next ≡ (slice_index_or ss k d).next + 1 → next_in (slice_set ss k s) ≡ onward (next_in ss) k
advanced_next ss k s d l e = fun_ext (λ j. advanced_at ss k j s d l e)
