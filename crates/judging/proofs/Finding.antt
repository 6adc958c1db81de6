-- What is found by tables is what fitting finds.
use Rattle.std.proofs.Common.{◌≡◌, ℕ, ◌+◌, ◌<◌, ◌≤◌, ◌⊎◌, Bool, true, false, ◌↔◌, List, length, Some, None, Option, slice_index_or, slice_set, replicate, sym, refl, ap, ◌∙◌, subst, inl, inr, arith}
use mathlib.Core.Option.{Option as Maybe, none, some}
use mathlib.Core.Path.{fun_ext}
use Rattle.std.proofs.lemmas.Bool.{cases_lt}
use Rattle.std.proofs.lemmas.List.{length-replicate, get_or-replicate, get_or-set_same, get_or-set_other}
use Rattle.std.proofs.Math.ListN.{get_or-eq_default}
use Rattle.std.specs.Bool.{then_some}
use native.Mathlib.Decide.{ℕ_discrete}
use Rattle.terms.specs.Terms.{Term, name, env, var, pair, seal, inst}
use Rattle.terms.specs.Nodes.{term}
use Rattle.terms.specs.declared.node.Node.{Node}
use Rattle.terms.specs.declared.number.NodeNo.{NodeNo}
use Rattle.lifting.proofs.Lists.{none_some}
use Rattle.runs.specs.Runs.{Values, bind}
use Rattle.runs.proofs.Values.{bind_here, bind_there, bind_cases, means_inst}
use Rattle.playing.specs.Judging.{unvalued, fit, Within}
use Rattle.playing.proofs.Judging.{total, total_within, fit_finds, fit_adds, fit_tells}
use Rattle.judging.specs.Places.{term_at, values_in, HeldAt, AllHeld, Met, Settled, Fitted}
use Rattle.judging.proofs.Giving.{values_set}

-- a term that is another
abbrev other : Term → Term
other (name n) = env 0
other (env n) = name 0
other (var x) = name 0
other (pair a b) = name 0
other (seal b k) = name 0

is_other : (t : Term) → other t ≡ t → ⊥
is_other (name n) e = grind arith
is_other (env n) e = grind arith
is_other (var x) e = grind arith
is_other (pair a b) e = grind arith
is_other (seal b k) e = grind arith

-- a valuation with the values, and at x a value of choice where none is given
abbrev chosen : Values → ℕ → Term → ℕ → Term
chosen v x N y = total (bind v x N) y

chosen_within : (v : Values) (x : ℕ) (N : Term) → v x ≡ none → Within v (chosen v x N)
chosen_within v x N e y M f =
    elim (ℕ_discrete y x) [
      | yes p ↦ absurd (none_some M (sym e ∙ ap v (sym p) ∙ f))
      | no n ↦ total_within (bind v x N) y M (bind_there v x N y n ∙ f)
    ]

one_value : (v w : Values) (x : ℕ) (o p : Maybe Term) → v x ≡ o → w x ≡ p → ((ρ : ℕ → Term) → Within v ρ ↔ Within w ρ) → o ≡ p
one_value v w x none none e f h = refl
one_value v w x none (some N) e f h =
    let a : chosen v x (other N) x ≡ N = (h (chosen v x (other N))).0 (chosen_within v x (other N) e) x N f in
    absurd (is_other N (sym (total_within (bind v x (other N)) x (other N) (bind_here v x (other N))) ∙ a))
one_value v w x (some M) none e f h =
    let a : chosen w x (other M) x ≡ M = (h (chosen w x (other M))).1 (chosen_within w x (other M) f) x M e in
    absurd (is_other M (sym (total_within (bind w x (other M)) x (other M) (bind_here w x (other M))) ∙ a))
one_value v w x (some M) (some N) e f h = ap some (sym (total_within v x M e) ∙ (h (total v)).0 (total_within v) x N f)

-- values that the same valuations have are the same
same_values : (v w : Values) → ((ρ : ℕ → Term) → Within v ρ ↔ Within w ρ) → v ≡ w
same_values v w h = fun_ext (λ x. one_value v w x (v x) (w x) refl refl h)

module _ (v : Values) (t M : Term) where
  fit_is : (w : Values) (o : Maybe Values) → fit v t M ≡ o → ((ρ : ℕ → Term) → (Within v ρ × (inst ρ t ≡ M)) ↔ Within w ρ) → o ≡ some w
  fit_is w none e h =
      let a = (h (total w)).1 (total_within w) in
      let f = (fit_finds v t M).1 (total w, a.0, a.1) in
      absurd (none_some f.0 (sym e ∙ f.1))
  fit_is w (some u) e h =
      let a = fit_adds v t M u e in
      let b = fit_tells v t M u e in
      let to : (ρ : ℕ → Term) → Within w ρ → Within u ρ = λ ρ k. let p = (h ρ).1 k in b.1 ρ p.0 p.1 in
      let from : (ρ : ℕ → Term) → Within u ρ → Within w ρ = λ ρ k. (h ρ).0 ((λ x N f. k x N (a.0 x N f)), means_inst ρ k b.0) in
      ap some (same_values u w (λ ρ. (from ρ, to ρ)))

  -- where just the valuations with these values make the term the other, fitting finds them
  pub fit_found : (w : Values) → ((ρ : ℕ → Term) → (Within v ρ × (inst ρ t ≡ M)) ↔ Within w ρ) → fit v t M ≡ some w
  fit_found w h = fit_is w (fit v t M) refl h

  fit_not : (o : Maybe Values) → fit v t M ≡ o → ((ρ : ℕ → Term) → Within v ρ → inst ρ t ≡ M → ⊥) → o ≡ none
  fit_not none e h = refl
  fit_not (some w) e h = let f = (fit_finds v t M).0 (w, e) in absurd (h f.0 f.1 f.2)

  -- and where none does, it finds nothing
  pub fit_nothing : ((ρ : ℕ → Term) → Within v ρ → inst ρ t ≡ M → ⊥) → fit v t M ≡ none
  fit_nothing h = fit_not (fit v t M) refl h

abbrev no_places : ℕ → List (Option NodeNo)
no_places k = replicate k None

length_none : (k : ℕ) → length (no_places k) ≡ k
length_none k = length-replicate k None

none_at : (k x : ℕ) → (x < k) ⊎ (k ≤ x) → slice_index_or (no_places k) x None ≡ None
none_at k x (inl l) = get_or-replicate k x None None l
none_at k x (inr l) = get_or-eq_default (no_places k) None (omega (arith, l, length_none k))

-- a table with no place says no value
pub no_values : (ns : List Node) (k : ℕ) → values_in ns (replicate k None) ≡ unvalued
no_values ns k = fun_ext (λ x. ap (term_at ns) (none_at k x (cases_lt x k)))

pub none_held : (ns : List Node) (k : ℕ) → AllHeld ns (replicate k None)
none_held ns k x = subst (HeldAt ns) (sym (none_at k x (cases_lt x k))) tt

-- of the nodes below n + 1 only n has to be something
met_one : (ms : List Node) (n : ℕ) (M : Term) (d : Values) (ρ : ℕ → Term) → d ≡ bind unvalued n M → Met ms (n + 1) d ρ ↔ (inst ρ (term ms n) ≡ M)
met_one ms n M d ρ e = (
  (λ h. h n M (omega arith) (ap (λ (u : Values). u n) e ∙ bind_here unvalued n M)),
  (λ h i N l f.
      elim (bind_cases unvalued n M i N (sym (ap (λ (u : Values). u i) e) ∙ f)) [
        | inl a ↦ ap (λ (j : ℕ). inst ρ (term ms j)) a.0 ∙ h ∙ a.1
        | inr b ↦ absurd (none_some N b)
      ]),
)

-- what settling the nodes below it says of a node is what fitting says
fits_yes : (ms ns : List Node) (n : ℕ) (M : Term) (v d e : Values) (qs : List (Option NodeNo)) → d ≡ bind unvalued n M → Settled ms (n + 1) v d 0 true (values_in ns qs) e → AllHeld ns qs → Fitted ns v (term ms n) M (Some qs)
fits_yes ms ns n M v d e qs i s h = (
  fit_found v (term ms n) M (values_in ns qs) (λ ρ. (
    (λ p. ((s ρ).0 (p.0, (met_one ms n M d ρ i).1 p.1)).0),
    (λ k. let p = (s ρ).1 (k, λ j N l f. absurd (omega (arith, l))) in (p.0, (met_one ms n M d ρ i).0 p.1)),
  )),
  h,
)

fits_no : (ms ns : List Node) (n : ℕ) (M : Term) (v d w e : Values) → d ≡ bind unvalued n M → Settled ms (n + 1) v d 0 false w e → Fitted ns v (term ms n) M None
fits_no ms ns n M v d w e i s = fit_nothing v (term ms n) M (λ ρ k f. s ρ (k, (met_one ms n M d ρ i).1 f))

pub settled_fits : (ms ns : List Node) (l n : ℕ) (M : Term) (v d e : Values) (r : Bool) (qs : List (Option NodeNo)) (o : Option (List (Option NodeNo))) → l ≡ n + 1 → d ≡ bind unvalued n M → Settled ms l v d 0 r (values_in ns qs) e → AllHeld ns qs → o ≡ then_some r qs → Fitted ns v (term ms n) M o
settled_fits ms ns l n M v d e true qs o j i s h z = subst (Fitted ns v (term ms n) M) (sym z) (fits_yes ms ns n M v d e qs i (subst (λ (x : ℕ). Settled ms x v d 0 true (values_in ns qs) e) j s) h)
settled_fits ms ns l n M v d e false qs o j i s h z = subst (Fitted ns v (term ms n) M) (sym z) (fits_no ms ns n M v d (values_in ns qs) e i (subst (λ (x : ℕ). Settled ms x v d 0 false (values_in ns qs) e) j s))

-- a table where one entry has a place says one value
pub only_value : (ns : List Node) (k x : ℕ) (p : NodeNo) → x < k → values_in ns (slice_set (replicate k None) x (Some p)) ≡ bind unvalued x (term ns p.0)
only_value ns k x p l =
    values_set ns (replicate k None) x p (omega (arith, l, length_none k))
    ∙ ap (λ (v : Values). bind v x (term ns p.0)) (no_values ns k)

-- and that place is held
pub only_held : (ns : List Node) (k x : ℕ) (p : NodeNo) → x < k → p.0 < length ns → AllHeld ns (slice_set (replicate k None) x (Some p))
only_held ns k x p l h y =
    elim (ℕ_discrete y x) [
      | yes e ↦ rw e (subst (HeldAt ns) (sym (get_or-set_same (no_places k) x (Some p) None (omega (arith, l, length_none k)))) h)
      | no n ↦ subst (HeldAt ns) (sym (get_or-set_other (no_places k) x y (Some p) None n ∙ none_at k y (cases_lt y k))) tt
    ]
