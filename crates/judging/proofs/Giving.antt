-- What a valuation says where one more value is given.
use Rattle.std.proofs.Common.{◌≡◌, ℕ, Bool, true, false, cond, T, ◌<◌, ◌↔◌, List, length, Some, None, Option, slice_index_or, slice_set, sym, refl, ap, ◌∙◌, subst, inl, inr}
use mathlib.Core.Option.{Option as Maybe, none, some, some-injective}
use mathlib.Core.Path.{fun_ext}
use native.Mathlib.Decide.{ℕ_discrete}
use Rattle.std.proofs.lemmas.List.{get_or-set_same, get_or-set_other}
use Rattle.std.proofs.lemmas.Bool.{false≢true}
use Rattle.terms.specs.Terms.{Term}
use Rattle.terms.specs.Nodes.{term}
use Rattle.terms.specs.declared.node.Node.{Node}
use Rattle.terms.specs.declared.number.NodeNo.{NodeNo}
use Rattle.lifting.specs.Same.{same?}
use Rattle.lifting.proofs.Comparing.{same→eq}
use Rattle.lifting.proofs.Lists.{none_some}
use Rattle.runs.specs.Runs.{Values, bind}
use Rattle.runs.proofs.Values.{bind_here, bind_there, bind_cases}
use Rattle.playing.specs.Judging.{give, onto}
use Rattle.playing.proofs.Judging.{tested, onto_some, same_true}
use Rattle.judging.specs.Places.{term_at, values_in, given, Assigned}

-- the valuation has the values of the variables with P
abbrev pub Has : (ℕ → Type 0) → Values → (ℕ → Term) → Type 0
Has P v σ = (x : ℕ) (M : Term) → P x → v x ≡ some M → σ x ≡ M

module _ (P : ℕ → Type 0) (σ : ℕ → Term) where
  -- with one value more, or the same, it is that which it has too
  give_has : (o : Maybe Term) (v : Values) (x : ℕ) (M : Term) (w : Values) → P x → v x ≡ o → give o v x M ≡ some w → (Has P v σ × (σ x ≡ M)) ↔ Has P w σ
  give_has none v x M w p n e =
      subst (λ (u : Values). (Has P v σ × (σ x ≡ M)) ↔ Has P u σ) (some-injective (bind v x M) w e) (
        (λ h y N q f. elim (bind_cases v x M y N f) [ inl a ↦ ap σ a.0 ∙ h.1 ∙ a.1 | inr b ↦ h.0 y N q b ]),
        λ h. ((λ y N q f. h y N q (bind_there v x M y (λ a. none_some N (sym n ∙ ap v (sym a) ∙ f)) ∙ f)), h x M p (bind_here v x M)),
      )
  give_has (some N) v x M w p n e =
      let t = tested (same? N M) v w e in
      subst (λ (u : Values). (Has P v σ × (σ x ≡ M)) ↔ Has P u σ) t.1 ((λ h. h.0), λ h. (h, h x N p n ∙ same→eq N M t.0))

  pub given_has : (v : Values) (x : ℕ) (M : Term) (w : Values) → P x → given v x M ≡ some w → (Has P v σ × (σ x ≡ M)) ↔ Has P w σ
  given_has v x M w p e = give_has (v x) v x M w p refl e

  -- where the value is another, it does not have both
  give_clash : (o : Maybe Term) (v : Values) (x : ℕ) (M : Term) → P x → v x ≡ o → give o v x M ≡ none → Has P v σ → σ x ≡ M → ⊥
  give_clash none v x M p n e h s = none_some (bind v x M) (sym e)
  give_clash (some N) v x M p n e h s = none_some v (sym e ∙ ap (λ (b : Bool). cond b (some v) none) (same_true N M (sym (h x N p n) ∙ s)))

  pub given_clash : (v : Values) (x : ℕ) (M : Term) → P x → given v x M ≡ none → Has P v σ → σ x ≡ M → ⊥
  given_clash v x M p e h s = give_clash (v x) v x M p refl e h s

  -- two values more
  pub both_have : (v : Values) (x y : ℕ) (M N : Term) (w : Values) → P x → P y → onto (given v x M) (λ u. given u y N) ≡ some w → (Has P v σ × (σ x ≡ M) × (σ y ≡ N)) ↔ Has P w σ
  both_have v x y M N w p q e =
      let f = onto_some (given v x M) (λ u. given u y N) w e in
      let a = given_has v x M f.0 p f.1 in
      let b = given_has f.0 y N w q f.2 in
      ((λ h. b.0 (a.0 (h.0, h.1), h.2)), λ h. let k = b.1 h in let l = a.1 k.0 in (l.0, l.1, k.1))

  onto_clash : (o : Maybe Values) (v : Values) (x y : ℕ) (M N : Term) → P x → P y → given v x M ≡ o → onto o (λ u. given u y N) ≡ none → Has P v σ → σ x ≡ M → σ y ≡ N → ⊥
  onto_clash none v x y M N p q o e h s t = given_clash v x M p o h s
  onto_clash (some w) v x y M N p q o e h s t = given_clash w y N q e ((given_has v x M w p o).0 (h, s)) t

  pub both_clash : (v : Values) (x y : ℕ) (M N : Term) → P x → P y → onto (given v x M) (λ u. given u y N) ≡ none → Has P v σ → σ x ≡ M → σ y ≡ N → ⊥
  both_clash v x y M N p q e h s t = onto_clash (given v x M) v x y M N p q refl e h s t

-- a place more in a table is a value more
pub values_set : (ns : List Node) (ps : List (Option NodeNo)) (x : ℕ) (p : NodeNo) → x < length ps → values_in ns (slice_set ps x (Some p)) ≡ bind (values_in ns ps) x (term ns p.0)
values_set ns ps x p l = fun_ext (λ y. go y (ℕ_discrete y x))
  where
    go : (y : ℕ) → Dec (y ≡ x) → values_in ns (slice_set ps x (Some p)) y ≡ bind (values_in ns ps) x (term ns p.0) y
    go y (yes e) =
        rw e (ap (term_at ns) (get_or-set_same ps x (Some p) None l) ∙ sym (bind_here (values_in ns ps) x (term ns p.0)))
    go y (no n) = ap (term_at ns) (get_or-set_other ps x y (Some p) None n) ∙ sym (bind_there (values_in ns ps) x (term ns p.0) y n)

-- an entry that has a place is compared
pub assigned_old : (ns : List Node) (ps : List (Option NodeNo)) (x : ℕ) (q p : NodeNo) (r : Bool) → slice_index_or ps x None ≡ Some q → (r ≡ true → term ns q.0 ≡ term ns p.0) → (term ns q.0 ≡ term ns p.0 → r ≡ true) → Assigned ns ps x p.0 r ps
assigned_old ns ps x q p true e f g =
    ap (λ (o : Option NodeNo). give (term_at ns o) (values_in ns ps) x (term ns p.0)) e
    ∙ ap (λ (b : Bool). cond b (some (values_in ns ps)) none) (same_true (term ns q.0) (term ns p.0) (f refl))
assigned_old ns ps x q p false e f g =
    ap (λ (o : Option NodeNo). give (term_at ns o) (values_in ns ps) x (term ns p.0)) e
    ∙ go (same? (term ns q.0) (term ns p.0)) (same→eq (term ns q.0) (term ns p.0))
  where
    go : (b : Bool) → (T b → term ns q.0 ≡ term ns p.0) → cond b (some (values_in ns ps)) none ≡ none
    go true h = absurd (false≢true (g (h tt)))
    go false h = refl
