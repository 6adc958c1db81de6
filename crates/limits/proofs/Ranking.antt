-- Where what is asked rests, some closed instance of the bindings meets it.
use mathlib.Core.HLevel.{Π_prop, ×_prop, Unit-prop, ⊥_prop}
use mathlib.Core.Logic.{∥∥₁_elim}
use Rattle.std.proofs.Common.{◌≡◌, ℕ, zero, suc, ◌<◌, List, length, refl, sym, ap, subst, inl, inr, ⊎_elim, not-suc-le-zero, arith}
use Rattle.terms.specs.Terms.{Term, name, env, var, pair, seal, inst, Closed, Atom, Message, Occurs, Vars}
use Rattle.terms.specs.Nodes.{term}
use Rattle.terms.specs.declared.node.Node.{Node}
use Rattle.terms.proofs.Bitsets.{vars_at}
use Rattle.unification.specs.Bindings.{variable_at, node_at, Unbound, Falls, Ranked, Extension}
use Rattle.unification.specs.declared.binding.Binding.{Binding}
use Rattle.unification.proofs.Deciding.{Place, bound?}
use Rattle.unification.proofs.Variables.{vars_map}
use Rattle.matching.specs.Matchings.{MostGeneral}
use Rattle.limits.specs.Keys.{InKey}
use Rattle.limits.specs.Demands.{AsksMessage, AsksAtom}
use Rattle.limits.specs.Following.{AllPass}
use Rattle.limits.specs.Beginnings.{Solvable}
use Rattle.limits.specs.declared.demands.Demands.{Demands}
use Rattle.limits.proofs.Instances.{message_instance, atom_instance}

closed_prop : (t : Term) → IsProp (Closed t)
closed_prop (name n) = Unit-prop
closed_prop (env n) = Unit-prop
closed_prop (var x) = ⊥_prop
closed_prop (pair a b) = ×_prop (closed_prop a) (closed_prop b)
closed_prop (seal b k) = ×_prop (closed_prop b) (closed_prop k)

atom_prop : (t : Term) → IsProp (Atom t)
atom_prop (name n) = Unit-prop
atom_prop (env n) = Unit-prop
atom_prop (var x) = Unit-prop
atom_prop (pair a b) = ⊥_prop
atom_prop (seal b k) = ⊥_prop

message_prop : (t : Term) → IsProp (Message t)
message_prop (name n) = Unit-prop
message_prop (env n) = Unit-prop
message_prop (var x) = Unit-prop
message_prop (pair a b) = ×_prop (message_prop a) (message_prop b)
message_prop (seal b k) = ×_prop (message_prop b) (atom_prop k)

-- what holds of the variables that are not bound, and passes from those of a binding's term to its variable, holds of all
module _ (ns : List Node) (B : List Binding) (P : ℕ → Type 0) (free : (x : ℕ) → Unbound B x → P x) (along : (k : ℕ) → k < length B → Vars P (term ns (node_at B k)) → P (variable_at B k)) where
  by_rank : (r : ℕ → ℕ) → Falls ns B r → (n x : ℕ) → r x < n → P x
  by_rank r falls zero x h = absurd (not-suc-le-zero h)
  by_rank r falls (suc n) x h = go (bound? B x) (λ y l. by_rank r falls n y l)
    where
      go : Dec (Place B x) → ((y : ℕ) → r y < n → P y) → P x
      go (no f) ih = free x (λ k l e. f (k, l, e))
      go (yes p) ih =
          let q : r (variable_at B p.0) ≡ r x = ap r p.2 in
          subst P p.2 (along p.0 p.1 (vars_map (λ y l. ih y (omega arith)) (term ns (node_at B p.0)) (falls p.0 p.1)))

  pub by_ranks : Ranked ns B → ((x : ℕ) → IsProp (P x)) → (x : ℕ) → P x
  by_ranks ranked prop x = ∥∥₁_elim ranked (prop x) (λ f. by_rank f.0 f.1 (suc (f.0 x)) x (omega arith))

closed_instance : (ρ : ℕ → Term) (t : Term) → ((x : ℕ) → Occurs x t → Closed (ρ x)) → Closed (inst ρ t)
closed_instance ρ (name n) h = tt
closed_instance ρ (env n) h = tt
closed_instance ρ (var x) h = h x refl
closed_instance ρ (pair a b) h = (closed_instance ρ a (λ x o. h x (inl o)), closed_instance ρ b (λ x o. h x (inr o)))
closed_instance ρ (seal a b) h = (closed_instance ρ a (λ x o. h x (inl o)), closed_instance ρ b (λ x o. h x (inr o)))

in_key_occurs : (x : ℕ) (t : Term) → InKey x t → Occurs x t
in_key_occurs x (name n) h = h
in_key_occurs x (env n) h = h
in_key_occurs x (var y) h = absurd h
in_key_occurs x (pair a b) h = ⊎_elim (λ p. inl (in_key_occurs x a p)) (λ p. inr (in_key_occurs x b p)) h
in_key_occurs x (seal b k) h = ⊎_elim (λ p. inl (in_key_occurs x b p)) (λ p. inr p) h

module _ (ns : List Node) (B : List Binding) (d : Demands) (said : (i : ℕ) → Message (term ns i)) (rests : AllPass ns B (length B) d d) (ρ : ℕ → Term) (agrees : Extension ns B (λ x. env 0) ρ) where
  -- what is asked of x is met by a closed term
  abbrev Met : ℕ → Type 0
  Met x = Closed (ρ x) × ((AsksMessage d x → Message (ρ x)) × (AsksAtom d x → Atom (ρ x)))

  met_prop : (x : ℕ) → IsProp (Met x)
  met_prop x = ×_prop (closed_prop (ρ x)) (×_prop (Π_prop (λ i. message_prop (ρ x))) (Π_prop (λ i. atom_prop (ρ x))))

  met_free : (x : ℕ) → Unbound B x → Met x
  met_free x u = let e : env 0 ≡ ρ x = sym (agrees.1 x u) in (subst Closed e tt, (λ i. subst Message e tt, λ i. subst Atom e tt))

  met_bound : (k : ℕ) → k < length B → Vars Met (term ns (node_at B k)) → Met (variable_at B k)
  met_bound k l v =
      let t : Term = term ns (node_at B k) in
      let e : inst ρ t ≡ ρ (variable_at B k) = sym (agrees.0 k l) in
      let parts : ((y : ℕ) → Occurs y t → Met y) = vars_at Met t v in
      let p = rests k l in (
        subst Closed e (closed_instance ρ t (λ y o. (parts y o).0)),
        (
          λ i. subst Message e (message_instance ρ t (said (node_at B k)) (λ y o. (parts y o).1.0 (p.0.said i y o)) (λ y o. (parts y (in_key_occurs y t o)).1.1 (p.0.locked i y o))),
          λ i. subst Atom e (atom_instance ρ t (p.1.plain i) (λ y o. (parts y o).1.1 (p.1.atoms i y o))),
        ),
      )

  met : Ranked ns B → (x : ℕ) → Met x
  met ranked = by_ranks ns B Met met_free met_bound ranked met_prop

-- where nothing more is asked, some closed terms solve the state: a variable with no value may stand for any name
pub rests_solvable : (ns : List Node) (B : List Binding) (d : Demands) → MostGeneral ns B → ((i : ℕ) → Message (term ns i)) → AllPass ns B (length B) d d → Solvable ns B d
rests_solvable ns B d general said rests =
    let e = general.extends (λ x. env 0) in
    let m = met ns B d said rests e.0 e.1.0 general.ranked in
    (e.0, (λ x. (m x).0), (e.1.0.0, record { messages = λ x. (m x).1.0; atoms = λ x. (m x).1.1 }))
