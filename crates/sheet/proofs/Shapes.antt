-- What the sets of variables of nodes tell of a step and of a property.
use Rattle.std.proofs.Common.{◌≡◌, ℕ, Bool, true, false, Some, None, Decides, MatchOption, Option}
use Rattle.std.proofs.lemmas.Bool.{false≢true, both_ways}
use Rattle.terms.specs.Terms.{Term, Occurs, Vars}
use Rattle.terms.specs.Bits.{In}
use Rattle.terms.specs.Nodes.{term}
use Rattle.terms.specs.declared.variables.VarSet.{VarSet}
use Rattle.terms.proofs.Bitsets.{in_or, or_in, not_in_zero, vars_from, vars_at}
use Rattle.terms.proofs.Unfolding.{unfolds, ordered_true}
use Rattle.protocol.specs.declared.step.Action.{Action}
use Rattle.protocol.specs.declared.step.Property.{Property}
use Rattle.protocol.specs.Strands.{Bound}
use Rattle.protocol.specs.Lawful.{Content, EarlierLaw, PropertyLaw}
use Rattle.sheet.specs.Checking.{Just, Acted}
use Rattle.sheet.specs.Tracking.{in?, bound?}
use Rattle.sheet.proofs.Tracking.{just_bound}

-- the laws of terms and of sets by which the variables of a step are those of its nodes' sets
pub ruleset shapes = (unfolds, ordered_true, not_in_zero, in_or, or_in)

-- what a property asks of the variables of its later action, and of those of an earlier one
free_decided : (C : Content) (t : Term) (s bound : VarSet) (q : Bool) → Just (λ x. Occurs x t) s → ((x : ℕ) → in? x bound.0 ≡ bound? C.nodes C.strands x) → Decides q ((x : ℕ) → In x s.0 → In x bound.0 → ⊥) → Decides q (Vars (λ x. ¬ Bound C.nodes C.strands x) t)
free_decided C t s bound q a all d =
    let b = just_bound C.nodes C.strands bound all in (
      λ e. vars_from _ t (λ x o w. d.0 e x ((a x).1 o) ((b x).1 w)),
      λ v. d.1 (λ x i j. vars_at _ t v x ((a x).0 i) ((b x).0 j)),
    )

pub earlier_decided : (C : Content) (a b : Action) (o : Option VarSet) (later : VarSet) (r : Bool) (Q : VarSet → Type 0) → Acted C a o → Acted C b (Some later) → MatchOption o (r ≡ false) Q → ((s : VarSet) → Q s → Decides r ((x : ℕ) → In x s.0 → In x later.0)) → Decides r (EarlierLaw C (Some a) b)
earlier_decided C a b None later r Q g h m d = (λ e. absurd (both_ways r m e), λ w. absurd (g w.0))
earlier_decided C a b (Some s) later r Q g h m d =
    let t = term C.nodes a.node.0 in (
      λ e. (g.0, vars_from _ t (λ x o. (h.1 x).0 ((d s m).0 e x ((g.1 x).1 o)))),
      λ w. (d s m).1 (λ x i. (h.1 x).1 (vars_at _ t w.1 x ((g.1 x).0 i))),
    )

module _ (C : Content) (p : Property) (later bound : VarSet) (q : Bool) (a : Acted C p.later (Some later)) (all : (x : ℕ) → in? x bound.0 ≡ bound? C.nodes C.strands x) (d : Decides q ((x : ℕ) → In x later.0 → In x bound.0 → ⊥)) where
  free : Decides q (Vars (λ x. ¬ Bound C.nodes C.strands x) (term C.nodes p.later.node.0))
  free = free_decided C (term C.nodes p.later.node.0) later bound q a.1 all d

  pub bound_later : q ≡ false → Decides false (PropertyLaw C p)
  bound_later f = (λ e. absurd (false≢true e), λ l. absurd (both_ways q f (free.1 l.2)))

  pub free_later : (r : Bool) → q ≡ true → Decides r (EarlierLaw C p.earlier p.later) → Decides r (PropertyLaw C p)
  free_later r e h = (λ t. (a.0, h.0 t, free.0 e), λ l. h.1 l.1)
