-- A step, a property and a record: how each is refused, and when it may come.
use Rattle.std.proofs.Common.{◌≡◌, ℕ, Bool, false, length, Some, Ok, Err, Decides, IsErrAnd, Result, refl, sym, ◌∙◌, subst, inl, inr, ⊎_elim, arith}
use Rattle.std.proofs.lemmas.Bool.{both_ways}
use Rattle.terms.specs.Bits.{In}
use Rattle.terms.specs.declared.variables.VarSet.{VarSet}
use Rattle.terms.proofs.Bitsets.{vars_from, vars_at}
use Rattle.protocol.specs.declared.step.Step.{Step}
use Rattle.protocol.specs.declared.step.Property.{Property}
use Rattle.protocol.specs.Strands.{TermStep, input, output, opens, splits, same, Binds, Uses, BoundBefore, Bound, step_of}
use Rattle.protocol.specs.Lawful.{Content, PropertyLaw}
use Rattle.entries.specs.declared.fault.Rule.{Rule}
use Rattle.entries.specs.declared.fault.Rule.TheVariants as r
use Rattle.sheet.specs.declared.refusal.Refusal.{Refusal}
use Rattle.sheet.specs.declared.refusal.Refusal.TheVariants.{Broken, NoMemory}
use Rattle.sheet.specs.declared.tables.Shape.{Shape}
use Rattle.entries.specs.Format.{Entry, step, property, rec, step_entry, property_entry}
use Rattle.entries.specs.Rules.{InOrder, HasRoom, GoodVariables, KeepsBelow, Breaks, latest, latest_steps}
use Rattle.sheet.specs.Checking.{Mentions, Shaped}
use Rattle.sheet.specs.Drafting.{Refuses, Entered, Added}
use Rattle.entries.proofs.Coding.{rec_one, step_entry_one, property_entry_one}
use Rattle.sheet.specs.Tracking.{in?, bound?, bound_last?}
use Rattle.sheet.proofs.Tracking.{just_bound, just_here}

-- what holds of each variable that is mentioned holds of every variable used, and the other way round
uses_from : (P : ℕ → Type 0) (q : TermStep) → ((x : ℕ) → Mentions x q → P x) → Uses P q
uses_from P (input l y) h = tt
uses_from P (output l t) h = vars_from P t h
uses_from P (opens s y k) h = (vars_from P s (λ x o. h x (inl o)), vars_from P k (λ x o. h x (inr o)))
uses_from P (splits s y z) h = vars_from P s h
uses_from P (same s t) h = (vars_from P s (λ x o. h x (inl o)), vars_from P t (λ x o. h x (inr o)))

uses_at : (P : ℕ → Type 0) (q : TermStep) → Uses P q → (x : ℕ) → Mentions x q → P x
uses_at P (input l y) u x m = absurd m
uses_at P (output l t) u x m = vars_at P t u x m
uses_at P (opens s y k) u x m = ⊎_elim (λ o. vars_at P s u.0 x o) (λ o. vars_at P k u.1 x o) m
uses_at P (splits s y z) u x m = vars_at P s u x m
uses_at P (same s t) u x m = ⊎_elim (λ o. vars_at P s u.0 x o) (λ o. vars_at P t u.1 x o) m

module _ (C : Content) (k a b : ℕ) (p : Step) (e : step_entry p ≡ step k a b) (o : InOrder C (step k a b)) (room : HasRoom C (step k a b)) (s : Shape) (shaped : Shaped C p (Some s)) (bound here : VarSet) (all : (x : ℕ) → in? x bound.0 ≡ bound? C.nodes C.strands x) (last : (x : ℕ) → in? x here.0 ≡ bound_last? C.nodes C.strands x) where
  seven : KeepsBelow 7 C (step k a b)
  seven = grind arith

  -- it binds what a step binds already
  pub bound_twice : (q : Bool) → Decides q ((x : ℕ) → In x s.binds.0 → In x bound.0 → ⊥) → q ≡ false → Refuses C (step k a b) r.Variable
  bound_twice q d f =
      (seven, λ g. both_ways q f (d.1 (λ x i j. (g p e).0 x ((shaped.1 x).0 i) ((just_bound C.nodes C.strands bound all x).0 j))))

  -- it uses what its strand has not bound
  pub used_early : (q : Bool) → Decides q ((x : ℕ) → In x s.uses.0 → In x here.0) → q ≡ false → Refuses C (step k a b) r.Variable
  used_early q d f =
      (seven, λ g. both_ways q f (d.1 (λ x i. (just_here C here last x).1 (uses_at _ (step_of C.nodes p) (g p e).1 x ((shaped.2 x).0 i)))))

  pub may_come : ((x : ℕ) → In x s.binds.0 → In x bound.0 → ⊥) → ((x : ℕ) → In x s.uses.0 → In x here.0) → KeepsBelow 9 C (step k a b)
  may_come d u =
      let P : Step → Type 0 = λ q. ((x : ℕ) → Binds x (step_of C.nodes q) → ¬ Bound C.nodes C.strands x) × Uses (BoundBefore C.nodes C.strands (latest C) (length (latest_steps C))) (step_of C.nodes q) in
      let g : P p = (λ x i w. d x ((shaped.1 x).1 i) ((just_bound C.nodes C.strands bound all x).1 w), uses_from _ (step_of C.nodes p) (λ x m. (just_here C here last x).0 (u x ((shaped.2 x).1 m)))) in
      let h : GoodVariables C (step k a b) = λ q f. subst P (step_entry_one p q (e ∙ sym f)) g in
      grind arith

-- a property that is not lawful
pub property_refused : (C : Content) (k a b l c d : ℕ) (t : Property) (q : Bool) (o : Result (Unit {0}) Refusal) (D : Content) → InOrder C (property k a b l c d) → property_entry t ≡ property k a b l c d → Decides q (PropertyLaw C t) → q ≡ false → IsErrAnd o (λ x. x ≡ Broken r.Property) → Entered C (property k a b l c d) o D
property_refused C k a b l c d t q (Ok u) D i e g f w = absurd w
property_refused C k a b l c d t q (Err x) D i e g f w =
    rw w (
      (grind arith),
      λ h. both_ways q f (g.1 (subst (PropertyLaw C) (property_entry_one h.0 t (h.1 ∙ sym e)) h.2)),
    )

-- what breaks a rule as an entry breaks it as a record
breaks : (C : Content) (e : Entry) (q : Rule) → Refuses C e q → Breaks q C (rec e)
breaks C e r.Whole h = h.1 tt
breaks C e r.Kind h = λ d g o. h.1 (subst (InOrder C) (rec_one d e g) o)
breaks C e r.Limit h = (e, refl, h.0, h.1)
breaks C e r.Text h = (e, refl, h.0, h.1)
breaks C e r.Node h = (e, refl, h.0, h.1)
breaks C e r.Step h = (e, refl, h.0, h.1)
breaks C e r.Variable h = (e, refl, h.0, h.1)
breaks C e r.Property h = (e, refl, h.0, h.1)
breaks C e r.Ended h = h.1 tt

pub added : (C : Content) (e : Entry) (o : Result (Unit {0}) Refusal) (D : Content) → Entered C e o D → Added C (rec e) o D
added C e (Ok u) D w = (e, refl, w.0, w.1)
added C e (Err (Broken q)) D w = breaks C e q w
added C e (Err NoMemory) D w = tt
