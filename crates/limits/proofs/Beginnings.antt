-- Steps are asked for and taken one after another: what solves the state is what satisfies the steps so far.
use mathlib.Core.List.Memᴰ
use mathlib.Core.List.{Memᴰ}
use Rattle.std.proofs.Common.{◌≡◌, ℕ, suc, ◌+◌, ◌<◌, Bool, true, false, List, [], ◌∷◌, ◌++◌, length, take, Some, None, Option, Ok, refl, sym, ap, subst, ◌∙◌, ◌⊎◌, inl, inr, ⊎_elim, arith}
use Rattle.terms.specs.Terms.{Term, env, inst, Message}
use Rattle.terms.specs.Nodes.{term}
use Rattle.terms.specs.declared.node.Node.{Node}
use Rattle.terms.specs.declared.number.Label.{Label}
use Rattle.terms.specs.declared.number.NodeNo.{NodeNo}
use Rattle.std.specs.Bool.{then_some}
use Rattle.protocol.specs.Strands.{TermStep, step_of}
use Rattle.protocol.specs.declared.step.Step.{Step}
use Rattle.protocol.specs.declared.step.Step.TheVariants.{Output, Open, Split, Same}
use Rattle.runs.specs.Schedules.{Holds, AllHold}
use Rattle.unification.specs.Bindings.{val}
use Rattle.unification.specs.Classes.{Solved, Unsolvable}
use Rattle.unification.specs.declared.binding.Binding.{Binding}
use Rattle.matching.specs.Matchings.{MostGeneral, Matches}
use Rattle.limits.specs.Demands.{AsksMessage, AsksAtom, WithMessage}
use Rattle.limits.specs.Following.{Settled}
use Rattle.limits.specs.Beginnings.{StepFits, Solves, NoStep, Exactly, Solvable, Asked, Taken, LongestOf}
use Rattle.limits.specs.declared.demands.Demands.{Demands}
use Rattle.limits.proofs.Asking.{meets_message, message_met}
use Rattle.limits.proofs.Ranking.{rests_solvable}

module _ (ns : List Node) (B : List Binding) (d : Demands) where
  -- an action: its term's value has to be a message
  pub action_asked : (d' : Demands) (t : Term) (p : TermStep) → ((ρ : ℕ → Term) → Holds ρ p ≡ Message (inst ρ t)) → Message t → WithMessage d t d' → Exactly ns B d p B d'
  action_asked d' t p says plain w ρ = (
    λ s h. (s.0, meets_message ρ d d' t w s.1 (subst (λ (X : Type 0). X) (says ρ) h)),
    λ s. let m = message_met ρ d d' t plain w s.1 in ((s.0, m.0), subst (λ (X : Type 0). X) (sym (says ρ)) m.1),
  )

  -- two nodes that have to be equal
  pub equal_asked : (B' : List Binding) (a b : ℕ) (p : TermStep) → ((ρ : ℕ → Term) → (Holds ρ p → val ns ρ a ≡ val ns ρ b) × (val ns ρ a ≡ val ns ρ b → Holds ρ p)) → Solved ns B a b B' → Exactly ns B d p B' d
  equal_asked B' a b p says s ρ = (
    λ m h. (s.complete ρ m.0 ((says ρ).0 h), m.1),
    λ m. let i = s.sound ρ m.0 in ((i.0, m.1), (says ρ).1 i.1),
  )

  pub never_equal : (a b : ℕ) (p : TermStep) → ((ρ : ℕ → Term) → (Holds ρ p → val ns ρ a ≡ val ns ρ b) × (val ns ρ a ≡ val ns ρ b → Holds ρ p)) → Unsolvable ns B a b → NoStep ns B d p
  never_equal a b p says u ρ s h = u ρ s.0 ((says ρ).0 h)

-- a step that is no action says that two nodes are equal
abbrev Equates : List Node → Step → ℕ → ℕ → Type 0
Equates ns p a b = (ρ : ℕ → Term) → (Holds ρ (step_of ns p) → val ns ρ a ≡ val ns ρ b) × (val ns ρ a ≡ val ns ρ b → Holds ρ (step_of ns p))

open_says : (ns : List Node) (a b : NodeNo) → StepFits ns (Open a b) → Equates ns (Open a b) a.0 b.0
open_says ns a b f ρ = let q = ap (inst ρ) f.2 in (λ h. h ∙ sym q, λ h. h ∙ q)

split_says : (ns : List Node) (a b : NodeNo) → StepFits ns (Split a b) → Equates ns (Split a b) a.0 b.0
split_says ns a b f ρ = let q = ap (inst ρ) f.2 in (λ h. h ∙ sym q, λ h. h ∙ q)

-- the three kinds of such steps
abbrev pub IsEquation : Step → NodeNo → NodeNo → Type 0
IsEquation p a b = (p ≡ Open a b) ⊎ ((p ≡ Split a b) ⊎ (p ≡ Same a b))

sides : (ns : List Node) (p : Step) (a b : NodeNo) → IsEquation p a b → StepFits ns p → (a.0 < length ns) × (b.0 < length ns) × Equates ns p a.0 b.0
sides ns p a b i f =
    ⊎_elim (λ e. at (Open a b) e (λ g. (g.0, g.1, open_says ns a b g)))
    (λ j. ⊎_elim (λ e. at (Split a b) e (λ g. (g.0, g.1, split_says ns a b g))) (λ e. at (Same a b) e (λ g. (g.0, g.1, λ ρ. (λ h. h, λ h. h)))) j)
    i
  where
    at : (q : Step) → p ≡ q → (StepFits ns q → (a.0 < length ns) × (b.0 < length ns) × Equates ns q a.0 b.0) → (a.0 < length ns) × (b.0 < length ns) × Equates ns p a.0 b.0
    at q e g = subst (λ (z : Step). (a.0 < length ns) × (b.0 < length ns) × Equates ns z a.0 b.0) (sym e) (g (subst (λ (z : Step). StepFits ns z) e f))

pub equal_answered : (ns : List Node) (B : List Binding) (d : Demands) (p : Step) (a b : NodeNo) (yes : Bool) (B' : List Binding) → IsEquation p a b → StepFits ns p → Matches ns B a.0 b.0 (Ok yes) B' → Asked ns B d (step_of ns p) B' (then_some yes d)
equal_answered ns B d p a b true B' i f m = let s = sides ns p a b i f in equal_asked ns B d B' a.0 b.0 (step_of ns p) s.2 m.2
equal_answered ns B d p a b false B' i f m = let s = sides ns p a b i f in never_equal ns B d a.0 b.0 (step_of ns p) s.2 m.2

-- an output
pub output_answered : (ns : List Node) (B : List Binding) (d d' : Demands) (p : Step) (l : Label) (n : NodeNo) → p ≡ Output l n → ((i : ℕ) → Message (term ns i)) → WithMessage d (term ns n.0) d' → Exactly ns B d (step_of ns p) B d'
output_answered ns B d d' p l n e said w = subst (λ (z : Step). Exactly ns B d (step_of ns z) B d') (sym e) (action_asked ns B d d' (term ns n.0) (step_of ns (Output l n)) (λ ρ. refl) (said n.0) w)

-- the steps so far are satisfied by just what solves the state, and something does
pub record Reached (ps : List TermStep) (i : ℕ) (ns : List Node) (B : List Binding) (d : Demands) : Type 0 where
  pub exact : (ρ : ℕ → Term) → (AllHold ρ (take i ps) → Solves ns B d ρ) × (Solves ns B d ρ → AllHold ρ (take i ps))
  pub solvable : Solvable ns B d

pub reached_none : (ps : List TermStep) (ns : List Node) (B : List Binding) (d : Demands) → B ≡ [] → ((x : ℕ) → AsksMessage d x → ⊥) → ((x : ℕ) → AsksAtom d x → ⊥) → Reached ps 0 ns B d
reached_none ps ns B d e m a = record {
  exact = λ ρ. (λ h. all ρ, λ h p i. absurd (Memᴰ.not-nil i));
  solvable = (λ x. env 0, (λ x. tt), all (λ x. env 0));
}
  where
    all : (ρ : ℕ → Term) → Solves ns B d ρ
    all ρ = ((λ k l. absurd (omega (arith, ap length e))), record { messages = λ x i. absurd (m x i); atoms = λ x i. absurd (a x i) })

-- all hold of a longer beginning where all hold of the shorter one and the last step holds
module _ (ρ : ℕ → Term) (qs rs : List TermStep) (p : TermStep) (e : rs ≡ qs ++ (p ∷ [])) where
  all_more : AllHold ρ qs → Holds ρ p → AllHold ρ rs
  all_more h l q m =
      elim (Memᴰ.append_cases qs (subst (λ (z : List TermStep). Memᴰ q z) e m)) [
        | inl a ↦ h q a
        | inr b ↦ elim (Memᴰ.cases_cons b) [ inl f ↦ subst (λ (z : TermStep). Holds ρ z) (sym f) l | inr r ↦ absurd (Memᴰ.not-nil r) ]
      ]

  all_front : AllHold ρ rs → AllHold ρ qs
  all_front h q m = h q (subst (λ (z : List TermStep). Memᴰ q z) (sym e) (Memᴰ.append_left (p ∷ []) m))

  all_last : AllHold ρ rs → Holds ρ p
  all_last h = h p (subst (λ (z : List TermStep). Memᴰ p z) (sym e) (Memᴰ.append_right qs (Memᴰ.head refl)))

module _ (ps : List TermStep) (i : ℕ) (p : TermStep) (here : take (i + 1) ps ≡ take i ps ++ (p ∷ [])) (ns : List Node) (B : List Binding) (d : Demands) (so_far : Reached ps i ns B d) where
  pub reached_more : (B' : List Binding) (d' : Demands) → Taken ns B d p B' (Some d') → Reached ps (i + 1) ns B' d'
  reached_more B' d' t = record {
    exact = λ ρ. (
      λ h. (t.0 ρ).0 ((so_far.exact ρ).0 (all_front ρ (take i ps) (take (i + 1) ps) p here h)) (all_last ρ (take i ps) (take (i + 1) ps) p here h),
      λ s. let b = (t.0 ρ).1 s in all_more ρ (take i ps) (take (i + 1) ps) p here ((so_far.exact ρ).1 b.0) b.1,
    );
    solvable = t.1;
  }

  pub reached_stops : (B' : List Binding) → i < length ps → Taken ns B d p B' None → LongestOf ps i
  reached_stops B' l t =
      let s = so_far.solvable in (
        (omega arith, s.0, s.1, (so_far.exact s.0).1 s.2),
        λ f.
            let q : suc i ≡ i + 1 = omega arith in
            let h : AllHold f.1 (take (i + 1) ps) = subst (λ (j : ℕ). AllHold f.1 (take j ps)) q f.3 in
            t f.1 ((so_far.exact f.1).0 (all_front f.1 (take i ps) (take (i + 1) ps) p here h)) (all_last f.1 (take i ps) (take (i + 1) ps) p here h),
      )

pub reached_ends : (ps : List TermStep) (i : ℕ) (ns : List Node) (B : List Binding) (d : Demands) → i ≡ length ps → Reached ps i ns B d → LongestOf ps i
reached_ends ps i ns B d e r =
    let s = r.solvable in ((omega arith, s.0, s.1, (r.exact s.0).1 s.2), λ f. absurd (omega (arith, f.0)))

-- what was asked, settled
pub settled_taken : (ns : List Node) (B : List Binding) (d d₁ : Demands) (p : TermStep) (B' : List Binding) (r : Option Demands) → MostGeneral ns B' → ((j : ℕ) → Message (term ns j)) → Exactly ns B d p B' d₁ → Settled ns B' d₁ r → Taken ns B d p B' r
settled_taken ns B d d₁ p B' None g said x n = λ ρ s h. let q = (x ρ).0 s h in n ρ q.0 q.1
settled_taken ns B d d₁ p B' (Some d₂) g said x r = (
  (λ ρ. (
    λ s h. let q = (x ρ).0 s h in (q.0, r.needs ρ q.0 q.1),
    λ s. (x ρ).1 (s.0, record { messages = λ y i. s.1.messages y (r.grows.messages y i); atoms = λ y i. s.1.atoms y (r.grows.atoms y i) }),
  )),
  rests_solvable ns B' d₂ g said r.passes,
)
