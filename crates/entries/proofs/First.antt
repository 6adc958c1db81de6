-- The first sheet is lawful, so its file is refused by no rule.
use Rattle.std.proofs.Common.{◌≡◌, ℕ, zero, suc, ◌<◌, ◌≤◌, [], ◌∷◌, length, get_or, Some, None, sym, refl, ◌∙◌, subst, arith}
use Rattle.terms.specs.Nodes.{node, terms}
use Rattle.terms.specs.declared.node.Node.TheVariants.{Name}
use Rattle.protocol.specs.declared.step.Step.{Step}
use Rattle.protocol.specs.declared.step.Step.TheVariants.{Output}
use Rattle.protocol.specs.declared.step.Direction.TheVariants as direction
use Rattle.protocol.specs.declared.step.Property.{Property}
use Rattle.protocol.specs.Strands.{At, Uses, BoundBefore, step_of}
use Rattle.protocol.specs.Lawful.{Content, NodeLaw, StepLaw, Sound, Lawful}
use Rattle.entries.specs.declared.fault.Rule.{Rule}
use Rattle.entries.specs.Reading.{taken, refused, Reads, first_file}
use Rattle.entries.proofs.OneReply.{one_reply}

abbrev forbids : Property
forbids = record { earlier = None; later = record { direction = direction.Output; label = record { 0 = 0 }; node = record { 0 = 0 } } }

abbrev first : Content
first = record {
  labels = (97 ∷ []) ∷ [];
  names = (110 ∷ []) ∷ [];
  variables = [];
  nodes = Name (record { 0 = 0 }) ∷ [];
  strands = (Output (record { 0 = 0 }) (record { 0 = 0 }) ∷ []) ∷ [];
  property = Some forbids;
}

-- its one step
one_step : (k i : ℕ) (p : Step) → At first.strands k i p → (Output (record { 0 = 0 }) (record { 0 = 0 }) ≡ p) × (k ≡ 0) × (i ≡ 0)
one_step zero zero p a = (cc, refl, refl)
one_step zero (suc i) p a = absurd (grind arith)
one_step (suc k) i p a = absurd (grind arith)

few : (k : ℕ) → length (get_or first.strands k []) ≤ 16
few zero = omega arith
few (suc k) = omega arith

stand : (i : ℕ) → i < length first.nodes → NodeLaw first i (node first.nodes i)
stand zero h = omega arith
stand (suc i) h = absurd (omega arith)

first_sound : Sound first
unfolding terms
first_sound = record {
  few_labels = omega arith;
  few_names = omega arith;
  few_variables = omega arith;
  few_nodes = omega arith;
  few_strands = omega arith;
  few_steps = few;
  label_texts = ((omega arith, omega arith, ((omega arith, omega arith), tt)), tt);
  name_texts = ((omega arith, omega arith, ((omega arith, omega arith), tt)), tt);
  variable_texts = tt;
  nodes_stand = stand;
  steps_stand = λ k i p a. subst (StepLaw first) (one_step k i p a).0 (omega arith, omega arith);
  bound_once = λ k j i m p q x a b u v. let s = one_step k i p a in let t = one_step j m q b in (s.1 ∙ sym t.1, s.2 ∙ sym t.2);
  bound_before = λ k i p a. subst (λ (q : Step). Uses (BoundBefore first.nodes first.strands k i) (step_of first.nodes q)) (one_step k i p a).0 tt;
  property_stands = (omega arith, ((omega arith, omega arith), tt, tt));
}

first_lawful : Lawful first
first_lawful = record { sound = first_sound; has_property = (forbids, refl) }

-- so no refusal is a reply to its file
pub first_taken : (q : Rule) (k : ℕ) → Reads first_file (refused q k) → ⊥
first_taken q k w = let e = one_reply first_file (refused q k) (taken first) w (first_lawful, refl) in grind arith
