-- What taking a step leaves as it was, and what it makes true.
use Rattle.std.proofs.Common.{◌≡◌, ℕ, List, Option, sym, ap, ◌∙◌, arith}
use Rattle.std.proofs.Math.Logic.{∥∥₁_elim}
use mathlib.Core.Option.{Option as Maybe, none, some, is_set}
use Rattle.terms.specs.Terms.{Term}
use Rattle.terms.specs.Nodes.{term}
use Rattle.terms.specs.declared.node.Node.{Node}
use Rattle.terms.specs.declared.number.NodeNo.{NodeNo}
use Rattle.terms.proofs.Equality.{term_set}
use Rattle.protocol.specs.Strands.{TermStep, At}
use Rattle.runs.specs.Protocols.{TermAction, Protocol, LawfulProtocol}
use Rattle.runs.specs.Runs.{Values, Means, a_name, an_env, a_value, a_pair, a_seal, Does, messages}
use Rattle.runs.specs.Valued.{valued}
use Rattle.runs.proofs.Values.{does_keeps}
use Rattle.runs.proofs.Decisions.{binds?}
use Rattle.runs.proofs.Valuing.{means_valued, valued_means, next_fresh}
use Rattle.playing.specs.Calls.{Situation, Reached}
use Rattle.judging.specs.Places.{term_at, values_in}
use Rattle.bench.specs.Places.{Placed, PlacedRight}
use Rattle.bench.specs.declared.effect.Effect.{Effect}
use Rattle.bench.specs.declared.effect.Effect.TheVariants.{Receive, Send, Open, Split, Agree}
use Rattle.bench.specs.Effects.{EffectHeld, Numbered}

-- more values make no term's value another
abbrev pub Stays : Values → Values → Type 0
Stays v w = (x : ℕ) (M : Term) → v x ≡ some M → w x ≡ some M

means_more : {v w : Values} → Stays v w → {t M : Term} → Means v t M → Means w t M
means_more s (a_name n) = a_name n
means_more s (an_env n) = an_env n
means_more s (a_value {x} {M} e) = a_value (s x M e)
means_more s (a_pair a b) = a_pair (means_more s a) (means_more s b)
means_more s (a_seal b k) = a_seal (means_more s b) (means_more s k)

pub valued_more : (v w : Values) → Stays v w → (t M : Term) → valued v t ≡ some M → valued w t ≡ some M
valued_more v w s t M e = means_valued (means_more s (valued_means v t M e))

none_is : {M : Term} → ◌≡◌ {A = Maybe Term} none (some M) → ⊥
none_is e = grind arith

-- a step binds only variables without a value
pub step_stays : (S : Protocol) (u : Situation) (k : ℕ) (p : TermStep) (w : Values) (r : List TermAction) → LawfulProtocol S → ∥ Reached S u ∥₁ → At S.strands k (u.state.next k) p → Does u.state.value (messages u.state.run) p w r → Stays u.state.value w
step_stays S u k p w r law h a d x M e =
    ∥∥₁_elim h (is_set term_set _ _)
    (λ g.
    elim (binds? x p) [
      | yes b ↦ absurd (none_is (sym (next_fresh S law g.0.0 u.state g.0.1 k p a x b) ∙ e))
      | no n ↦ does_keeps x d n ∙ e
    ])

pub right_after : (ns ss : List Node) (vs ws ps : List (Option NodeNo)) → Stays (values_in ns vs) (values_in ns ws) → Placed ns ss vs ps → PlacedRight ns ss ws ps
right_after ns ss vs ws ps s h i p l e = valued_more (values_in ns vs) (values_in ns ws) s (term ss i) (term ns p.0) (sym (h i l) ∙ ap (term_at ns) e)

pub held_numbered : (ns : List Node) (e : Effect) → EffectHeld ns e → Numbered e
held_numbered ns (Receive a x) h = h.1
held_numbered ns (Send a) h = tt
held_numbered ns (Open x p) h = h.1
held_numbered ns (Split x p y q) h = (h.1, h.3)
held_numbered ns Agree h = tt
