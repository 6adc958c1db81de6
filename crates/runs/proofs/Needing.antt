-- A split that binds one variable twice has a run that no valuation solves.
use Rattle.std.proofs.Common.{◌≡◌, ℕ, List, [], ◌∷◌, refl, ap, ◌∙◌, subst, arith}
use mathlib.Core.Option.{none}
use mathlib.Core.List.Memᴰ
use Rattle.terms.specs.Terms.{Term, env, var, pair}
use Rattle.protocol.specs.Strands.{TermStep, input, splits}
use Rattle.derivation.specs.Derive.{public, both}
use Rattle.runs.specs.Protocols.{TermAction}
use Rattle.runs.specs.Runs.{State, a_value, bind, fed, halved, onward, nowhere, moved, stop, step, Runs, received}
use Rattle.runs.specs.Schedules.{done, then, AllHold}
use Rattle.runs.specs.Bridge.{actions}
use Rattle.runs.specs.Needed.{split_twice, ApartNeeded}
use Rattle.runs.proofs.Bridging.{plan_unique}

abbrev fed_pair : Term
fed_pair = pair (env 0) (env 1)

abbrev last_state : State
last_state = record { next = onward (onward nowhere 0) 0; value = bind (bind (bind (λ x. none) 0 fed_pair) 1 (env 0)) 1 (env 1); run = received 0 fed_pair ∷ [] }

the_run : Runs split_twice (0 ∷ 0 ∷ []) last_state
the_run = step (moved refl (fed fed_pair (tt, tt) (tt, tt) (both (public 0) (public 1)))) (step (moved refl (halved (a_value refl))) (stop refl))

abbrev two_steps : List TermStep
two_steps = input 0 0 ∷ splits (var 0) 1 1 ∷ []

unequal : (t : Term) → fed_pair ≡ pair t t → ⊥
unequal t e = let q : env 0 ≡ env 1 = cc in let n : ◌≡◌ {A = ℕ} 0 1 = cc in omega arith

pub apart_needed : ApartNeeded
apart_needed = (
  last_state,
  the_run,
  λ ρ sol e.
      let q : sol.steps ≡ two_steps = plan_unique sol.plan two_steps (then refl (then refl done)) in
      let h : AllHold ρ two_steps = subst (λ (z : List TermStep). AllHold ρ z) q sol.hold in
      let halves : ρ 0 ≡ pair (ρ 1) (ρ 1) = h (splits (var 0) 1 1) (Memᴰ.tail (Memᴰ.head refl)) in
      let r : received 0 fed_pair ∷ [] ≡ received 0 (ρ 0) ∷ [] = e ∙ ap (λ (z : List TermStep). actions ρ z) q in
      let a : received 0 fed_pair ≡ received 0 (ρ 0) = cc in
      unequal (ρ 1) (ap (λ (z : TermAction). z.term) a ∙ halves),
)
