-- A break at the last step.
use Rattle.std.proofs.Common.{◌≡◌, ℕ, ◌+◌, ◌⊎◌, List, [], ◌∷◌, ◌++◌, sym, refl, ap, ◌∙◌, subst, inl, inr, append_assoc, append-nil, arith}
use mathlib.Core.List.Memᴰ
use Rattle.terms.specs.Terms.{Term, inst, Closed}
use Rattle.protocol.specs.Strands.{TermStep, input, output, opens, splits, same, At}
use Rattle.lifting.proofs.Lists.{nil_cons}
use Rattle.runs.specs.Protocols.{TermAction, Protocol, LawfulProtocol}
use Rattle.runs.specs.Runs.{State, Goes, stop, under, Absent, nowhere, received, sent, start}
use Rattle.runs.specs.Schedules.{Plan, done, then, AllHold, Breaking}
use Rattle.runs.specs.Bridge.{action, actions, AllFed}
use Rattle.runs.specs.Apart.{mentions}
use Rattle.runs.specs.Release.{BreakingSolution}
use Rattle.runs.specs.Last.{BreakBy, BreaksAtLast, NothingBreaksNothing}
use Rattle.runs.proofs.Beginnings.{last_split}
use Rattle.runs.proofs.Apartness.{onward_mentions}
use Rattle.runs.proofs.Bridging.{plan_unique}
use Rattle.runs.proofs.Releasing.{one_to, one_from}

pub actions_append : (ρ : ℕ → Term) (ps qs : List TermStep) → actions ρ (ps ++ qs) ≡ actions ρ ps ++ actions ρ qs
actions_append ρ [] qs = refl
actions_append ρ (p ∷ ps) qs = ap (λ (z : List TermAction). action ρ p ++ z) (actions_append ρ ps qs) ∙ sym (append_assoc (action ρ p) (actions ρ ps) (actions ρ qs))

pub fed_before : (ρ : ℕ → Term) (r : List TermAction) (ps qs : List TermStep) → AllFed ρ r (ps ++ qs) → AllFed ρ r ps
fed_before ρ r [] qs f = tt
fed_before ρ r (p ∷ ps) qs f = (f.0, fed_before ρ (r ++ action ρ p) ps qs f.1)

pub plan_snoc : {S : Protocol} (k : ℕ) (p : TermStep) {next : ℕ → ℕ} {s : List ℕ} {ps : List TermStep} → Plan S next s ps → At S.strands k (next k + mentions k s) p → Plan S next (s ++ (k ∷ [])) (ps ++ (p ∷ []))
plan_snoc {S} k p {next} done a = then (subst (λ (i : ℕ). At S.strands k i p) (omega arith) a) done
plan_snoc {S} k p (then {next = next} {k = j} {s = s} at pl) a = then at (plan_snoc k p pl (subst (λ (i : ℕ). At S.strands k i p) (sym (onward_mentions next j k s)) a))

action_one : (ρ : ℕ → Term) (p : TermStep) → (action ρ p ≡ []) ⊎ ((a : TermAction) × (action ρ p ≡ a ∷ []))
action_one ρ (input l x) = inr (received l (ρ x), refl)
action_one ρ (output l n) = inr (sent l (inst ρ n), refl)
action_one ρ (opens s x k) = inl refl
action_one ρ (splits s x y) = inl refl
action_one ρ (same n m) = inl refl

last_is : (xs : List TermAction) (a : TermAction) (before : List TermAction) (l : TermAction) → xs ++ (a ∷ []) ≡ before ++ (l ∷ []) → xs ≡ before → a ≡ l
last_is xs a before l e q = same_last xs a l (e ∙ ap (λ (z : List TermAction). z ++ (l ∷ [])) (sym q))
  where
    same_last : (xs : List TermAction) (a l : TermAction) → xs ++ (a ∷ []) ≡ xs ++ (l ∷ []) → a ≡ l
    same_last [] a l e = cc
    same_last (x ∷ xs) a l e = same_last xs a l (cc)

module _ (S : Protocol) (law : LawfulProtocol S) (s : List ℕ) (k : ℕ) (kept : ¬ Breaking S s) (ps : List TermStep) (p : TermStep) (pl : Plan S nowhere s ps) (at : At S.strands k (mentions k s) p) where
  both_steps : Plan S nowhere (s ++ (k ∷ [])) (ps ++ (p ∷ []))
  both_steps = plan_snoc k p pl (subst (λ (i : ℕ). At S.strands k i p) (omega arith) at)

  -- a break before the last step would be one of s
  sooner : (ρ : ℕ → Term) → ((x : ℕ) → Closed (ρ x)) → AllHold ρ (ps ++ (p ∷ [])) → AllFed ρ [] (ps ++ (p ∷ [])) → (before after : List TermAction) → actions ρ ps ≡ before ++ (under ρ S.later ∷ after) → Absent ρ S.earlier before → ⊥
  sooner ρ c h f before after e ab =
      kept (one_from S law s (ρ, (record { closed = c; steps = ps; plan = pl; hold = λ q m. h q (Memᴰ.append_left (p ∷ []) m); feeds = fed_before ρ [] ps (p ∷ []) f }, before, after, e, ab)))

  last_to : Breaking S (s ++ (k ∷ [])) → (ρ : ℕ → Term) × BreakBy S ps p ρ
  last_to b = go (one_to S law (s ++ (k ∷ [])) b)
    where
      go : (ρ : ℕ → Term) × BreakingSolution S (s ++ (k ∷ [])) ρ → (ρ : ℕ → Term) × BreakBy S ps p ρ
      go (ρ, (sol, before, after, e, ab)) =
          let q : sol.steps ≡ ps ++ (p ∷ []) = plan_unique sol.plan (ps ++ (p ∷ [])) both_steps in
          let h : AllHold ρ (ps ++ (p ∷ [])) = subst (λ (z : List TermStep). AllHold ρ z) q sol.hold in
          let f : AllFed ρ [] (ps ++ (p ∷ [])) = subst (λ (z : List TermStep). AllFed ρ [] z) q sol.feeds in
          let r : actions ρ ps ++ action ρ p ≡ before ++ (under ρ S.later ∷ after) = ap (λ (z : List TermAction). actions ρ ps ++ z) (sym (append-nil (action ρ p))) ∙ (sym (actions_append ρ ps (p ∷ [])) ∙ (ap (actions ρ) (sym q) ∙ e)) in
          elim (action_one ρ p) [
            | inl z ↦ absurd (sooner ρ sol.closed h f before after (sym (append-nil (actions ρ ps)) ∙ (ap (λ (w : List TermAction). actions ρ ps ++ w) (sym z) ∙ r)) ab)
            | inr z ↦
                let r' : actions ρ ps ++ (z.0 ∷ []) ≡ before ++ (under ρ S.later ∷ after) = ap (λ (w : List TermAction). actions ρ ps ++ w) (sym z.1) ∙ r in
                elim (last_split (actions ρ ps) z.0 before (under ρ S.later) after r') [
                  | inl w ↦ (
                    ρ,
                    record {
                      closed = sol.closed;
                      hold = h;
                      feeds = f;
                      now = z.1 ∙ ap (λ (a : TermAction). a ∷ []) (last_is (actions ρ ps) z.0 before (under ρ S.later) (r' ∙ ap (λ (y : List TermAction). before ++ (under ρ S.later ∷ y)) w.0) w.1);
                      clear = subst (λ (y : List TermAction). Absent ρ S.earlier y) (sym w.1) ab;
                    },
                  )
                  | inr w ↦ absurd (sooner ρ sol.closed h f before w.0 w.1 ab)
                ]
          ]

  last_from : (ρ : ℕ → Term) × BreakBy S ps p ρ → Breaking S (s ++ (k ∷ []))
  last_from (ρ, b) =
      one_from S law (s ++ (k ∷ [])) (ρ, (record { closed = b.closed; steps = ps ++ (p ∷ []); plan = both_steps; hold = b.hold; feeds = b.feeds }, actions ρ ps, [], actions_append ρ ps (p ∷ []) ∙ ap (λ (z : List TermAction). actions ρ ps ++ z) (append-nil (action ρ p) ∙ b.now), b.clear))

pub breaks_at_last : BreaksAtLast
breaks_at_last S law s k kept ps p pl at = (last_to S law s k kept ps p pl at, last_from S law s k kept ps p pl at)

pub nothing_breaks_nothing : NothingBreaksNothing
nothing_breaks_nothing S (st, g, (ρ, before, after, (c, m, e, ab))) = nil_cons before (under ρ S.later) after (empty g ∙ e)
  where
    empty : {st : State} → Goes S start [] st → [] ≡ st.run
    empty (stop q) = ap (λ (z : State). z.run) q
