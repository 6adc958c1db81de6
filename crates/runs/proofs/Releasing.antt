-- Runs go on, a kept release, one valuation for a break.
use Rattle.std.proofs.Common.{◌≡◌, ℕ, ◌+◌, ◌<◌, ◌⊎◌, List, [], ◌∷◌, ◌++◌, sym, refl, ap, ◌∙◌, subst, ap₂, inl, inr, arith}
use mathlib.Core.Option.{Option, none, some}
use mathlib.Core.List.Memᴰ
use mathlib.Core.List.{Memᴰ}
use Rattle.terms.specs.Terms.{Term, name, env, var, pair, seal, inst, Closed, Message, Atom, Vars, Occurs}
use Rattle.protocol.specs.Strands.{TermStep, input, output, opens, splits, same, Binds, Uses}
use Rattle.derivation.specs.Derive.{Derives}
use Rattle.lifting.proofs.Instances.{vars_map}
use Rattle.runs.specs.Protocols.{TermAction, Protocol, EarlierInLater, LawfulProtocol}
use Rattle.runs.specs.Runs.{State, Moves, moved, Goes, stop, step, under, Absent, received, sent, messages, nowhere}
use Rattle.runs.specs.Schedules.{Plan, Holds, AllHold, Breaking, ◌≺◌}
use Rattle.runs.specs.Bridge.{action, actions, FedFrom, AllFed}
use Rattle.runs.specs.Apart.{mentions}
use Rattle.runs.specs.Release.{RunsOn, StandsAt, KeptRelease, BreakingSolution, OneValuation, OrderTold}
use Rattle.runs.proofs.Values.{uses_map}
use Rattle.runs.proofs.Bridging.{run_solves, solution_runs}
use Rattle.runs.proofs.Beginnings.{breaking_feasible}
use Rattle.runs.proofs.Apartness.{plan_from, holds_agree, inst_agree, onward_mentions}
use Rattle.runs.proofs.Decisions.{occurs?}

goes_on : {S : Protocol} {st : State} {s : List ℕ} {st₁ : State} → Goes S st s st₁ → (k : ℕ) (st₂ : State) → Moves S st₁ k st₂ → Goes S st (s ++ (k ∷ [])) st₂
goes_on {S} (stop e) k st₂ m = step (subst (λ (z : State). Moves S z k st₂) (sym e) m) (stop refl)
goes_on (step n g) k st₂ m = step n (goes_on g k st₂ m)

pub runs_on : RunsOn
runs_on S s st k st' g m = goes_on g k st' m

goes_at : {S : Protocol} {st : State} {s : List ℕ} {st' : State} → Goes S st s st' → (k : ℕ) → st'.next k ≡ st.next k + mentions k s
goes_at {st = st} (stop e) k = let q = ap (λ (z : State). z.next k) e in omega arith
goes_at (step {st = st} {k = j} {s = s} (moved at d) g) k = goes_at g k ∙ onward_mentions st.next j k s

pub stands_at : StandsAt
stands_at S s st g k = let q = goes_at g k in omega arith

pub kept_release : KeptRelease
kept_release S law budget c (L, a, e, h, n) s st g b =
    let w : Breaking S s = (st, g, b) in
    n s (a.complete s (breaking_feasible S law s w)) w

abbrev pub choose : {A : Type 0} → Dec A → Term → Term → Term
choose (yes a) s t = s
choose (no f) s t = t

-- the values of σ on the term's variables, of ρ on the others
abbrev over : Term → (ℕ → Term) → (ℕ → Term) → ℕ → Term
over t σ ρ x = choose (occurs? x t) (σ x) (ρ x)

over_in : (t : Term) (σ ρ : ℕ → Term) (x : ℕ) → Occurs x t → over t σ ρ x ≡ σ x
over_in t σ ρ x o = go (occurs? x t)
  where
    go : (d : Dec (Occurs x t)) → choose d (σ x) (ρ x) ≡ σ x
    go (yes p) = refl
    go (no f) = absurd (f o)

over_out : (t : Term) (σ ρ : ℕ → Term) (x : ℕ) → ¬ Occurs x t → over t σ ρ x ≡ ρ x
over_out t σ ρ x n = go (occurs? x t)
  where
    go : (d : Dec (Occurs x t)) → choose d (σ x) (ρ x) ≡ ρ x
    go (yes p) = absurd (n p)
    go (no f) = refl

over_has : (P : Term → Type 0) (t : Term) (σ ρ : ℕ → Term) (x : ℕ) → (Occurs x t → P (σ x)) → P (ρ x) → P (over t σ ρ x)
over_has P t σ ρ x h k = go (occurs? x t)
  where
    go : (d : Dec (Occurs x t)) → P (choose d (σ x) (ρ x))
    go (yes p) = h p
    go (no f) = k

-- every variable of a term occurs in it
self_vars : (P : ℕ → Type 0) (t : Term) → ((x : ℕ) → Occurs x t → P x) → Vars P t
self_vars P (name n) h = tt
self_vars P (env n) h = tt
self_vars P (var x) h = h x refl
self_vars P (pair a b) h = (self_vars P a (λ x o. h x (inl o)), self_vars P b (λ x o. h x (inr o)))
self_vars P (seal a b) h = (self_vars P a (λ x o. h x (inl o)), self_vars P b (λ x o. h x (inr o)))

under_agree : (ρ σ : ℕ → Term) (a : TermAction) → Vars (λ x. ρ x ≡ σ x) a.term → under ρ a ≡ under σ a
under_agree ρ σ a h = ap (λ (t : Term). record { direction = a.direction; label = a.label; term = t }) (inst_agree ρ σ a.term h)

absent_agree : (ρ σ : ℕ → Term) (o : Option TermAction) (b : TermAction) → EarlierInLater o b → ((x : ℕ) → Occurs x b.term → ρ x ≡ σ x) → (r : List TermAction) → Absent ρ o r → Absent σ o r
absent_agree ρ σ none b w h r ab = tt
absent_agree ρ σ (some a) b w h r ab = λ m. ab (subst (λ (z : TermAction). Memᴰ z r) (sym (under_agree ρ σ a (vars_map (λ x o. h x o) a.term w))) m)

-- valuations that agree on the steps' variables
abbrev Agrees : (ℕ → Term) → (ℕ → Term) → TermStep → Type 0
Agrees ρ σ p = ((x : ℕ) → Binds x p → ρ x ≡ σ x) × Uses (λ x. ρ x ≡ σ x) p

action_agree : (ρ σ : ℕ → Term) (p : TermStep) → Agrees ρ σ p → action ρ p ≡ action σ p
action_agree ρ σ (input l x) h = ap (λ (t : Term). received l t ∷ []) (h.0 x refl)
action_agree ρ σ (output l n) h = ap (λ (t : Term). sent l t ∷ []) (inst_agree ρ σ n h.1)
action_agree ρ σ (opens s x k) h = refl
action_agree ρ σ (splits s x y) h = refl
action_agree ρ σ (same n m) h = refl

fed_agree : (ρ σ : ℕ → Term) (K : List Term) (p : TermStep) → Agrees ρ σ p → FedFrom σ K p → FedFrom ρ K p
fed_agree ρ σ K (input l x) h f = subst (λ (t : Term). Derives K t) (sym (h.0 x refl)) f
fed_agree ρ σ K (output l n) h f = tt
fed_agree ρ σ K (opens s x k) h f = tt
fed_agree ρ σ K (splits s x y) h f = tt
fed_agree ρ σ K (same n m) h f = tt

actions_agree : (ρ σ : ℕ → Term) (ps : List TermStep) → ((p : TermStep) → Memᴰ p ps → Agrees ρ σ p) → actions ρ ps ≡ actions σ ps
actions_agree ρ σ [] h = refl
actions_agree ρ σ (p ∷ ps) h = ap₂ ◌++◌ (action_agree ρ σ p (h p (Memᴰ.head refl))) (actions_agree ρ σ ps (λ q m. h q (Memᴰ.tail m)))

all_fed_agree : (ρ σ : ℕ → Term) (ps : List TermStep) (r : List TermAction) → ((p : TermStep) → Memᴰ p ps → Agrees ρ σ p) → AllFed σ r ps → AllFed ρ r ps
all_fed_agree ρ σ [] r h f = tt
all_fed_agree ρ σ (p ∷ ps) r h f =
    let a = h p (Memᴰ.head refl) in
    (fed_agree ρ σ (messages r) p a f.0, all_fed_agree ρ σ ps (r ++ action ρ p) (λ q m. h q (Memᴰ.tail m)) (subst (λ (z : List TermAction). AllFed σ (r ++ z) ps) (sym (action_agree ρ σ p a)) f.1))

plan_agrees : (S : Protocol) → LawfulProtocol S → (σ ρ : ℕ → Term) {s : List ℕ} {ps : List TermStep} → Plan S nowhere s ps → (p : TermStep) → Memᴰ p ps → Agrees (over S.later.term σ ρ) ρ p
plan_agrees S law σ ρ pl p m =
    let f = plan_from pl p m in (
      (λ x b. over_out S.later.term σ ρ x (λ o. law.free f.0 f.1 p x f.3 b o)),
      uses_map (λ x b. over_out S.later.term σ ρ x (λ o. law.free f.0 b.0 b.1 x b.3 b.4 o)) p (law.used f.0 f.1 p f.3),
    )

pub one_to : (S : Protocol) → LawfulProtocol S → (s : List ℕ) → Breaking S s → (ρ : ℕ → Term) × BreakingSolution S s ρ
one_to S law s (st, g, (σ, before, after, (c, m, e, ab))) =
    let r = run_solves S law s st g in
    let ρ = r.0 in
    let sol = r.1 in
    let β = S.later.term in
    let τ : (ℕ → Term) = over β σ ρ in
    let agree : ((p : TermStep) → Memᴰ p sol.steps → Agrees τ ρ p) = λ p i. plan_agrees S law σ ρ sol.plan p i in
    let there : ((x : ℕ) → Occurs x β → τ x ≡ σ x) = λ x o. over_in β σ ρ x o in (
      τ,
      (
        record { closed = λ x. over_has (λ t. Closed t) β σ ρ x (λ o. c x) (sol.closed x); steps = sol.steps; plan = sol.plan; hold = λ p i. let a = agree p i in holds_agree τ ρ p a.0 a.1 (sol.hold p i); feeds = all_fed_agree τ ρ sol.steps [] agree sol.feeds },
        before,
        after,
        actions_agree τ ρ sol.steps agree ∙ (sym r.2 ∙ (e ∙ ap (λ (a : TermAction). before ++ (a ∷ after)) (sym (under_agree τ σ S.later (self_vars (λ x. τ x ≡ σ x) β there))))),
        absent_agree σ τ S.earlier S.later law.within (λ x o. sym (there x o)) before ab,
      ),
    )

key_message : (t : Term) → Atom t → Message t
key_message (name n) h = tt
key_message (env n) h = tt
key_message (var n) h = tt
key_message (pair a b) h = absurd h
key_message (seal a b) h = absurd h

-- a part of a message is one
pub part_message : (ρ : ℕ → Term) (t : Term) → Message (inst ρ t) → (x : ℕ) → Occurs x t → Message (ρ x)
part_message ρ (name n) h x o = absurd o
part_message ρ (env n) h x o = absurd o
part_message ρ (var y) h x o = subst (λ (z : ℕ). Message (ρ z)) (sym o) h
part_message ρ (pair a b) h x o = elim o [ inl u ↦ part_message ρ a h.0 x u | inr u ↦ part_message ρ b h.1 x u ]
part_message ρ (seal a b) h x o = elim o [ inl u ↦ part_message ρ a h.0 x u | inr u ↦ part_message ρ b (key_message (inst ρ b) h.1) x u ]

action_message : (ρ : ℕ → Term) (p : TermStep) → Holds ρ p → (a : TermAction) → Memᴰ a (action ρ p) → Message a.term
action_message ρ (input l x) h a m = elim (Memᴰ.cases_cons m) [ inl e ↦ subst (λ (z : TermAction). Message z.term) (sym e) h | inr r ↦ absurd (Memᴰ.not-nil r) ]
action_message ρ (output l n) h a m = elim (Memᴰ.cases_cons m) [ inl e ↦ subst (λ (z : TermAction). Message z.term) (sym e) h | inr r ↦ absurd (Memᴰ.not-nil r) ]
action_message ρ (opens s x k) h a m = absurd (Memᴰ.not-nil m)
action_message ρ (splits s x y) h a m = absurd (Memᴰ.not-nil m)
action_message ρ (same n m') h a m = absurd (Memᴰ.not-nil m)

actions_message : (ρ : ℕ → Term) (ps : List TermStep) → AllHold ρ ps → (a : TermAction) → Memᴰ a (actions ρ ps) → Message a.term
actions_message ρ [] h a m = absurd (Memᴰ.not-nil m)
actions_message ρ (p ∷ ps) h a m = elim (Memᴰ.append_cases (action ρ p) m) [ inl l ↦ action_message ρ p (h p (Memᴰ.head refl)) a l | inr r ↦ actions_message ρ ps (λ q i. h q (Memᴰ.tail i)) a r ]

pub one_from : (S : Protocol) → LawfulProtocol S → (s : List ℕ) → (ρ : ℕ → Term) × BreakingSolution S s ρ → Breaking S s
one_from S law s (ρ, (sol, before, after, e, ab)) =
    let r = solution_runs S law s ρ sol in
    let β = S.later.term in
    let σ : (ℕ → Term) = over β ρ (λ x. env 0) in
    let there : ((x : ℕ) → Occurs x β → σ x ≡ ρ x) = λ x o. over_in β ρ (λ y. env 0) x o in
    let msg : Message (inst ρ β) = actions_message ρ sol.steps sol.hold (under ρ S.later) (subst (λ (z : List TermAction). Memᴰ (under ρ S.later) z) (sym e) (Memᴰ.append_right before (Memᴰ.head refl))) in (
      r.0,
      r.1,
      (
        σ,
        before,
        after,
        (
          (λ x. over_has (λ t. Closed t) β ρ (λ y. env 0) x (λ o. sol.closed x) tt),
          (λ x. over_has (λ t. Message t) β ρ (λ y. env 0) x (λ o. part_message ρ β msg x o) tt),
          r.2 ∙ (e ∙ ap (λ (a : TermAction). before ++ (a ∷ after)) (sym (under_agree σ ρ S.later (self_vars (λ x. σ x ≡ ρ x) β there)))),
          absent_agree ρ σ S.earlier S.later law.within (λ x o. sym (there x o)) before ab,
        ),
      ),
    )

pub one_valuation : OneValuation
one_valuation S law s = (one_to S law s, one_from S law s)

-- the order
abbrev Begins : List ℕ → List ℕ → Type 0
Begins s t = (k : ℕ) × (r : List ℕ) × (t ≡ s ++ (k ∷ r))

abbrev Differs : List ℕ → List ℕ → Type 0
Differs s t = (c : List ℕ) × (a : ℕ) × (b : ℕ) × (s' : List ℕ) × (t' : List ℕ) × (s ≡ c ++ (a ∷ s')) × (t ≡ c ++ (b ∷ t')) × (a < b)

told_to : (s t : List ℕ) → s ≺ t → Begins s t ⊎ Differs s t
told_to [] [] h = absurd h
told_to [] (j ∷ t) h = inl (j, t, refl)
told_to (k ∷ s) [] h = absurd h
told_to (k ∷ s) (j ∷ t) (inl l) = inr ([], k, j, s, t, refl, refl, l)
told_to (k ∷ s) (j ∷ t) (inr (e, h)) =
    elim (told_to s t h) [
      | inl b ↦ inl (b.0, b.1, ap₂ ◌∷◌ (sym e) b.2)
      | inr d ↦ inr (k ∷ d.0, d.1, d.2, d.3, d.4, ap (λ (z : List ℕ). k ∷ z) d.5, ap₂ ◌∷◌ (sym e) d.6, d.7)
    ]

pub begin_≺ : (s : List ℕ) (k : ℕ) (r : List ℕ) → s ≺ (s ++ (k ∷ r))
begin_≺ [] k r = tt
begin_≺ (j ∷ s) k r = inr (refl, begin_≺ s k r)

differ_≺ : (c : List ℕ) (a b : ℕ) (s t : List ℕ) → a < b → (c ++ (a ∷ s)) ≺ (c ++ (b ∷ t))
differ_≺ [] a b s t h = inl h
differ_≺ (k ∷ c) a b s t h = inr (refl, differ_≺ c a b s t h)

told_from : (s t : List ℕ) → Begins s t ⊎ Differs s t → s ≺ t
told_from s t (inl (k, r, e)) = subst (λ (z : List ℕ). s ≺ z) (sym e) (begin_≺ s k r)
told_from s t (inr (c, a, b, s', t', e, f, h)) = subst (λ (z : List ℕ). z ≺ t) (sym e) (subst (λ (z : List ℕ). (c ++ (a ∷ s')) ≺ z) (sym f) (differ_≺ c a b s' t' h))

pub order_told : OrderTold
order_told s t = (told_to s t, told_from s t)
