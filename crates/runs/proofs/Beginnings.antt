-- Beginnings of runs, of feasible schedules, and where a break can be.
use Rattle.std.proofs.Common.{◌≡◌, ℕ, ◌⊎◌, List, [], ◌∷◌, ◌++◌, sym, refl, ap, ◌∙◌, subst, ap₂, inl, inr, append_assoc, append-nil}
use mathlib.Core.List.Memᴰ
use mathlib.Core.List.{Memᴰ}
use Rattle.terms.specs.Terms.{Term}
use Rattle.protocol.specs.Strands.{TermStep}
use Rattle.lifting.proofs.Lists.{nil_cons}
use Rattle.runs.specs.Protocols.{TermAction, Protocol}
use Rattle.runs.specs.Runs.{Values, Does, fed, put_out, opened, halved, agreed, State, Moves, moved, Goes, stop, step, Runs, received, sent, under, Breaks}
use Rattle.runs.specs.Schedules.{Plan, done, then, Breaking}
use Rattle.runs.specs.Bridge.{BeginningRuns, BeginningFeasible, BreakingFeasible, BreaksLast}
use Rattle.runs.proofs.Bridging.{run_solves}

pub goes_split : {S : Protocol} (s s' : List ℕ) {st st₂ : State} → Goes S st (s ++ s') st₂ → (st₁ : State) × Goes S st s st₁ × Goes S st₁ s' st₂
goes_split [] s' {st} g = (st, stop refl, g)
goes_split (k ∷ s) s' (step m g) = let r = goes_split s s' g in (r.0, step m r.1, r.2)

pub goes_run : {S : Protocol} {st : State} {s : List ℕ} {st' : State} → Goes S st s st' → (rest : List TermAction) × (st'.run ≡ st.run ++ rest)
goes_run {st = st} (stop e) = ([], ap (λ (z : State). z.run) (sym e) ∙ sym (append-nil st.run))
goes_run (step {st} (moved {more = more} at d) g) = let r = goes_run g in (more ++ r.0, r.1 ∙ append_assoc st.run more r.0)

pub beginning_runs : BeginningRuns
beginning_runs S s s' st g =
    let r = goes_split s s' g in
    let e = goes_run r.2 in
    (r.0, r.1, e.0, e.1)

pub plan_split : {S : Protocol} (s s' : List ℕ) {next : ℕ → ℕ} {ps : List TermStep} → Plan S next (s ++ s') ps → (qs : List TermStep) × (rs : List TermStep) × Plan S next s qs × (ps ≡ qs ++ rs)
plan_split [] s' {ps = ps} pl = ([], ps, done, refl)
plan_split (k ∷ s) s' (then {p = p} at pl) = let r = plan_split s s' pl in (p ∷ r.0, r.1, then at r.2, ap (λ (z : List TermStep). p ∷ z) r.3)

pub beginning_feasible : BeginningFeasible
beginning_feasible S s s' (ps, pl, ρ, c, h) =
    let r = plan_split s s' pl in
    (r.0, r.2, ρ, c, λ p m. h p (subst (λ (z : List TermStep). Memᴰ p z) (sym r.3) (Memᴰ.append_left r.1 m)))

pub breaking_feasible : BreakingFeasible
breaking_feasible S law s (st, g, b) =
    let r = run_solves S law s st g in
    (r.1.steps, r.1.plan, r.0, r.1.closed, r.1.hold)

pub does_adds : {v : Values} {K : List Term} {p : TermStep} {w : Values} {r : List TermAction} → Does v K p w r → (r ≡ []) ⊎ ((a : TermAction) × (r ≡ a ∷ []))
does_adds (fed {l} M c m d) = inr (received l M, refl)
does_adds (put_out {l} {n} {M} e m) = inr (sent l M, refl)
does_adds (opened e f) = inl refl
does_adds (halved e) = inl refl
does_adds (agreed e f) = inl refl

pub last_split : (xs : List TermAction) (a : TermAction) (before : List TermAction) (l : TermAction) (after : List TermAction) → xs ++ (a ∷ []) ≡ before ++ (l ∷ after) → ((after ≡ []) × (xs ≡ before)) ⊎ ((after' : List TermAction) × (xs ≡ before ++ (l ∷ after')))
last_split [] a [] l after e = inl (cc, refl)
last_split [] a (b ∷ bs) l after e = absurd (nil_cons bs l after (cc))
last_split (x ∷ xs) a [] l after e = inr (xs, ap (λ (z : TermAction). z ∷ xs) (cc))
last_split (x ∷ xs) a (b ∷ bs) l after e =
    let first : x ≡ b = cc in
    let rest : xs ++ (a ∷ []) ≡ bs ++ (l ∷ after) = cc in
    elim (last_split xs a bs l after rest) [
      | inl q ↦ inl (q.0, ap₂ ◌∷◌ first q.1)
      | inr q ↦ inr (q.0, ap₂ ◌∷◌ first q.1)
    ]

last_move : (S : Protocol) (s : List ℕ) → ¬ Breaking S s → (st₁ : State) → Runs S s st₁ → {k : ℕ} {st : State} → Moves S st₁ k st → (ρ : ℕ → Term) (before after : List TermAction) → Breaks S ρ before after st.run → (after ≡ []) × (st₁.run ≡ before)
last_move S s n st₁ g (moved {more = more} at d) ρ before after (c, m, e, ab) =
    elim (does_adds d) [
      | inl z ↦ absurd (n (st₁, g, (ρ, before, after, (c, m, sym (append-nil st₁.run) ∙ (ap (λ (r : List TermAction). st₁.run ++ r) (sym z) ∙ e), ab))))
      | inr z ↦ elim (last_split st₁.run z.0 before (under ρ S.later) after (ap (λ (r : List TermAction). st₁.run ++ r) (sym z.1) ∙ e)) [
        | inl q ↦ q
        | inr q ↦ absurd (n (st₁, g, (ρ, before, q.0, (c, m, q.1, ab))))
      ]
    ]

one_move : {S : Protocol} {k : ℕ} {st₁ st : State} → Goes S st₁ (k ∷ []) st → Moves S st₁ k st
one_move {S} {k} {st₁} (step m (stop e)) = subst (λ (z : State). Moves S st₁ k z) e m

pub breaks_last : BreaksLast
breaks_last S s k n st g ρ before after b =
    let r = goes_split s (k ∷ []) g in
    let m = one_move r.2 in
    let q = last_move S s n r.0 r.1 m ρ before after b in
    (q.0, r.0, r.1, m, q.1)
