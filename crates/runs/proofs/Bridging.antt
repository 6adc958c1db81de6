-- Runs are simultaneous solutions, and solutions are run.
use Rattle.std.proofs.Common.{◌≡◌, ℕ, ◌<◌, List, [], ◌∷◌, ◌++◌, sym, refl, ap, ◌∙◌, subst, ap₂, inl, inr, append_assoc, append-nil, lt_of_lt_of_le, not-suc-le-zero, lt_irrefl, lt-suc_self, arith}
use mathlib.Core.Option.{Option, none, some, some-injective}
use mathlib.Core.List.Memᴰ
use lib.ListN.{get_elem?}
use Rattle.terms.specs.Terms.{Term, env, pair, seal, inst, Closed, Message}
use Rattle.protocol.specs.Strands.{TermStep, input, output, opens, splits, same, At, Binds, Uses}
use Rattle.derivation.specs.Derive.{Derives}
use Rattle.runs.specs.Protocols.{TermAction, Protocol, strand, SplitsApart, LawfulProtocol}
use Rattle.runs.specs.Runs.{Values, Means, bind, Does, fed, put_out, opened, halved, agreed, onward, State, messages, moved, Goes, stop, step, received, sent}
use Rattle.runs.specs.Schedules.{Plan, done, then, Holds, AllHold}
use Rattle.runs.specs.Bridge.{action, actions, FedFrom, AllFed, RunSolves, SolutionRuns}
use Rattle.runs.proofs.Values.{Within, Valued, ClosedValues, bind_here, bind_cases, onward_cases, onward_here, onward_more, bind_there, means_inst, inst_means, uses_map, does_binds, does_stays, does_keeps, does_closed}
use Rattle.runs.proofs.Decisions.{binds?}

-- what the steps before the positions bind has a value
abbrev pub Filled : Protocol → (ℕ → ℕ) → Values → Type 0
Filled S next v = (k i : ℕ) (p : TermStep) (x : ℕ) → i < next k → At S.strands k i p → Binds x p → Valued v x

-- and nothing else has
abbrev pub Owned : Protocol → (ℕ → ℕ) → Values → Type 0
Owned S next v = (x : ℕ) → Valued v x → (k : ℕ) × (i : ℕ) × (p : TermStep) × (i < next k) × At S.strands k i p × Binds x p

pub at_unique : (S : Protocol) (k i j m : ℕ) (p q : TermStep) → At S.strands k i p → At S.strands j m q → j ≡ k → m ≡ i → q ≡ p
at_unique S k i j m p q a b e f = some-injective q p (sym b ∙ (ap₂ (λ (c d : ℕ). get_elem? (strand S c) d) e f ∙ a))

pub filled_on : (S : Protocol) (next : ℕ → ℕ) (v w : Values) (K : List Term) (r : List TermAction) (k : ℕ) (p : TermStep) → At S.strands k (next k) p → Does v K p w r → Filled S next v → Filled S (onward next k) w
filled_on S next v w K r k p at d f j i q x h a b =
    elim (onward_cases next k j i h) [
      | inl l ↦ does_stays x d (f j i q x l a b)
      | inr e ↦ does_binds x d (subst (λ (z : TermStep). Binds x z) (at_unique S k (next k) j i p q at a e.0 (e.1 ∙ ap next e.0)) b)
    ]

pub owned_on : (S : Protocol) (next : ℕ → ℕ) (v w : Values) (K : List Term) (r : List TermAction) (k : ℕ) (p : TermStep) → At S.strands k (next k) p → Does v K p w r → Owned S next v → Owned S (onward next k) w
owned_on S next v w K r k p at d f x (M, e) =
    elim (binds? x p) [
      | yes b ↦ (k, next k, p, rw (onward_here next k) (lt-suc_self (next k)), at, b)
      | no n ↦ let o = f x (M, sym (does_keeps x d n) ∙ e) in (o.0, o.1, o.2, lt_of_lt_of_le o.3 (onward_more next k o.0), o.4, o.5)
    ]

-- values never change once bound
kept : (S : Protocol) → LawfulProtocol S → (next : ℕ → ℕ) (v w : Values) (K : List Term) (r : List TermAction) (k : ℕ) (p : TermStep) → At S.strands k (next k) p → Does v K p w r → Owned S next v → (x : ℕ) (M : Term) → v x ≡ some M → w x ≡ some M
kept S law next v w K r k p at d own x M e =
    elim (binds? x p) [
      | yes b ↦ let o = own x (M, e) in let same_place = law.once o.0 k o.1 (next k) o.2 p x o.4 at o.5 b in absurd (lt_irrefl (next k) (subst (λ (i : ℕ). i < next k) same_place.1 (subst (λ (j : ℕ). o.1 < next j) same_place.0 o.3)))
      | no n ↦ does_keeps x d n ∙ e
    ]

goes_keeps : (S : Protocol) → LawfulProtocol S → {st : State} {s : List ℕ} {st' : State} → Goes S st s st' → Owned S st.next st.value → (x : ℕ) (M : Term) → st.value x ≡ some M → st'.value x ≡ some M
goes_keeps S law (stop e) own x M h = subst (λ (z : State). z.value x ≡ some M) e h
goes_keeps S law (step {st} (moved {p} {v} {more} at d) g) own x M h =
    goes_keeps S law g (owned_on S st.next st.value v (messages st.run) more _ p at d own) x M (kept S law st.next st.value v (messages st.run) more _ p at d own x M h)

pub goes_closed : {S : Protocol} {st : State} {s : List ℕ} {st' : State} → Goes S st s st' → ClosedValues st.value → ClosedValues st'.value
goes_closed (stop e) c = subst (λ (z : State). ClosedValues z.value) e c
goes_closed (step (moved at d) g) c = goes_closed g (does_closed c d)

-- what a step did, it satisfies
did_holds : {v : Values} {K : List Term} (ρ : ℕ → Term) → Within v ρ → {p : TermStep} {w : Values} {r : List TermAction} → Does v K p w r → SplitsApart p → Within w ρ → Holds ρ p × FedFrom ρ K p × (r ≡ action ρ p)
did_holds {v} {K} ρ i (fed {l} {x} M c m d) ne o =
    let e : ρ x ≡ M = o x M (bind_here v x M) in
    (subst (λ (t : Term). Message t) (sym e) m, subst (λ (t : Term). Derives K t) (sym e) d, ap (λ (t : Term). received l t ∷ []) (sym e))
did_holds ρ i (put_out {l} {n} {M} e m) ne o =
    let q : inst ρ n ≡ M = means_inst ρ i e in
    (subst (λ (t : Term). Message t) (sym q) m, tt, ap (λ (t : Term). sent l t ∷ []) (sym q))
did_holds {v} ρ i (opened {s} {k} {b} {c} {x} e f) ne o =
    (means_inst ρ i e ∙ ap₂ seal (sym (o x b (bind_here v x b))) (sym (means_inst ρ i f)), tt, refl)
did_holds {v} ρ i (halved {s} {a} {b} {x} {y} e) ne o =
    (means_inst ρ i e ∙ ap₂ pair (sym (o x a (bind_there (bind v x a) y b x ne ∙ bind_here v x a))) (sym (o y b (bind_here (bind v x a) y b))), tt, refl)
did_holds ρ i (agreed e f) ne o = (means_inst ρ i e ∙ sym (means_inst ρ i f), tt, refl)

-- the steps of a run, as one solution
pub record Solved (S : Protocol) (ρ : ℕ → Term) (st : State) (s : List ℕ) (st' : State) : Type 0 where
  pub steps : List TermStep
  pub plan : Plan S st.next s steps
  pub hold : AllHold ρ steps
  pub feeds : AllFed ρ st.run steps
  pub is_run : st'.run ≡ st.run ++ actions ρ steps

hold_cons : (ρ : ℕ → Term) (p : TermStep) (ps : List TermStep) → Holds ρ p → AllHold ρ ps → AllHold ρ (p ∷ ps)
hold_cons ρ p ps h hs q m = elim (Memᴰ.cases_cons m) [ inl e ↦ subst (λ (z : TermStep). Holds ρ z) (sym e) h | inr r ↦ hs q r ]

goes_solved : (S : Protocol) → LawfulProtocol S → (ρ : ℕ → Term) → {st : State} {s : List ℕ} {st' : State} → Goes S st s st' → Owned S st.next st.value → Within st'.value ρ → Solved S ρ st s st'
goes_solved S law ρ {st} (stop e) own w = record { steps = []; plan = done; hold = λ p m. absurd (Memᴰ.not-nil m); feeds = tt; is_run = ap (λ (z : State). z.run) (sym e) ∙ sym (append-nil st.run) }
goes_solved S law ρ (step {st} {k} {s} {st₁} {st₂} (moved {p} {v} {more} at d) g) own w =
    let own₁ = owned_on S st.next st.value v (messages st.run) more k p at d own in
    let after : Within v ρ = λ x M h. w x M (goes_keeps S law g own₁ x M h) in
    let before : Within st.value ρ = λ x M h. after x M (kept S law st.next st.value v (messages st.run) more k p at d own x M h) in
    let here = did_holds ρ before d (law.apart k (st.next k) p at) after in
    let ih = goes_solved S law ρ g own₁ w in
    record {
      steps = p ∷ ih.steps;
      plan = then at ih.plan;
      hold = hold_cons ρ p ih.steps here.0 ih.hold;
      feeds = (here.1, subst (λ (r : List TermAction). AllFed ρ (st.run ++ r) ih.steps) here.2 ih.feeds);
      is_run = ih.is_run ∙ (append_assoc st.run more (actions ρ ih.steps) ∙ ap (λ (r : List TermAction). st.run ++ (r ++ actions ρ ih.steps)) here.2);
    }

abbrev or_else : Option Term → Term
or_else none = env 0
or_else (some M) = M

or_else_closed : (o : Option Term) → ((M : Term) → o ≡ some M → Closed M) → Closed (or_else o)
or_else_closed none h = tt
or_else_closed (some M) h = h M refl

none_some : (M : Term) → ◌≡◌ {A = Option Term} none (some M) → ⊥
none_some M e = grind arith

pub run_solves : RunSolves
run_solves S law s st g =
    let ρ : (ℕ → Term) = λ x. or_else (st.value x) in
    let r = goes_solved S law ρ g (λ x h. absurd (none_some h.0 h.1)) (λ x M e. ap or_else e) in
    let c : ClosedValues st.value = goes_closed g (λ x M e. absurd (none_some M e)) in
    (ρ, record { closed = λ x. or_else_closed (st.value x) (c x); steps = r.steps; plan = r.plan; hold = r.hold; feeds = r.feeds }, r.is_run)

bind_within : (v : Values) (ρ : ℕ → Term) (x : ℕ) → Within v ρ → Within (bind v x (ρ x)) ρ
bind_within v ρ x w y N e = elim (bind_cases v x (ρ x) y N e) [ inl q ↦ ap ρ q.0 ∙ q.1 | inr q ↦ w y N q ]

-- a satisfied step can be done
can_do : (v : Values) (K : List Term) (ρ : ℕ → Term) → ((x : ℕ) → Closed (ρ x)) → Within v ρ → (p : TermStep) → Uses (Valued v) p → Holds ρ p → FedFrom ρ K p → (w : Values) × Does v K p w (action ρ p) × Within w ρ
can_do v K ρ c i (input l x) u h f = (bind v x (ρ x), fed (ρ x) (c x) h f, bind_within v ρ x i)
can_do v K ρ c i (output l n) u h f = (v, put_out (inst_means v ρ i n u) h, i)
can_do v K ρ c i (opens s x k) u h f = (bind v x (ρ x), opened (subst (λ (t : Term). Means v s t) h (inst_means v ρ i s u.0)) (inst_means v ρ i k u.1), bind_within v ρ x i)
can_do v K ρ c i (splits s x y) u h f = (bind (bind v x (ρ x)) y (ρ y), halved (subst (λ (t : Term). Means v s t) h (inst_means v ρ i s u)), bind_within (bind v x (ρ x)) ρ y (bind_within v ρ x i))
can_do v K ρ c i (same n m) u h f = (v, agreed (subst (λ (t : Term). Means v n t) h (inst_means v ρ i n u.0)) (inst_means v ρ i m u.1), i)

plan_runs : (S : Protocol) → LawfulProtocol S → (ρ : ℕ → Term) → ((x : ℕ) → Closed (ρ x)) → {next : ℕ → ℕ} {s : List ℕ} {ps : List TermStep} → Plan S next s ps → (v : Values) (r : List TermAction) → Filled S next v → Within v ρ → AllHold ρ ps → AllFed ρ r ps → (st : State) × Goes S (record { next = next; value = v; run = r }) s st × (st.run ≡ r ++ actions ρ ps)
plan_runs S law ρ c {next} done v r f w h fs = (record { next = next; value = v; run = r }, stop refl, sym (append-nil r))
plan_runs S law ρ c (then {next} {k} {p} {s} {ps} at pl) v r f w h fs =
    let u : Uses (Valued v) p = uses_map (λ y b. f k b.0 b.1 y b.2 b.3 b.4) p (law.used k (next k) p at) in
    let now = can_do v (messages r) ρ c w p u (h p (Memᴰ.head refl)) fs.0 in
    let ih = plan_runs S law ρ c pl now.0 (r ++ action ρ p) (filled_on S next v now.0 (messages r) (action ρ p) k p at now.1 f) now.2 (λ q m. h q (Memᴰ.tail m)) fs.1 in
    (ih.0, step (moved at now.1) ih.1, ih.2 ∙ append_assoc r (action ρ p) (actions ρ ps))

pub solution_runs : SolutionRuns
solution_runs S law s ρ sol = plan_runs S law ρ sol.closed sol.plan (λ x. none) [] (λ k i p x h a b. absurd (not-suc-le-zero h)) (λ x M e. absurd (none_some M e)) sol.hold sol.feeds

-- the steps of a schedule are one list
pub plan_unique : {S : Protocol} {next : ℕ → ℕ} {s : List ℕ} {ps : List TermStep} → Plan S next s ps → (qs : List TermStep) → Plan S next s qs → ps ≡ qs
plan_unique done qs pl = none_left pl
  where
    none_left : {S : Protocol} {next : ℕ → ℕ} {qs : List TermStep} → Plan S next [] qs → [] ≡ qs
    none_left done = refl
plan_unique {S} (then {next} {k} {p} {s} {ps} at pl) qs pl' = go pl' (λ rs r. plan_unique pl rs r)
  where
    go : {qs : List TermStep} → Plan S next (k ∷ s) qs → ((rs : List TermStep) → Plan S (onward next k) s rs → ps ≡ rs) → p ∷ ps ≡ qs
    go (then {p = q} {ps = rs} at' r) ih = ap₂ ◌∷◌ (at_unique S k (next k) k (next k) q p at' at refl refl) (ih rs r)
