-- What shows a verdict: all strands satisfied at once, no step like the later action, a kept secret, a solution that breaks.
use Rattle.std.proofs.Common.{◌≡◌, ℕ, zero, suc, ◌<◌, ◌≤◌, List, [], ◌∷◌, ◌++◌, length, get_or, take, sym, refl, ap, ◌∙◌, subst, inl, inr, append_assoc, append-nil, arith}
use mathlib.Core.List.Memᴰ
use mathlib.Core.List.{Memᴰ}
use lib.ListN.{get_or-eq_default}
use Rattle.terms.specs.Terms.{Term, inst, Closed}
use Rattle.protocol.specs.Strands.{TermStep, input, output, opens, splits, same, At}
use Rattle.protocol.specs.declared.step.Direction.TheVariants.{Input, Output}
use Rattle.derivation.specs.Derive.{Derives}
use Rattle.runs.specs.Protocols.{TermAction, Protocol, strand, LawfulProtocol}
use Rattle.runs.specs.Runs.{State, Runs, messages, received, sent, under, Broken, nowhere}
use Rattle.runs.specs.Schedules.{Plan, Holds, AllHold, Breaking, Listing, NoneBreaking, FirstBreaking, holds, broken}
use Rattle.runs.specs.Bridge.{action, actions, FedFrom, AllFed, Solution}
use Rattle.runs.specs.Apart.{mentions, Longest}
use Rattle.runs.specs.Words.{words, total}
use Rattle.runs.specs.Replies.{AtEveryBudget}
use Rattle.runs.proofs.Bridging.{run_solves, solution_runs, plan_unique}
use Rattle.runs.proofs.Apartness.{plan_from}
use Rattle.runs.proofs.Wording.{words_listed}
use Rattle.runs.proofs.Replying.{one_word}

-- every step of the strand is satisfied; of all strands
abbrev pub Each : (ℕ → Term) → List TermStep → Type 0
Each ρ [] = Unit {0}
Each ρ (p ∷ ps) = Holds ρ p × Each ρ ps

abbrev pub Every : (ℕ → Term) → List (List TermStep) → Type 0
Every ρ [] = Unit {0}
Every ρ (l ∷ ls) = Each ρ l × Every ρ ls

pub each_hold : (ρ : ℕ → Term) (ps : List TermStep) → Each ρ ps → AllHold ρ ps
each_hold ρ [] h p m = absurd (Memᴰ.not-nil m)
each_hold ρ (q ∷ ps) h p m = elim (Memᴰ.cases_cons m) [ inl e ↦ subst (λ (z : TermStep). Holds ρ z) (sym e) h.0 | inr r ↦ each_hold ρ ps h.1 p r ]

every_hold : (ρ : ℕ → Term) (ls : List (List TermStep)) → Every ρ ls → (k : ℕ) → AllHold ρ (get_or ls k [])
every_hold ρ [] h k p m = absurd (Memᴰ.not-nil m)
every_hold ρ (l ∷ ls) h zero p m = each_hold ρ l h.0 p m
every_hold ρ (l ∷ ls) h (suc k) p m = every_hold ρ ls h.1 k p m

take_in : (n : ℕ) (l : List TermStep) (p : TermStep) → Memᴰ p (take n l) → Memᴰ p l
take_in zero l p m = absurd (Memᴰ.not-nil m)
take_in (suc n) [] p m = m
take_in (suc n) (q ∷ l) p m = elim (Memᴰ.cases_cons m) [ inl e ↦ Memᴰ.head e | inr r ↦ Memᴰ.tail (take_in n l p r) ]

abbrev pub whole : Protocol → ℕ → ℕ
whole S k = length (strand S k)

-- one valuation for all strands: each is feasible to its end
pub whole_longest : (S : Protocol) (ρ : ℕ → Term) → ((x : ℕ) → Closed (ρ x)) → Every ρ S.strands → Longest S (whole S)
whole_longest S ρ c h k = ((omega arith, ρ, c, λ p m. every_hold ρ S.strands h k p (take_in (whole S k) (strand S k) p m)), λ o. let l = o.0 in omega arith)

beyond_whole : (S : Protocol) (k : ℕ) → length S.strands ≤ k → whole S k ≡ 0
beyond_whole S k h = ap length (get_or-eq_default S.strands [] h)

abbrev pub whole_words : Protocol → List (List ℕ)
whole_words S = words (total (length S.strands) (whole S)) (length S.strands) (whole S)

pub whole_listing : (S : Protocol) → LawfulProtocol S → (ρ : ℕ → Term) → ((x : ℕ) → Closed (ρ x)) → Every ρ S.strands → Listing S (whole_words S)
whole_listing S law ρ c h = words_listed S law (whole S) (whole_longest S ρ c h) (length S.strands) (total (length S.strands) (whole S)) (beyond_whole S) (omega arith)

-- the reply, at every budget
pub holds_by : (S : Protocol) (L : List (List ℕ)) → Listing S L → NoneBreaking S L → AtEveryBudget S (length L) (holds (length L))
holds_by S L a n = (one_word S (length L) (length L)).0 (L, a, refl, omega arith, n)

pub broken_by : (S : Protocol) (L : List (List ℕ)) → Listing S L → (c : ℕ) → FirstBreaking S L c → AtEveryBudget S c (broken c)
broken_by S L a c f = (one_word S c c).1 (L, a, f, omega arith)

-- the step's action has the direction and the label
abbrev pub Like : TermAction → TermStep → Type 0
Like a (input l x) = (a.direction ≡ Input) × (a.label ≡ l)
Like a (output l n) = (a.direction ≡ Output) × (a.label ≡ l)
Like a (opens s x k) = ⊥
Like a (splits s x y) = ⊥
Like a (same n m) = ⊥

action_like : (ρ : ℕ → Term) (p : TermStep) (a : TermAction) → Memᴰ a (action ρ p) → Like a p
action_like ρ (input l x) a m = elim (Memᴰ.cases_cons m) [ inl e ↦ (ap (λ (z : TermAction). z.direction) e, ap (λ (z : TermAction). z.label) e) | inr r ↦ absurd (Memᴰ.not-nil r) ]
action_like ρ (output l n) a m = elim (Memᴰ.cases_cons m) [ inl e ↦ (ap (λ (z : TermAction). z.direction) e, ap (λ (z : TermAction). z.label) e) | inr r ↦ absurd (Memᴰ.not-nil r) ]
action_like ρ (opens s x k) a m = Memᴰ.not-nil m
action_like ρ (splits s x y) a m = Memᴰ.not-nil m
action_like ρ (same n m') a m = Memᴰ.not-nil m

actions_from : (ρ : ℕ → Term) (ps : List TermStep) (a : TermAction) → Memᴰ a (actions ρ ps) → (p : TermStep) × Memᴰ p ps × Like a p
actions_from ρ [] a m = absurd (Memᴰ.not-nil m)
actions_from ρ (p ∷ ps) a m =
    elim (Memᴰ.append_cases (action ρ p) m) [
      | inl l ↦ (p, Memᴰ.head refl, action_like ρ p a l)
      | inr r ↦ let q = actions_from ρ ps a r in (q.0, Memᴰ.tail q.1, q.2)
    ]

like_later : (σ : ℕ → Term) (a : TermAction) (p : TermStep) → Like (under σ a) p → Like a p
like_later σ a (input l x) h = h
like_later σ a (output l n) h = h
like_later σ a (opens s x k) h = h
like_later σ a (splits s x y) h = h
like_later σ a (same n m) h = h

-- a breaking schedule has performed a step like the later action
pub has_like : (S : Protocol) → LawfulProtocol S → (s : List ℕ) → Breaking S s → (k : ℕ) × (i : ℕ) × (p : TermStep) × (i < mentions k s) × At S.strands k i p × Like S.later p
has_like S law s (st, g, (σ, before, after, (c, m, e, ab))) =
    let r = run_solves S law s st g in
    let sol = r.1 in
    let q = actions_from r.0 sol.steps (under σ S.later) (subst (λ (z : List TermAction). Memᴰ (under σ S.later) z) (sym e ∙ r.2) (Memᴰ.append_right before (Memᴰ.head refl))) in
    let f = plan_from sol.plan q.0 q.1 in
    let l = f.2 in
    (f.0, f.1, q.0, omega arith, f.3, like_later σ S.later q.0 q.2)

-- what no derivation leaves and every output keeps holds of the whole run
all_keep : (P : Term → Type 0) → ((K : List Term) → ((u : Term) → Memᴰ u K → P u) → (t : Term) → Derives K t → P t) → (ρ : ℕ → Term) (ps : List TermStep) → ((l : ℕ) (n : Term) → Memᴰ (output l n) ps → P (inst ρ n)) → (r : List TermAction) → AllFed ρ r ps → ((a : TermAction) → Memᴰ a r → P a.term) → (a : TermAction) → Memᴰ a (r ++ actions ρ ps) → P a.term
all_keep P der ρ [] out r f h a m = h a (subst (λ (z : List TermAction). Memᴰ a z) (append-nil r) m)
all_keep P der ρ (p ∷ ps) out r f h a m =
    all_keep P der ρ ps (λ l n i. out l n (Memᴰ.tail i)) (r ++ action ρ p) f.1 (λ b i. elim (Memᴰ.append_cases r i) [ inl j ↦ h b j | inr j ↦ here p f.0 (λ l n q. out l n (Memᴰ.head q)) b j ]) a (subst (λ (z : List TermAction). Memᴰ a z) (sym (append_assoc r (action ρ p) (actions ρ ps))) m)
  where
    known : (u : Term) → Memᴰ u (messages r) → P u
    known u i = let q = Memᴰ.of_map (λ (b : TermAction). b.term) r i in subst P q.2 (h q.0 q.1)

    one : (b c : TermAction) → Memᴰ b (c ∷ []) → P c.term → P b.term
    one b c i q = elim (Memᴰ.cases_cons i) [ inl e ↦ subst (λ (z : TermAction). P z.term) (sym e) q | inr j ↦ absurd (Memᴰ.not-nil j) ]

    here : (q : TermStep) → FedFrom ρ (messages r) q → ((l : ℕ) (n : Term) → output l n ≡ q → P (inst ρ n)) → (b : TermAction) → Memᴰ b (action ρ q) → P b.term
    here (input l x) g o b i = one b (received l (ρ x)) i (der (messages r) known (ρ x) g)
    here (output l n) g o b i = one b (sent l (inst ρ n)) i (o l n refl)
    here (opens s x k) g o b i = absurd (Memᴰ.not-nil i)
    here (splits s x y) g o b i = absurd (Memᴰ.not-nil i)
    here (same n m) g o b i = absurd (Memᴰ.not-nil i)

pub run_keeps : (S : Protocol) → LawfulProtocol S → (P : Term → Type 0) → ((K : List Term) → ((u : Term) → Memᴰ u K → P u) → (t : Term) → Derives K t → P t) → ((k i l : ℕ) (n : Term) (ρ : ℕ → Term) → At S.strands k i (output l n) → P (inst ρ n)) → (s : List ℕ) (st : State) → Runs S s st → (a : TermAction) → Memᴰ a st.run → P a.term
run_keeps S law P der out s st g a m =
    let r = run_solves S law s st g in
    let sol = r.1 in
    all_keep P der r.0 sol.steps (λ l n i. let f = plan_from sol.plan (output l n) i in out f.0 f.1 l n r.0 f.3) [] sol.feeds (λ b i. absurd (Memᴰ.not-nil i)) a (subst (λ (z : List TermAction). Memᴰ a z) r.2 m)

-- a solution whose actions break the property
pub breaks_by : (S : Protocol) → LawfulProtocol S → (s : List ℕ) (ρ : ℕ → Term) (sol : Solution S s ρ) → Broken S (actions ρ sol.steps) → Breaking S s
breaks_by S law s ρ sol b =
    let r = solution_runs S law s ρ sol in
    (r.0, r.1, subst (λ (z : List TermAction). Broken S z) (sym r.2) b)

-- all steps like the later action are at place i₀ or after it of strand k₀
pub no_like : (S : Protocol) → LawfulProtocol S → (k₀ i₀ : ℕ) → ((k i : ℕ) (p : TermStep) → At S.strands k i p → Like S.later p → (k ≡ k₀) × (i₀ ≤ i)) → (s : List ℕ) → mentions k₀ s ≤ i₀ → ¬ Breaking S s
no_like S law k₀ i₀ h s l b =
    let q = has_like S law s b in
    let c = h q.0 q.1 q.2 q.4 q.5 in
    let d : q.1 < mentions k₀ s = subst (λ (j : ℕ). q.1 < mentions j s) c.0 q.3 in
    let e = c.1 in
    omega arith

pub never_like : (S : Protocol) → LawfulProtocol S → ((k i : ℕ) (p : TermStep) → At S.strands k i p → Like S.later p → ⊥) → (s : List ℕ) → ¬ Breaking S s
never_like S law h s b = let q = has_like S law s b in h q.0 q.1 q.2 q.4 q.5

-- what a breaking schedule says of its steps
pub record Break (S : Protocol) (ps : List TermStep) : Type 0 where
  pub ρ : ℕ → Term
  pub σ : ℕ → Term
  pub hold : AllHold ρ ps
  pub feeds : AllFed ρ [] ps
  pub before : List TermAction
  pub after : List TermAction
  pub place : actions ρ ps ≡ before ++ (under σ S.later ∷ after)

pub break_of : (S : Protocol) → LawfulProtocol S → (s : List ℕ) (ps : List TermStep) → Plan S nowhere s ps → Breaking S s → Break S ps
break_of S law s ps pl (st, g, (σ, before, after, (c, m, e, ab))) =
    let r = run_solves S law s st g in
    let sol = r.1 in
    let q : sol.steps ≡ ps = plan_unique sol.plan ps pl in
    record {
      ρ = r.0;
      σ = σ;
      hold = subst (λ (z : List TermStep). AllHold r.0 z) q sol.hold;
      feeds = subst (λ (z : List TermStep). AllFed r.0 [] z) q sol.feeds;
      before = before;
      after = after;
      place = ap (λ (z : List TermStep). actions r.0 z) (sym q) ∙ (sym r.2 ∙ e);
    }
