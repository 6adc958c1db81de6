-- Fitting finds the one way to meet a term, so it decides whether a run is broken.
use Rattle.std.proofs.Common.{◌≡◌, ℕ, Bool, true, false, cond, T, ◌⊎◌, List, [], ◌∷◌, ◌++◌, sym, refl, ap, ap₂, ◌∙◌, subst, inl, inr, arith}
use mathlib.Core.Option.{Option, none, some, some-injective}
use mathlib.Core.List.Memᴰ
use mathlib.Core.List.{Memᴰ}
use native.Mathlib.Decide.{ℕ_discrete}
use Rattle.terms.specs.Terms.{Term, name, env, var, pair, seal, inst, Closed, Message, Atom, Occurs, Vars}
use Rattle.terms.proofs.Equality.{term_discrete}
use Rattle.protocol.specs.declared.step.Direction.{Direction}
use Rattle.protocol.specs.declared.step.Direction.TheVariants.{Input, Output}
use Rattle.lifting.specs.Same.{same?}
use Rattle.lifting.proofs.Comparing.{same→eq, eq→same}
use Rattle.lifting.proofs.Instances.{vars_at, vars_map}
use Rattle.lifting.proofs.Lists.{none_some, nil_cons}
use Rattle.runs.specs.Protocols.{TermAction, Protocol, EarlierInLater}
use Rattle.runs.specs.Runs.{Values, Means, a_name, an_env, a_value, a_pair, a_seal, bind, under, Absent, Broken}
use Rattle.runs.proofs.Values.{is_true, bind_here, bind_cases, bind_there, Valued, means_inst, inst_means}
use Rattle.runs.proofs.Decisions.{by_iff, both?, not?, implies?, vars?}
use Rattle.playing.specs.Judging.{unvalued, give, onto, fit, Within, FitFinds, FitAdds, FitTells, NoEarlier, Judged, JudgedBroken, ClosedRun, JudgedByFitting, VerdictDecided}

-- the values w are v's and perhaps more
abbrev Keeps : Values → Values → Type 0
Keeps v w = (x : ℕ) (N : Term) → v x ≡ some N → w x ≡ some N

abbrev Only : Values → Term → Values → Type 0
Only v t w = (x : ℕ) (N : Term) → w x ≡ some N → (v x ≡ some N) ⊎ Occurs x t

-- what fitting finds
abbrev Found : Values → Term → Term → Values → Type 0
Found v t M w = Keeps v w × Means w t M × Only v t w

-- a test that found something
pub tested : (b : Bool) (v w : Values) → cond b (some v) none ≡ some w → T b × (v ≡ w)
tested true v w e = (tt, some-injective v w e)
tested false v w e = absurd (none_some w e)

pub onto_some : (o : Option Values) (f : Values → Option Values) (w : Values) → onto o f ≡ some w → (u : Values) × (o ≡ some u) × (f u ≡ some w)
onto_some none f w e = absurd (none_some w e)
onto_some (some u) f w e = (u, refl, e)

means_keeps : {v w : Values} → Keeps v w → {t M : Term} → Means v t M → Means w t M
means_keeps k (a_name n) = a_name n
means_keeps k (an_env n) = an_env n
means_keeps k (a_value {x} {M} e) = a_value (k x M e)
means_keeps k (a_pair a b) = a_pair (means_keeps k a) (means_keeps k b)
means_keeps k (a_seal a b) = a_seal (means_keeps k a) (means_keeps k b)

means_valued : {v : Values} {t M : Term} → Means v t M → Vars (Valued v) t
means_valued (a_name n) = tt
means_valued (an_env n) = tt
means_valued (a_value {x} {M} e) = (M, e)
means_valued (a_pair a b) = (means_valued a, means_valued b)
means_valued (a_seal a b) = (means_valued a, means_valued b)

-- nothing is found but the values
found_same : (v : Values) (t M : Term) (w : Values) → Means v t M → v ≡ w → Found v t M w
found_same v t M w m e = subst (Found v t M) e ((λ x N h. h), m, λ x N h. inl h)

give_found : (o : Option Term) (v : Values) (x : ℕ) (M : Term) (w : Values) → v x ≡ o → give o v x M ≡ some w → Found v (var x) M w
give_found none v x M w n e =
    subst
    (Found v (var x) M)
    (some-injective (bind v x M) w e) (
      (λ y N h. bind_there v x M y (λ q. none_some N (sym n ∙ ap v (sym q) ∙ h)) ∙ h),
      a_value (bind_here v x M),
      λ y N h. elim (bind_cases v x M y N h) [ inl q ↦ inr q.0 | inr q ↦ inl q ],
    )
give_found (some N) v x M w n e = let h = tested (same? N M) v w e in found_same v (var x) M w (a_value (n ∙ ap some (same→eq N M h.0))) h.1

keeps_both : {u v w : Values} → Keeps u v → Keeps v w → Keeps u w
keeps_both f g x N h = g x N (f x N h)

only_both : {u v w : Values} (a b : Term) → Only u a v → Only v b w → (x : ℕ) (N : Term) → w x ≡ some N → (u x ≡ some N) ⊎ (Occurs x a ⊎ Occurs x b)
only_both a b f g x N h = elim (g x N h) [ inr q ↦ inr (inr q) | inl q ↦ elim (f x N q) [ inl p ↦ inl p | inr p ↦ inr (inl p) ] ]

fit_found : (t M : Term) (v w : Values) → fit v t M ≡ some w → Found v t M w
fit_found (name n) M v w e = let h = tested (same? (name n) M) v w e in found_same v (name n) M w (subst (Means v (name n)) (same→eq (name n) M h.0) (a_name n)) h.1
fit_found (env n) M v w e = let h = tested (same? (env n) M) v w e in found_same v (env n) M w (subst (Means v (env n)) (same→eq (env n) M h.0) (an_env n)) h.1
fit_found (var x) M v w e = give_found (v x) v x M w refl e
fit_found (pair a b) (name n) v w e = absurd (none_some w e)
fit_found (pair a b) (env n) v w e = absurd (none_some w e)
fit_found (pair a b) (var x) v w e = absurd (none_some w e)
fit_found (pair a b) (pair A B) v w e =
    let h = onto_some (fit v a A) (λ u. fit u b B) w e in
    let p = fit_found a A v h.0 h.1 in
    let q = fit_found b B h.0 w h.2 in
    (keeps_both p.0 q.0, a_pair (means_keeps q.0 p.1) q.1, only_both a b p.2 q.2)
fit_found (pair a b) (seal B K) v w e = absurd (none_some w e)
fit_found (seal b k) (name n) v w e = absurd (none_some w e)
fit_found (seal b k) (env n) v w e = absurd (none_some w e)
fit_found (seal b k) (var x) v w e = absurd (none_some w e)
fit_found (seal b k) (pair A B) v w e = absurd (none_some w e)
fit_found (seal b k) (seal B K) v w e =
    let h = onto_some (fit v b B) (λ u. fit u k K) w e in
    let p = fit_found b B v h.0 h.1 in
    let q = fit_found k K h.0 w h.2 in
    (keeps_both p.0 q.0, a_seal (means_keeps q.0 p.1) q.1, only_both b k p.2 q.2)

pub same_true : (s t : Term) → s ≡ t → same? s t ≡ true
same_true s t e = is_true (same? s t) (eq→same s t e)

give_fits : (o : Option Term) (v : Values) (x : ℕ) (ρ : ℕ → Term) → v x ≡ o → Within v ρ → (w : Values) × (give o v x (ρ x) ≡ some w) × Within w ρ
give_fits none v x ρ n h = (bind v x (ρ x), refl, λ y N e. elim (bind_cases v x (ρ x) y N e) [ inl q ↦ ap ρ q.0 ∙ q.1 | inr q ↦ h y N q ])
give_fits (some N) v x ρ n h = (v, ap (λ (b : Bool). cond b (some v) none) (same_true N (ρ x) (sym (h x N n))), h)

-- an instance is fitted, and to the valuation's values
inst_fits : (ρ : ℕ → Term) (t : Term) (v : Values) → Within v ρ → (w : Values) × (fit v t (inst ρ t) ≡ some w) × Within w ρ
inst_fits ρ (name n) v h = (v, ap (λ (b : Bool). cond b (some v) none) (same_true (name n) (name n) refl), h)
inst_fits ρ (env n) v h = (v, ap (λ (b : Bool). cond b (some v) none) (same_true (env n) (env n) refl), h)
inst_fits ρ (var x) v h = give_fits (v x) v x ρ refl h
inst_fits ρ (pair a b) v h =
    let p = inst_fits ρ a v h in
    let q = inst_fits ρ b p.0 p.2 in
    (q.0, ap (λ (o : Option Values). onto o (λ u. fit u b (inst ρ b))) p.1 ∙ q.1, q.2)
inst_fits ρ (seal b k) v h =
    let p = inst_fits ρ b v h in
    let q = inst_fits ρ k p.0 p.2 in
    (q.0, ap (λ (o : Option Values). onto o (λ u. fit u k (inst ρ k))) p.1 ∙ q.1, q.2)

-- the value, or a name where there is none
abbrev or_name : Option Term → Term
or_name none = name 0
or_name (some M) = M

abbrev pub total : Values → ℕ → Term
total w x = or_name (w x)

pub total_within : (w : Values) → Within w (total w)
total_within w x M e = ap or_name e

pub fit_finds : FitFinds
fit_finds v t M = (
  (λ f. let h = fit_found t M v f.0 f.1 in (total f.0, (λ x N e. total_within f.0 x N (h.0 x N e)), means_inst (total f.0) (total_within f.0) h.1)),
  (λ f. let h = inst_fits f.0 t v f.1 in (h.0, subst (λ (N : Term). fit v t N ≡ some h.0) f.2 h.1)),
)

pub fit_adds : FitAdds
fit_adds v t M w e = let h = fit_found t M v w e in (h.0, (λ x o. vars_at (Valued w) x t (means_valued h.1) o), h.2)

fit_within : (v : Values) (t M : Term) (w : Values) → fit v t M ≡ some w → (ρ : ℕ → Term) → Within v ρ → inst ρ t ≡ M → Within w ρ
fit_within v t M w e ρ h i =
    let f = inst_fits ρ t v h in
    subst (λ (u : Values). Within u ρ) (some-injective f.0 w (sym f.1 ∙ ap (fit v t) i ∙ e)) f.2

pub fit_tells : FitTells
fit_tells v t M w e = ((fit_found t M v w e).1, fit_within v t M w e)

-- a closed message
abbrev Said : Term → Type 0
Said t = Closed t × Message t

atom_message : (k : Term) → Atom k → Message k
atom_message (name n) h = tt
atom_message (env n) h = tt
atom_message (var x) h = tt
atom_message (pair a b) h = absurd h
atom_message (seal a b) h = absurd h

-- the values of a term whose value is a closed message are such
means_said : {w : Values} {t M : Term} → Means w t M → Closed M → Message M → Vars (λ x. (N : Term) → w x ≡ some N → Said N) t
means_said (a_name n) c m = tt
means_said (an_env n) c m = tt
means_said (a_value {x} {M} e) c m = λ N f. subst Said (some-injective M N (sym e ∙ f)) (c, m)
means_said (a_pair a b) c m = (means_said a c.0 m.0, means_said b c.1 m.1)
means_said (a_seal {K = K} a b) c m = (means_said a c.0 m.0, means_said b c.1 (atom_message K m.1))

or_name_said : (o : Option Term) → ((N : Term) → o ≡ some N → Said N) → Said (or_name o)
or_name_said none h = (tt, tt)
or_name_said (some M) h = h M refl

found_said : (t M : Term) (w : Values) → fit unvalued t M ≡ some w → Said M → (x : ℕ) → Said (total w x)
found_said t M w e s x =
    let h = fit_found t M unvalued w e in
    or_name_said (w x) (λ N f. elim (h.2 x N f) [ inl q ↦ absurd (none_some N q) | inr o ↦ vars_at (λ y. (L : Term) → w y ≡ some L → Said L) x t (means_said h.1 s.0 s.1) o N f ])

same_action : (a b : TermAction) → a.direction ≡ b.direction → a.label ≡ b.label → a.term ≡ b.term → a ≡ b
same_action a b d l t = ap₂ (λ (x : Direction) (y : ℕ). record { direction = x; label = y; term = a.term }) d l ∙ ap (λ (z : Term). record { direction = b.direction; label = b.label; term = z }) t

no_earlier : (ρ : ℕ → Term) (w : Values) → Within w ρ → (o : Option TermAction) (r : List TermAction) → Absent ρ o r → NoEarlier w o r
no_earlier ρ w h none r ab = tt
no_earlier ρ w h (some e) r ab = λ b m d l k. ab (subst (λ (z : TermAction). Memᴰ z r) (same_action b (under ρ e) d l (sym (means_inst ρ h k))) m)

earlier_absent : (ρ : ℕ → Term) (w : Values) → Within w ρ → (o : Option TermAction) (b : TermAction) → EarlierInLater o b → Vars (Valued w) b.term → (r : List TermAction) → NoEarlier w o r → Absent ρ o r
earlier_absent ρ w h none b i v r n = tt
earlier_absent ρ w h (some e) b i v r n = λ m. n (under ρ e) m refl refl (inst_means w ρ h e.term (vars_map (λ x o. vars_at (Valued w) x b.term v o) e.term i))

broken_judged : (S : Protocol) (r : List TermAction) → Broken S r → JudgedBroken S r
broken_judged S r (ρ, before, after, (c, m, e, ab)) =
    let f = inst_fits ρ S.later.term unvalued (λ x M q. absurd (none_some M q)) in
    (before, under ρ S.later, after, e, (f.0, refl, refl, f.1, no_earlier ρ f.0 f.2 S.earlier before ab))

mem_middle : (before : List TermAction) (a : TermAction) (after : List TermAction) → Memᴰ a (before ++ (a ∷ after))
mem_middle [] a after = Memᴰ.head refl
mem_middle (b ∷ before) a after = Memᴰ.tail (mem_middle before a after)

judged_broken : (S : Protocol) (r : List TermAction) → EarlierInLater S.earlier S.later → ClosedRun r → JudgedBroken S r → Broken S r
judged_broken S r i c (before, a, after, e, (w, d, l, f, n)) =
    let k = total_within w in
    let h = fit_found S.later.term a.term unvalued w f in
    let s = found_said S.later.term a.term w f (c a (subst (λ (z : List TermAction). Memᴰ a z) (sym e) (mem_middle before a after))) in
    let q : a ≡ under (total w) S.later = same_action a (under (total w) S.later) d l (sym (means_inst (total w) k h.1)) in (
      total w,
      before,
      after,
      (
        (λ x. (s x).0),
        (λ x. (s x).1),
        subst (λ (z : TermAction). r ≡ before ++ (z ∷ after)) q e,
        earlier_absent (total w) w k S.earlier S.later i (means_valued h.1) before n,
      ),
    )

pub judged_by_fitting : JudgedByFitting
judged_by_fitting S r i c = (broken_judged S r, judged_broken S r i c)

direction? : (a b : Direction) → Dec (a ≡ b)
direction? Input Input = yes refl
direction? Input Output = no (λ e. grind arith)
direction? Output Input = no (λ e. grind arith)
direction? Output Output = yes refl

valued? : (o : Option Term) → Dec ((M : Term) × (o ≡ some M))
valued? none = no (λ h. none_some h.0 h.1)
valued? (some M) = yes (M, refl)

means? : (w : Values) (t M : Term) → Dec (Means w t M)
means? w t M =
    by_iff
    (λ h. subst (Means w t) h.1 (inst_means w (total w) (total_within w) t h.0))
    (λ h. (means_valued h, means_inst (total w) (total_within w) h))
    (both? (vars? (Valued w) (λ x. valued? (w x)) t) (term_discrete (inst (total w) t) M))

all_in? : (P : TermAction → Type 0) → ((b : TermAction) → Dec (P b)) → (r : List TermAction) → Dec ((b : TermAction) → Memᴰ b r → P b)
all_in? P d [] = yes (λ b m. absurd (Memᴰ.not-nil m))
all_in? P d (a ∷ r) =
    by_iff
    (λ h b m. elim (Memᴰ.cases_cons m) [ inl e ↦ subst P (sym e) h.0 | inr k ↦ h.1 b k ])
    (λ h. (h a (Memᴰ.head refl), λ b m. h b (Memᴰ.tail m)))
    (both? (d a) (all_in? P d r))

no_earlier? : (w : Values) (o : Option TermAction) (r : List TermAction) → Dec (NoEarlier w o r)
no_earlier? w none r = yes tt
no_earlier? w (some e) r =
    all_in?
    (λ b. b.direction ≡ e.direction → b.label ≡ e.label → ¬ Means w e.term b.term)
    (λ b. implies? (direction? b.direction e.direction) (implies? (ℕ_discrete b.label e.label) (not? (means? w e.term b.term))))
    r

-- something is found, and it has P
some_found? : (P : Values → Type 0) → ((w : Values) → Dec (P w)) → (o : Option Values) → Dec ((w : Values) × (o ≡ some w) × P w)
some_found? P d none = no (λ h. none_some h.0 h.1)
some_found? P d (some w) = by_iff (λ p. (w, refl, p)) (λ h. subst P (sym (some-injective w h.0 h.1)) h.2) (d w)

judged? : (S : Protocol) (before : List TermAction) (a : TermAction) → Dec (Judged S before a)
judged? S before a =
    by_iff
    (λ h. (h.1.1.0, h.0, h.1.0, h.1.1.1, h.1.1.2))
    (λ h. (h.1, (h.2, (h.0, h.3, h.4))))
    (both? (direction? a.direction S.later.direction) (both? (ℕ_discrete a.label S.later.label) (some_found? (λ w. NoEarlier w S.earlier before) (λ w. no_earlier? w S.earlier before) (fit unvalued S.later.term a.term))))

-- a list falls into three somewhere, with P
abbrev Splits : (List TermAction → TermAction → Type 0) → List TermAction → Type 0
Splits P r = (before : List TermAction) × (a : TermAction) × (after : List TermAction) × (r ≡ before ++ (a ∷ after)) × P before a

split_cases : (P : List TermAction → TermAction → Type 0) (x : TermAction) (r : List TermAction) → Splits P (x ∷ r) → P [] x ⊎ Splits (λ bs a. P (x ∷ bs) a) r
split_cases P x r ([], a, after, e, p) = let q : a ≡ x = cc in inl (subst (P []) q p)
split_cases P x r (b ∷ before, a, after, e, p) = let q : b ≡ x = cc in inr (before, a, after, cc, subst (λ (z : TermAction). P (z ∷ before) a) q p)

splits? : (P : List TermAction → TermAction → Type 0) → ((before : List TermAction) (a : TermAction) → Dec (P before a)) → (r : List TermAction) → Dec (Splits P r)
splits? P d [] = no (λ h. nil_cons h.0 h.1 h.2 h.3)
splits? P d (x ∷ r) =
    elim (d [] x) [
      | yes p ↦ yes ([], x, r, refl, p)
      | no f ↦ elim (splits? (λ bs a. P (x ∷ bs) a) (λ bs a. d (x ∷ bs) a) r) [
        | yes h ↦ yes (x ∷ h.0, h.1, h.2, ap (λ (z : List TermAction). x ∷ z) h.3, h.4)
        | no g ↦ no (λ h. elim (split_cases P x r h) [ inl p ↦ f p | inr s ↦ g s ])
      ]
    ]

pub verdict_decided : VerdictDecided
verdict_decided S r i c = by_iff (judged_broken S r i c) (broken_judged S r) (splits? (Judged S) (judged? S) r)
