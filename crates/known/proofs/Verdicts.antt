-- The known cases, one by one.
use Rattle.std.proofs.Common.{◌≡◌, ℕ, zero, suc, ◌≤◌, ◌⊎◌, List, [], ◌∷◌, ◌++◌, get_or, sym, refl, ap, ◌∙◌, subst, inl, inr, arith}
use mathlib.Core.Option.{none, some, some-injective}
use mathlib.Core.List.Memᴰ
use mathlib.Core.List.{Memᴰ}
use Rattle.terms.specs.Terms.{Term, name, env, var, pair, seal, inst, Message, Atom}
use Rattle.protocol.specs.Strands.{TermStep, input, output, same, At}
use Rattle.protocol.specs.declared.step.Direction.TheVariants.{Input, Output}
use Rattle.derivation.specs.Derive.{Derives, listed, public, left, right, both, open_seal, make_seal}
use Rattle.lifting.proofs.Lists.{nil_cons, none_some}
use Rattle.runs.specs.Protocols.{TermAction, Protocol}
use Rattle.runs.specs.Runs.{State, Runs, received, sent, Values, Means, a_name, an_env, a_value, a_pair, a_seal, bind, Does, fed, put_out, opened, halved, agreed, onward, nowhere, Moves, moved, stop, step}
use Rattle.runs.specs.Schedules.{done, then, Breaking, Listing, NoneBreaking, holds, broken, Answers, spent}
use Rattle.runs.specs.Apart.{Longest}
use Rattle.runs.specs.Words.{words}
use Rattle.runs.specs.Replies.{AtEveryBudget}
use Rattle.runs.proofs.Wording.{words_listed}
use Rattle.runs.proofs.Releasing.{stands_at}
use Rattle.known.specs.Known.{locked, FedPair, StuckByPair, KnownCases}
use Rattle.known.proofs.Forms.{locked_with_key, protocol_1, protocol_2, protocol_3, protocol_4, protocol_5, protocol_6, protocol_7, law_1, law_2, law_3, law_4, law_5, law_6, law_7, told_1, told_2, told_3, told_4, told_5, told_6, told_7}
use Rattle.known.proofs.Certificates.{each_hold, whole_words, whole_listing, holds_by, broken_by, Like, run_keeps, breaks_by, no_like, never_like, break_of}

same_way : Output ≡ Input → ⊥
same_way e = grind arith

abbrev nought : ℕ → Term
nought x = env 0

-- neither d nor k stands open
abbrev Safe : Term → Type 0
Safe (name n) = 2 ≤ n
Safe (env n) = Unit {0}
Safe (var x) = Unit {0}
Safe (pair a b) = Safe a × Safe b
Safe (seal b k) = (seal b k ≡ locked) ⊎ (Safe b × Safe k)

safe_body : (b k : Term) → Safe (seal b k) → Safe k → Safe b
safe_body b k (inl e) h = let q : k ≡ name 1 = cc in let z : 2 ≤ 1 = subst (λ (t : Term). Safe t) q h in absurd (omega arith)
safe_body b k (inr p) h = p.0

safe_derived : {K : List Term} → ((u : Term) → Memᴰ u K → Safe u) → {t : Term} → Derives K t → Safe t
safe_derived h (listed m) = h _ m
safe_derived h (public n) = tt
safe_derived h (left a) = (safe_derived h a).0
safe_derived h (right a) = (safe_derived h a).1
safe_derived h (both a b) = (safe_derived h a, safe_derived h b)
safe_derived h (open_seal {b} {k} a n c) = safe_body b k (safe_derived h a) (safe_derived h c)
safe_derived h (make_seal a n c) = inr (safe_derived h a, safe_derived h c)

out_1 : (k i l : ℕ) (n : Term) (ρ : ℕ → Term) → At protocol_1.strands k i (output l n) → Safe (inst ρ n)
out_1 zero zero l n ρ e = let q : output 0 locked ≡ output l n = some-injective _ _ e in let r : locked ≡ n = cc in subst (λ (t : Term). Safe (inst ρ t)) r (inl refl)
out_1 zero (suc i) l n ρ e = absurd (none_some (output l n) e)
out_1 (suc zero) zero l n ρ e = let q : input 1 0 ≡ output l n = some-injective _ _ e in absurd (grind arith)
out_1 (suc zero) (suc i) l n ρ e = absurd (none_some (output l n) e)
out_1 (suc (suc k)) i l n ρ e = absurd (none_some (output l n) e)

kept_1 : (s : List ℕ) → ¬ Breaking protocol_1 s
kept_1 s (st, g, (σ, before, after, (c, m, e, ab))) =
    let z : 2 ≤ 0 = run_keeps protocol_1 law_1 (λ t. Safe t) (λ K h t a. safe_derived h a) out_1 s st g (received 1 (name 0)) (subst (λ (r : List TermAction). Memᴰ (received 1 (name 0)) r) (sym e) (Memᴰ.append_right before (Memᴰ.head refl))) in
    omega arith

listing_1 : Listing protocol_1 (whole_words protocol_1)
listing_1 = whole_listing protocol_1 law_1 nought (λ x. tt) (((tt, tt), tt), ((tt, tt), tt))

pub verdict_1 : AtEveryBudget protocol_1 5 (holds 5)
verdict_1 = holds_by protocol_1 (whole_words protocol_1) listing_1 (λ s m. kept_1 s)

-- none of the schedules is breaking, one after the other
abbrev Nones : Protocol → List (List ℕ) → Type 0
Nones S [] = Unit {0}
Nones S (s ∷ L) = (¬ Breaking S s) × Nones S L

nones : (S : Protocol) (L : List (List ℕ)) → Nones S L → NoneBreaking S L
nones S [] h s m = absurd (Memᴰ.not-nil m)
nones S (t ∷ L) h s m = elim (Memᴰ.cases_cons m) [ inl e ↦ (λ b. h.0 (subst (λ (z : List ℕ). Breaking S z) e b)) | inr r ↦ nones S L h.1 s r ]

-- protocol 2
like_2 : (k i : ℕ) (p : TermStep) → At protocol_2.strands k i p → Like (received 1 (name 0)) p → (k ≡ 1) × (0 ≤ i)
like_2 zero zero p e l = let q : Like (received 1 (name 0)) (output 0 locked_with_key) = subst (λ (z : TermStep). Like (received 1 (name 0)) z) (sym (some-injective _ _ e)) l in absurd (same_way (sym q.0))
like_2 zero (suc i) p e l = absurd (none_some p e)
like_2 (suc zero) i p e l = (refl, omega arith)
like_2 (suc (suc k)) i p e l = absurd (none_some p e)

d_known : Derives (locked_with_key ∷ []) (name 0)
d_known = open_seal {k = name 1} (left (listed (Memᴰ.head refl))) tt (right (listed (Memᴰ.head refl)))

abbrev secret : ℕ → Term
secret x = name 0

breaks_2 : Breaking protocol_2 (0 ∷ 1 ∷ [])
breaks_2 = breaks_by protocol_2 law_2 (0 ∷ 1 ∷ []) secret
    (record { closed = λ x. tt; steps = output 0 locked_with_key ∷ input 1 0 ∷ []; plan = then refl (then refl done); hold = each_hold secret (output 0 locked_with_key ∷ input 1 0 ∷ []) (((tt, tt), tt), (tt, tt)); feeds = (tt, (d_known, tt)) })
    (nought, sent 0 locked_with_key ∷ [], [], ((λ x. tt), (λ x. tt), refl, tt))

pub verdict_2 : AtEveryBudget protocol_2 3 (broken 3)
verdict_2 = broken_by protocol_2 (whole_words protocol_2) (whole_listing protocol_2 law_2 nought (λ x. tt) ((((tt, tt), tt), tt), ((tt, tt), tt))) 3 (
  [] ∷ (0 ∷ []) ∷ [],
  0 ∷ 1 ∷ [],
  (1 ∷ []) ∷ (1 ∷ 0 ∷ []) ∷ [],
  refl,
  refl,
  nones protocol_2 ([] ∷ (0 ∷ []) ∷ []) (no_like protocol_2 law_2 1 0 like_2 [] (omega arith), (no_like protocol_2 law_2 1 0 like_2 (0 ∷ []) (omega arith), tt)),
  breaks_2,
)

-- protocol 3
like_3 : (k i : ℕ) (p : TermStep) → At protocol_3.strands k i p → Like (received 1 (name 0)) p → (k ≡ 0) × (0 ≤ i)
like_3 zero i p e l = (refl, omega arith)
like_3 (suc zero) zero p e l = let q : Like (received 1 (name 0)) (output 0 locked_with_key) = subst (λ (z : TermStep). Like (received 1 (name 0)) z) (sym (some-injective _ _ e)) l in absurd (same_way (sym q.0))
like_3 (suc zero) (suc i) p e l = absurd (none_some p e)
like_3 (suc (suc k)) i p e l = absurd (none_some p e)

d_unknown : ¬ Derives [] (name 0)
d_unknown a = let z : 2 ≤ 0 = safe_derived (λ u m. absurd (Memᴰ.not-nil m)) a in omega arith

first_fed : (M : Term) (r after : List TermAction) → received 1 M ∷ r ≡ received 1 (name 0) ∷ after → Derives [] M → ⊥
first_fed M r after e a = let q : received 1 M ≡ received 1 (name 0) = cc in d_unknown (subst (λ (t : Term). Derives [] t) (ap (λ (z : TermAction). z.term) q) a)

kept_0 : ¬ Breaking protocol_3 (0 ∷ [])
kept_0 b = let w = break_of protocol_3 law_3 (0 ∷ []) (input 1 0 ∷ []) (then refl done) b in go w.ρ w.feeds.0 w.before w.after w.place
  where
    go : (ρ : ℕ → Term) → Derives [] (ρ 0) → (before after : List TermAction) → received 1 (ρ 0) ∷ [] ≡ before ++ (received 1 (name 0) ∷ after) → ⊥
    go ρ a [] after e = first_fed (ρ 0) [] after e a
    go ρ a (c ∷ before) after e = nil_cons before (received 1 (name 0)) after (cc)

kept_01 : ¬ Breaking protocol_3 (0 ∷ 1 ∷ [])
kept_01 b = let w = break_of protocol_3 law_3 (0 ∷ 1 ∷ []) (input 1 0 ∷ output 0 locked_with_key ∷ []) (then refl (then refl done)) b in go w.ρ w.feeds.0 w.before w.after w.place
  where
    go : (ρ : ℕ → Term) → Derives [] (ρ 0) → (before after : List TermAction) → received 1 (ρ 0) ∷ sent 0 locked_with_key ∷ [] ≡ before ++ (received 1 (name 0) ∷ after) → ⊥
    go ρ a [] after e = first_fed (ρ 0) (sent 0 locked_with_key ∷ []) after e a
    go ρ a (c ∷ []) after e = let q : sent 0 locked_with_key ≡ received 1 (name 0) = cc in same_way (ap (λ (z : TermAction). z.direction) q)
    go ρ a (c ∷ f ∷ before) after e = nil_cons before (received 1 (name 0)) after (cc)

breaks_3 : Breaking protocol_3 (1 ∷ 0 ∷ [])
breaks_3 = breaks_by protocol_3 law_3 (1 ∷ 0 ∷ []) secret
    (record { closed = λ x. tt; steps = output 0 locked_with_key ∷ input 1 0 ∷ []; plan = then refl (then refl done); hold = each_hold secret (output 0 locked_with_key ∷ input 1 0 ∷ []) (((tt, tt), tt), (tt, tt)); feeds = (tt, (d_known, tt)) })
    (nought, sent 0 locked_with_key ∷ [], [], ((λ x. tt), (λ x. tt), refl, tt))

pub verdict_3 : AtEveryBudget protocol_3 5 (broken 5)
verdict_3 = broken_by protocol_3 (whole_words protocol_3) (whole_listing protocol_3 law_3 nought (λ x. tt) ((tt, tt), ((((tt, tt), tt), tt), tt))) 5 (
  [] ∷ (0 ∷ []) ∷ (0 ∷ 1 ∷ []) ∷ (1 ∷ []) ∷ [],
  1 ∷ 0 ∷ [],
  [],
  refl,
  refl,
  nones protocol_3 ([] ∷ (0 ∷ []) ∷ (0 ∷ 1 ∷ []) ∷ (1 ∷ []) ∷ []) (no_like protocol_3 law_3 0 0 like_3 [] (omega arith), (kept_0, (kept_01, (no_like protocol_3 law_3 0 0 like_3 (1 ∷ []) (omega arith), tt)))),
  breaks_3,
)

-- protocol 4
like_4 : (k i : ℕ) (p : TermStep) → At protocol_4.strands k i p → Like (sent 1 (var 0)) p → (k ≡ 0) × (0 ≤ i)
like_4 zero i p e l = (refl, omega arith)
like_4 (suc k) i p e l = absurd (none_some p e)

breaks_4 : Breaking protocol_4 (0 ∷ [])
breaks_4 = breaks_by protocol_4 law_4 (0 ∷ []) nought
    (record { closed = λ x. tt; steps = output 1 (name 0) ∷ []; plan = then refl done; hold = each_hold nought (output 1 (name 0) ∷ []) (tt, tt); feeds = (tt, tt) })
    (secret, [], [], ((λ x. tt), (λ x. tt), refl, λ m. Memᴰ.not-nil m))

pub verdict_4 : AtEveryBudget protocol_4 2 (broken 2)
verdict_4 = broken_by protocol_4 (whole_words protocol_4) (whole_listing protocol_4 law_4 nought (λ x. tt) ((tt, tt), tt)) 2
    ([] ∷ [], 0 ∷ [], [], refl, refl, nones protocol_4 ([] ∷ []) (no_like protocol_4 law_4 0 0 like_4 [] (omega arith), tt), breaks_4)

-- protocol 5
label_clash : ◌≡◌ {A = ℕ} 1 0 → ⊥
label_clash e = omega arith

like_5 : (k i : ℕ) (p : TermStep) → At protocol_5.strands k i p → Like (sent 1 (var 0)) p → (k ≡ 0) × (3 ≤ i)
like_5 zero zero p e l = let q : Like (sent 1 (var 0)) (input 2 1) = subst (λ (z : TermStep). Like (sent 1 (var 0)) z) (sym (some-injective _ _ e)) l in absurd (same_way q.0)
like_5 zero (suc zero) p e l = let q : Like (sent 1 (var 0)) (input 2 2) = subst (λ (z : TermStep). Like (sent 1 (var 0)) z) (sym (some-injective _ _ e)) l in absurd (same_way q.0)
like_5 zero (suc (suc zero)) p e l = let q : Like (sent 1 (var 0)) (output 0 (var 1)) = subst (λ (z : TermStep). Like (sent 1 (var 0)) z) (sym (some-injective _ _ e)) l in absurd (label_clash q.1)
like_5 zero (suc (suc (suc i))) p e l = (refl, omega arith)
like_5 (suc k) i p e l = absurd (none_some p e)

-- distinct environment names
abbrev own_name : ℕ → Term
own_name x = env x

not_before_5 : ¬ Memᴰ (sent 0 (env 2)) (received 2 (env 1) ∷ received 2 (env 2) ∷ sent 0 (env 1) ∷ [])
not_before_5 m =
    elim (Memᴰ.cases_cons m) [
      | inl e ↦ same_way (ap (λ (z : TermAction). z.direction) e)
      | inr r ↦ elim (Memᴰ.cases_cons r) [
        | inl e ↦ same_way (ap (λ (z : TermAction). z.direction) e)
        | inr q ↦ elim (Memᴰ.cases_cons q) [ inl e ↦ (let t : env 2 ≡ env 1 = ap (λ (z : TermAction). z.term) e in let n : ◌≡◌ {A = ℕ} 2 1 = cc in omega arith) | inr o ↦ Memᴰ.not-nil o ]
      ]
    ]

abbrev steps_5 : List TermStep
steps_5 = input 2 1 ∷ input 2 2 ∷ output 0 (var 1) ∷ output 1 (var 2) ∷ []

abbrev second : ℕ → Term
second x = env 2

breaks_5 : Breaking protocol_5 (0 ∷ 0 ∷ 0 ∷ 0 ∷ [])
breaks_5 = breaks_by protocol_5 law_5 (0 ∷ 0 ∷ 0 ∷ 0 ∷ []) own_name
    (record { closed = λ x. tt; steps = steps_5; plan = then refl (then refl (then refl (then refl done))); hold = each_hold own_name steps_5 (tt, (tt, (tt, (tt, tt)))); feeds = (public 1, (public 2, (tt, (tt, tt)))) })
    (second, received 2 (env 1) ∷ received 2 (env 2) ∷ sent 0 (env 1) ∷ [], [], ((λ x. tt), (λ x. tt), refl, not_before_5))

pub verdict_5 : AtEveryBudget protocol_5 5 (broken 5)
verdict_5 = broken_by protocol_5 (whole_words protocol_5) (whole_listing protocol_5 law_5 nought (λ x. tt) ((tt, (tt, (tt, (tt, tt)))), tt)) 5 (
  [] ∷ (0 ∷ []) ∷ (0 ∷ 0 ∷ []) ∷ (0 ∷ 0 ∷ 0 ∷ []) ∷ [],
  0 ∷ 0 ∷ 0 ∷ 0 ∷ [],
  [],
  refl,
  refl,
  nones protocol_5 ([] ∷ (0 ∷ []) ∷ (0 ∷ 0 ∷ []) ∷ (0 ∷ 0 ∷ 0 ∷ []) ∷ [])
      (no_like protocol_5 law_5 0 3 like_5 [] (omega arith), (no_like protocol_5 law_5 0 3 like_5 (0 ∷ []) (omega arith), (no_like protocol_5 law_5 0 3 like_5 (0 ∷ 0 ∷ []) (omega arith), (no_like protocol_5 law_5 0 3 like_5 (0 ∷ 0 ∷ 0 ∷ []) (omega arith), tt)))),
  breaks_5,
)

-- protocol 6
no_self : (t u : Term) → t ≡ pair t u → ⊥
no_self (name n) u e = grind arith
no_self (env n) u e = grind arith
no_self (var n) u e = grind arith
no_self (pair a b) u e = no_self a b (cc)
no_self (seal a b) u e = grind arith

abbrev one_of_0 : ℕ → ℕ
one_of_0 k = get_or (1 ∷ []) k 0

longest_6 : Longest protocol_6 one_of_0
longest_6 zero = ((omega arith, nought, (λ x. tt), each_hold nought (input 0 0 ∷ []) (tt, tt)), λ o. no_self (o.1 0) (o.1 0) (o.3 (same (var 0) (pair (var 0) (var 0))) (Memᴰ.tail (Memᴰ.head refl))))
longest_6 (suc k) = ((omega arith, nought, (λ x. tt), λ p m. absurd (Memᴰ.not-nil m)), λ o. let l = o.0 in omega arith)

beyond_6 : (k : ℕ) → 1 ≤ k → one_of_0 k ≡ 0
beyond_6 zero h = absurd (omega arith)
beyond_6 (suc k) h = refl

like_6 : (k i : ℕ) (p : TermStep) → At protocol_6.strands k i p → Like (sent 1 (name 0)) p → ⊥
like_6 zero zero p e l = let q : Like (sent 1 (name 0)) (input 0 0) = subst (λ (z : TermStep). Like (sent 1 (name 0)) z) (sym (some-injective _ _ e)) l in same_way q.0
like_6 zero (suc zero) p e l = subst (λ (z : TermStep). Like (sent 1 (name 0)) z) (sym (some-injective _ _ e)) l
like_6 zero (suc (suc i)) p e l = none_some p e
like_6 (suc k) i p e l = none_some p e

pub verdict_6 : AtEveryBudget protocol_6 2 (holds 2)
verdict_6 = holds_by protocol_6 (words 1 1 one_of_0) (words_listed protocol_6 law_6 one_of_0 longest_6 1 1 beyond_6 (omega arith)) (λ s m. never_like protocol_6 law_6 like_6 s)

-- protocol 7
like_7 : (k i : ℕ) (p : TermStep) → At protocol_7.strands k i p → Like (sent 2 (name 0)) p → ⊥
like_7 zero zero p e l = let q : Like (sent 2 (name 0)) (input 0 0) = subst (λ (z : TermStep). Like (sent 2 (name 0)) z) (sym (some-injective _ _ e)) l in same_way q.0
like_7 zero (suc zero) p e l = let q : Like (sent 2 (name 0)) (output 1 (seal (name 0) (var 0))) = subst (λ (z : TermStep). Like (sent 2 (name 0)) z) (sym (some-injective _ _ e)) l in let n : ◌≡◌ {A = ℕ} 2 1 = q.1 in omega arith
like_7 zero (suc (suc i)) p e l = none_some p e
like_7 (suc k) i p e l = none_some p e

pub verdict_7 : AtEveryBudget protocol_7 3 (holds 3)
verdict_7 = holds_by protocol_7 (whole_words protocol_7) (whole_listing protocol_7 law_7 nought (λ x. tt) ((tt, ((tt, tt), tt)), tt)) (λ s m. never_like protocol_7 law_7 like_7 s)

locked_safe : (u : Term) → Memᴰ u (locked ∷ []) → Safe u
locked_safe u m = elim (Memᴰ.cases_cons m) [ inl e ↦ subst (λ (t : Term). Safe t) (sym e) (inl refl) | inr r ↦ absurd (Memᴰ.not-nil r) ]

pub unknown_8 : ¬ Derives (locked ∷ []) (name 0)
unknown_8 a = let z : 2 ≤ 0 = safe_derived locked_safe a in omega arith

pub pair_8 : Derives (locked ∷ []) (pair locked locked)
pair_8 = both (listed (Memᴰ.head refl)) (listed (Memᴰ.head refl))

pub known_8 : Derives (locked ∷ name 1 ∷ []) (name 0)
known_8 = open_seal {k = name 1} (listed (Memᴰ.head refl)) tt (listed (Memᴰ.tail (Memᴰ.head refl)))

-- protocol 7, once it was fed a pair
pair_key : {v : Values} (a b : Term) → v 0 ≡ some (pair a b) → {k K : Term} → Means v k K → k ≡ var 0 → Atom K → ⊥
pair_key a b e (a_name n) q h = grind arith
pair_key a b e (an_env n) q h = grind arith
pair_key {v} a b e (a_value {x} {M} f) q h =
    let z : x ≡ 0 = cc in
    subst (λ (t : Term). Atom t) (some-injective M (pair a b) (sym f ∙ (ap v z ∙ e))) h
pair_key a b e (a_pair c d) q h = grind arith
pair_key a b e (a_seal c d) q h = grind arith

pair_sealed : {v : Values} (a b : Term) → v 0 ≡ some (pair a b) → {n M : Term} → Means v n M → n ≡ seal (name 0) (var 0) → Message M → ⊥
pair_sealed a b e (a_name n) q m = grind arith
pair_sealed a b e (an_env n) q m = grind arith
pair_sealed {v} a b e (a_value f) q m = grind arith
pair_sealed a b e (a_pair c d) q m = grind arith
pair_sealed a b e (a_seal c d) q m = pair_key a b e d (cc) m.1

pair_stuck : {v : Values} {K : List Term} (a b : Term) → v 0 ≡ some (pair a b) → {p : TermStep} {w : Values} {r : List TermAction} → Does v K p w r → p ≡ output 1 (seal (name 0) (var 0)) → ⊥
pair_stuck a b e (fed M c m d) q = grind arith
pair_stuck a b e (put_out {l} {n} {M} x m) q = pair_sealed a b e x (cc) m
pair_stuck a b e (opened x y) q = grind arith
pair_stuck a b e (halved x) q = grind arith
pair_stuck a b e (agreed x y) q = grind arith

pair_move : (st : State) → Runs protocol_7 (0 ∷ []) st → (a b : Term) → st.value 0 ≡ some (pair a b) → {st' : State} → Moves protocol_7 st 0 st' → ⊥
pair_move st g a b e (moved {p} at d) =
    let here : st.next 0 ≡ 1 = stands_at protocol_7 (0 ∷ []) st g 0 in
    pair_stuck a b e d (sym (some-injective (output 1 (seal (name 0) (var 0))) p (subst (λ (i : ℕ). At protocol_7.strands 0 i p) here at)))

abbrev two_names : Term
two_names = pair (env 0) (env 1)

fed_7 : FedPair (0 ∷ []) 0 protocol_7
fed_7 = (record { next = onward nowhere 0; value = bind (λ x. none) 0 two_names; run = received 0 two_names ∷ [] }, env 0, env 1, step (moved refl (fed two_names (tt, tt) (tt, tt) (both (public 0) (public 1)))) (stop refl), refl)

pub known_cases_lem : KnownCases
known_cases_lem = (
  (told_1 (λ S. AtEveryBudget S 5 (holds 5)) verdict_1, (told_1 (λ S. Answers S 4 (spent 4)) ((verdict_1 4).1.0 (omega arith)), tt)),
  (
    (told_2 (λ S. AtEveryBudget S 3 (broken 3)) verdict_2, tt),
    (
      (told_3 (λ S. AtEveryBudget S 5 (broken 5)) verdict_3, tt),
      (
        (told_4 (λ S. AtEveryBudget S 2 (broken 2)) verdict_4, tt),
        (
          (told_5 (λ S. AtEveryBudget S 5 (broken 5)) verdict_5, tt),
          (
            (told_6 (λ S. AtEveryBudget S 2 (holds 2)) verdict_6, tt),
            (
              (told_7 (λ S. AtEveryBudget S 3 (holds 3)) verdict_7, (told_7 (StuckByPair (0 ∷ []) 0 0) (fed_7, λ st g a b e st' m. pair_move st g a b e m), tt)),
              (
                (unknown_8, (pair_8, (known_8, tt))),
                tt,
              ),
            ),
          ),
        ),
      ),
    ),
  ),
)
