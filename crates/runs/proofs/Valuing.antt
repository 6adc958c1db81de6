-- The value of a term as a function, which steps cannot be taken, and how long a run can be.
use Rattle.std.proofs.Common.{◌≡◌, ℕ, zero, suc, ◌+◌, ◌*◌, ◌<◌, ◌≤◌, List, [], ◌∷◌, length, sym, refl, ap, ◌∙◌, subst, ap₂, inl, inr, lt_irrefl, not-suc-le-zero, arith}
use Rattle.std.proofs.Math.Nat.{suc-mul}
use Rattle.std.proofs.lemmas.List.{length-append}
use mathlib.Core.Option.{Option, none, some, some-injective}
use mathlib.Core.List.Memᴰ
use mathlib.Core.List.{Memᴰ}
use lib.ListN.{get_or-eq_default}
use Rattle.terms.specs.Terms.{Term, name, env, var, pair, seal, Closed, Message, Vars}
use Rattle.protocol.specs.Strands.{TermStep, output, opens, splits, same, At, Binds, Uses}
use Rattle.lifting.proofs.Lists.{none_some, only}
use Rattle.runs.specs.Protocols.{TermAction, Protocol, strand, LawfulProtocol}
use Rattle.runs.specs.Runs.{Values, Means, a_name, an_env, a_value, a_pair, a_seal, bind, Does, fed, put_out, opened, halved, agreed, State, Moves, moved, Goes, stop, step, Runs, messages, received, sent}
use Rattle.runs.specs.Valued.{both, valued}
use Rattle.runs.specs.Apart.{mentions}
use Rattle.runs.specs.Words.{total}
use Rattle.runs.proofs.Values.{Valued, ClosedValues, bind_there, uses_map, means_closed, does_closed}
use Rattle.runs.proofs.Bridging.{Filled, Owned, at_unique, filled_on, owned_on, goes_closed}
use Rattle.runs.proofs.Beginnings.{does_adds}
use Rattle.runs.proofs.Apartness.{onward_below, onward_mentions}
use Rattle.runs.proofs.Releasing.{stands_at}
use Rattle.runs.proofs.Wording.{Allows, length_total}

pub means_valued : {v : Values} {t M : Term} → Means v t M → valued v t ≡ some M
means_valued (a_name n) = refl
means_valued (an_env n) = refl
means_valued (a_value e) = e
means_valued (a_pair a b) = ap₂ (both pair) (means_valued a) (means_valued b)
means_valued (a_seal b k) = ap₂ (both seal) (means_valued b) (means_valued k)

-- what is put together has both its parts
both_some : (f : Term → Term → Term) (o q : Option Term) (M : Term) → both f o q ≡ some M → (A : Term) × (B : Term) × (o ≡ some A) × (q ≡ some B) × (f A B ≡ M)
both_some f none q M e = absurd (none_some M e)
both_some f (some A) none M e = absurd (none_some M e)
both_some f (some A) (some B) M e = (A, B, refl, refl, some-injective (f A B) M e)

pub valued_means : (v : Values) (t M : Term) → valued v t ≡ some M → Means v t M
valued_means v (name n) M e = subst (Means v (name n)) (some-injective (name n) M e) (a_name n)
valued_means v (env n) M e = subst (Means v (env n)) (some-injective (env n) M e) (an_env n)
valued_means v (var x) M e = a_value e
valued_means v (pair a b) M e =
    let h = both_some pair (valued v a) (valued v b) M e in
    subst (Means v (pair a b)) h.4 (a_pair (valued_means v a h.0 h.2) (valued_means v b h.1 h.3))
valued_means v (seal b k) M e =
    let h = both_some seal (valued v b) (valued v k) M e in
    subst (Means v (seal b k)) h.4 (a_seal (valued_means v b h.0 h.2) (valued_means v k h.1 h.3))

-- values that are kept give a term the value that it had
valued_keeps : (v w : Values) → ((x : ℕ) (N : Term) → v x ≡ some N → w x ≡ some N) → (t M : Term) → valued v t ≡ some M → valued w t ≡ some M
valued_keeps v w k (name n) M e = e
valued_keeps v w k (env n) M e = e
valued_keeps v w k (var x) M e = k x M e
valued_keeps v w k (pair a b) M e =
    let h = both_some pair (valued v a) (valued v b) M e in
    ap₂ (both pair) (valued_keeps v w k a h.0 h.2) (valued_keeps v w k b h.1 h.3) ∙ ap some h.4
valued_keeps v w k (seal b c) M e =
    let h = both_some seal (valued v b) (valued v c) M e in
    ap₂ (both seal) (valued_keeps v w k b h.0 h.2) (valued_keeps v w k c h.1 h.3) ∙ ap some h.4

pub valued_bind : (v : Values) (x : ℕ) (N : Term) → v x ≡ none → (t M : Term) → valued v t ≡ some M → valued (bind v x N) t ≡ some M
valued_bind v x N n = valued_keeps v (bind v x N) (λ y L e. bind_there v x N y (λ q. none_some L (sym n ∙ (ap v (sym q) ∙ e))) ∙ e)

both_there : (f : Term → Term → Term) {o q : Option Term} → (A : Term) × (o ≡ some A) → (B : Term) × (q ≡ some B) → (M : Term) × (both f o q ≡ some M)
both_there f (A, e) (B, g) = (f A B, ap₂ (both f) e g)

-- a term whose variables have values has one
pub uses_valued : (v : Values) (t : Term) → Vars (Valued v) t → (M : Term) × (valued v t ≡ some M)
uses_valued v (name n) h = (name n, refl)
uses_valued v (env n) h = (env n, refl)
uses_valued v (var x) h = h
uses_valued v (pair a b) h = both_there pair (uses_valued v a h.0) (uses_valued v b h.1)
uses_valued v (seal b k) h = both_there seal (uses_valued v b h.0) (uses_valued v k h.1)

goes_owned : (S : Protocol) {st : State} {s : List ℕ} {st' : State} → Goes S st s st' → Owned S st.next st.value → Owned S st'.next st'.value
goes_owned S (stop e) o = subst (λ (z : State). Owned S z.next z.value) e o
goes_owned S (step {st} {k} (moved {p} {v} {more} at d) g) o = goes_owned S g (owned_on S st.next st.value v (messages st.run) more k p at d o)

goes_filled : (S : Protocol) {st : State} {s : List ℕ} {st' : State} → Goes S st s st' → Filled S st.next st.value → Filled S st'.next st'.value
goes_filled S (stop e) f = subst (λ (z : State). Filled S z.next z.value) e f
goes_filled S (step {st} {k} (moved {p} {v} {more} at d) g) f = goes_filled S g (filled_on S st.next st.value v (messages st.run) more k p at d f)

-- what the next step binds has no value yet
pub next_fresh : (S : Protocol) → LawfulProtocol S → (s : List ℕ) (st : State) → Runs S s st → (k : ℕ) (p : TermStep) → At S.strands k (st.next k) p → (x : ℕ) → Binds x p → st.value x ≡ none
next_fresh S law s st g k p at x b = go (st.value x) refl
  where
    go : (o : Option Term) → st.value x ≡ o → o ≡ none
    go none e = refl
    go (some M) e =
        let o = goes_owned S g (λ y h. absurd (none_some h.0 h.1)) x (M, e) in
        let same_place = law.once o.0 k o.1 (st.next k) o.2 p x o.4 at o.5 b in
        absurd (lt_irrefl (st.next k) (subst (λ (i : ℕ). i < st.next k) same_place.1 (subst (λ (j : ℕ). o.1 < st.next j) same_place.0 o.3)))

-- and what else it names has one
pub next_used : (S : Protocol) → LawfulProtocol S → (s : List ℕ) (st : State) → Runs S s st → (k : ℕ) (p : TermStep) → At S.strands k (st.next k) p → Uses (Valued st.value) p
next_used S law s st g k p at =
    let f = goes_filled S g (λ j i q x l a b. absurd (not-suc-le-zero l)) in
    uses_map (λ x b. f k b.0 b.1 x b.2 b.3 b.4) p (law.used k (st.next k) p at)

goes_below : (S : Protocol) {st : State} {s : List ℕ} {st' : State} → Goes S st s st' → ((k : ℕ) → st.next k ≤ length (strand S k)) → (k : ℕ) → st'.next k ≤ length (strand S k)
goes_below S (stop e) h = subst (λ (z : State). (k : ℕ) → z.next k ≤ length (strand S k)) e h
goes_below S (step {st} {k} (moved {p} at d) g) h = goes_below S g (onward_below S st.next k p at h)

pub next_below : (S : Protocol) (s : List ℕ) (st : State) → Runs S s st → (k : ℕ) → st.next k ≤ length (strand S k)
next_below S s st g = goes_below S g (λ k. omega arith)

-- a move does the step that stands next
moves_does : (S : Protocol) (st : State) (k : ℕ) (p : TermStep) → At S.strands k (st.next k) p → {st' : State} → Moves S st k st' → (w : Values) × (r : List TermAction) × Does st.value (messages st.run) p w r
moves_does S st k p at (moved {p = q} {v} {more} at' d) =
    (v, more, subst (λ (z : TermStep). Does st.value (messages st.run) z v more) (at_unique S k (st.next k) k (st.next k) p q at at' refl refl) d)

does_output : {v : Values} {K : List Term} {l : ℕ} {n : Term} {w : Values} {r : List TermAction} → Does v K (output l n) w r → (M : Term) × (valued v n ≡ some M) × Message M
does_output (put_out {M = M} e m) = (M, means_valued e, m)

does_opens : {v : Values} {K : List Term} {t : Term} {x : ℕ} {c : Term} {w : Values} {r : List TermAction} → Does v K (opens t x c) w r → (b : Term) × (k : Term) × (valued v t ≡ some (seal b k)) × (valued v c ≡ some k)
does_opens (opened {b = b} {c = k} e f) = (b, k, means_valued e, means_valued f)

does_splits : {v : Values} {K : List Term} {t : Term} {x y : ℕ} {w : Values} {r : List TermAction} → Does v K (splits t x y) w r → (a : Term) × (b : Term) × (valued v t ≡ some (pair a b))
does_splits (halved {a = a} {b = b} e) = (a, b, means_valued e)

does_same : {v : Values} {K : List Term} {n m : Term} {w : Values} {r : List TermAction} → Does v K (same n m) w r → (M : Term) × (valued v n ≡ some M) × (valued v m ≡ some M)
does_same (agreed {M = M} e f) = (M, means_valued e, means_valued f)

one_value : {o : Option Term} {M N : Term} → o ≡ some M → o ≡ some N → M ≡ N
one_value {M = M} {N = N} e f = some-injective M N (sym e ∙ f)

-- an output of what is no message is not taken
pub stuck_output : (S : Protocol) (st : State) (k l : ℕ) (n M : Term) → At S.strands k (st.next k) (output l n) → valued st.value n ≡ some M → ¬ Message M → (st' : State) → ¬ Moves S st k st'
stuck_output S st k l n M at e f st' m =
    let d = moves_does S st k (output l n) at m in
    let h = does_output d.2 in
    f (subst Message (one_value h.1 e) h.2)

-- what is no seal under that key is not opened
pub stuck_opens : (S : Protocol) (st : State) (k : ℕ) (t : Term) (x : ℕ) (c T K : Term) → At S.strands k (st.next k) (opens t x c) → valued st.value t ≡ some T → valued st.value c ≡ some K → ((b : Term) → ¬ (T ≡ seal b K)) → (st' : State) → ¬ Moves S st k st'
stuck_opens S st k t x c T K at e f n st' m =
    let d = moves_does S st k (opens t x c) at m in
    let h = does_opens d.2 in
    n h.0 (one_value e h.2 ∙ ap (seal h.0) (one_value h.3 f))

-- what is no pair is not split
pub stuck_splits : (S : Protocol) (st : State) (k : ℕ) (t : Term) (x y : ℕ) (T : Term) → At S.strands k (st.next k) (splits t x y) → valued st.value t ≡ some T → ((a b : Term) → ¬ (T ≡ pair a b)) → (st' : State) → ¬ Moves S st k st'
stuck_splits S st k t x y T at e n st' m =
    let d = moves_does S st k (splits t x y) at m in
    let h = does_splits d.2 in
    n h.0 h.1 (one_value e h.2)

-- two values are not the same
pub stuck_same : (S : Protocol) (st : State) (k : ℕ) (n m N M : Term) → At S.strands k (st.next k) (same n m) → valued st.value n ≡ some N → valued st.value m ≡ some M → ¬ (N ≡ M) → (st' : State) → ¬ Moves S st k st'
stuck_same S st k n m N M at e f ne st' mv =
    let d = moves_does S st k (same n m) at mv in
    let h = does_same d.2 in
    ne (one_value e h.1 ∙ one_value h.2 f)

-- a step adds at most one action
adds_one : {v : Values} {K : List Term} {p : TermStep} {w : Values} {r : List TermAction} → Does v K p w r → length r ≤ 1
adds_one {r = r} d = elim (does_adds d) [ inl e ↦ subst (λ (z : List TermAction). length z ≤ 1) (sym e) (omega arith) | inr e ↦ subst (λ (z : List TermAction). length z ≤ 1) (sym e.1) (omega arith) ]

goes_short : (S : Protocol) {st : State} {s : List ℕ} {st' : State} → Goes S st s st' → length st'.run ≤ length st.run + length s
goes_short S {st} (stop e) = subst (λ (z : State). length z.run ≤ length st.run + 0) e (omega arith)
goes_short S (step {st} (moved {more = more} at d) g) =
    let h = goes_short S g in
    let a = adds_one d in
    let q = length-append st.run more in
    omega arith

total_below : (m n : ℕ) (most : ℕ → ℕ) → ((k : ℕ) → most k ≤ n) → total m most ≤ m * n
total_below zero n most h = omega arith
total_below (suc m) n most h = let a = total_below m n most h in let b = h m in let c = suc-mul m n in omega arith

-- a schedule mentions no strand more often than it has steps
goes_mentions : (S : Protocol) (s : List ℕ) (st : State) → Runs S s st → Allows (λ k. length (strand S k)) s
goes_mentions S s st g k = let a = stands_at S s st g k in let b = next_below S s st g k in omega arith

allows_short : (S : Protocol) (s : List ℕ) (m n : ℕ) → length S.strands ≤ m → ((k : ℕ) → length (strand S k) ≤ n) → Allows (λ k. length (strand S k)) s → length s ≤ m * n
allows_short S s m n lm ln h =
    let a = length_total m s (λ k. length (strand S k)) (λ k l. ap length (get_or-eq_default S.strands [] (omega arith))) h in
    let b = total_below m n (λ k. length (strand S k)) ln in
    omega arith

-- a run has no more actions than m strands of n steps
pub run_short : (S : Protocol) (s : List ℕ) (st : State) → Runs S s st → (m n : ℕ) → length S.strands ≤ m → ((k : ℕ) → length (strand S k) ≤ n) → length st.run ≤ m * n
run_short S s st g m n lm ln =
    let a = goes_short S g in
    let b = allows_short S s m n lm ln (goes_mentions S s st g) in
    omega arith

-- and fewer while a strand has a step to take
pub run_room : (S : Protocol) (s : List ℕ) (st : State) → Runs S s st → (m n : ℕ) → length S.strands ≤ m → ((k : ℕ) → length (strand S k) ≤ n) → (k : ℕ) (p : TermStep) → At S.strands k (st.next k) p → length st.run < m * n
run_room S s st g m n lm ln k p at =
    let a = goes_short S g in
    let b = allows_short S (k ∷ s) m n lm ln one_more in
    omega arith
  where
    one_more : (j : ℕ) → mentions j (k ∷ s) ≤ length (strand S j)
    one_more j =
        let a = stands_at S s st g j in
        let b = onward_below S st.next k p at (next_below S s st g) j in
        let c = onward_mentions st.next k j s in
        omega arith

pub values_closed : (S : Protocol) (s : List ℕ) (st : State) → Runs S s st → ClosedValues st.value
values_closed S s st g = goes_closed g (λ x M e. absurd (none_some M e))

-- a closed message
abbrev Said : TermAction → Type 0
Said a = Closed a.term × Message a.term

does_said : {v : Values} {K : List Term} → ClosedValues v → {p : TermStep} {w : Values} {r : List TermAction} → Does v K p w r → (a : TermAction) → Memᴰ a r → Said a
does_said c (fed {l} M cm m d) a i = subst Said (sym (only (received l M) a i)) (cm, m)
does_said c (put_out {l} {n} {M} e m) a i = subst Said (sym (only (sent l M) a i)) (means_closed c e, m)
does_said c (opened e f) a i = absurd (Memᴰ.not-nil i)
does_said c (halved e) a i = absurd (Memᴰ.not-nil i)
does_said c (agreed e f) a i = absurd (Memᴰ.not-nil i)

goes_said : (S : Protocol) {st : State} {s : List ℕ} {st' : State} → Goes S st s st' → ClosedValues st.value → ((a : TermAction) → Memᴰ a st.run → Said a) → (a : TermAction) → Memᴰ a st'.run → Said a
goes_said S (stop e) c h = subst (λ (z : State). (a : TermAction) → Memᴰ a z.run → Said a) e h
goes_said S (step {st} (moved {more = more} at d) g) c h = goes_said S g (does_closed c d) (λ a i. elim (Memᴰ.append_cases st.run i) [ inl l ↦ h a l | inr r ↦ does_said c d a r ])

-- whatever is in a run is a closed message
pub run_said : (S : Protocol) (s : List ℕ) (st : State) → Runs S s st → (a : TermAction) → Memᴰ a st.run → Closed a.term × Message a.term
run_said S s st g = goes_said S g (λ x M e. absurd (none_some M e)) (λ a i. absurd (Memᴰ.not-nil i))
