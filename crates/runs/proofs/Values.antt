-- Values that are bound, positions that go on, and what a step does to them.
use Rattle.std.proofs.Common.{◌≡◌, ℕ, suc, ◌<◌, ◌≤◌, Bool, true, false, cond, T, eqb, ◌⊎◌, List, sym, refl, ap, ◌∙◌, subst, ap₂, inl, inr, arith, eqb→eq}
use mathlib.Core.Option.{some, some-injective}
use native.Mathlib.Decide.{ℕ_discrete}
use lib.Dec.{eqb_refl}
use Rattle.terms.specs.Terms.{Term, name, env, var, pair, seal, inst, Closed, Vars}
use Rattle.protocol.specs.Strands.{TermStep, input, output, opens, splits, same, Binds, Uses}
use Rattle.lifting.proofs.Instances.{vars_map}
use Rattle.runs.specs.Protocols.{TermAction}
use Rattle.runs.specs.Runs.{Values, Means, a_name, an_env, a_value, a_pair, a_seal, bind, Does, fed, put_out, opened, halved, agreed, onward}

pub is_true : (b : Bool) → T b → b ≡ true
is_true true h = refl
is_true false h = absurd h

pub bind_here : (v : Values) (x : ℕ) (M : Term) → bind v x M x ≡ some M
bind_here v x M = ap (λ (b : Bool). cond b (some M) (v x)) (is_true (eqb x x) (eqb_refl x))

pub bind_there : (v : Values) (x : ℕ) (M : Term) (y : ℕ) → (y ≡ x → ⊥) → bind v x M y ≡ v y
bind_there v x M y n = go (eqb y x) (eqb→eq y x)
  where
    go : (b : Bool) → (T b → y ≡ x) → cond b (some M) (v y) ≡ v y
    go true h = absurd (n (h tt))
    go false h = refl

pub bind_cases : (v : Values) (x : ℕ) (M : Term) (y : ℕ) (N : Term) → bind v x M y ≡ some N → ((y ≡ x) × (M ≡ N)) ⊎ (v y ≡ some N)
bind_cases v x M y N = go (eqb y x) (eqb→eq y x)
  where
    go : (b : Bool) → (T b → y ≡ x) → cond b (some M) (v y) ≡ some N → ((y ≡ x) × (M ≡ N)) ⊎ (v y ≡ some N)
    go true h e = inl (h tt, some-injective M N e)
    go false h e = inr e

-- a value stays one, perhaps another
pub bind_stays : (v : Values) (x : ℕ) (M : Term) (y : ℕ) → (N : Term) × (v y ≡ some N) → (N : Term) × (bind v x M y ≡ some N)
bind_stays v x M y h = elim (ℕ_discrete y x) [ yes e ↦ (M, ap (bind v x M) e ∙ bind_here v x M) | no n ↦ (h.0, bind_there v x M y n ∙ h.1) ]

pub onward_here : (next : ℕ → ℕ) (k : ℕ) → onward next k k ≡ suc (next k)
onward_here next k = ap (λ (b : Bool). cond b (suc (next k)) (next k)) (is_true (eqb k k) (eqb_refl k))

pub onward_cases : (next : ℕ → ℕ) (k j i : ℕ) → i < onward next k j → (i < next j) ⊎ ((j ≡ k) × (i ≡ next j))
onward_cases next k j i = go (eqb j k) (eqb→eq j k)
  where
    go : (b : Bool) → (T b → j ≡ k) → i < cond b (suc (next j)) (next j) → (i < next j) ⊎ ((j ≡ k) × (i ≡ next j))
    go true h l = elim (ℕ_discrete i (next j)) [ yes e ↦ inr (h tt, e) | no n ↦ inl (omega arith) ]
    go false h l = inl l

pub onward_more : (next : ℕ → ℕ) (k j : ℕ) → next j ≤ onward next k j
onward_more next k j = go (eqb j k)
  where
    go : (b : Bool) → next j ≤ cond b (suc (next j)) (next j)
    go true = omega arith
    go false = omega arith

-- the values are those of the valuation
abbrev pub Within : Values → (ℕ → Term) → Type 0
Within v ρ = (x : ℕ) (M : Term) → v x ≡ some M → ρ x ≡ M

abbrev pub Valued : Values → ℕ → Type 0
Valued v x = (M : Term) × (v x ≡ some M)

pub means_inst : {v : Values} (ρ : ℕ → Term) → Within v ρ → {t M : Term} → Means v t M → inst ρ t ≡ M
means_inst ρ w (a_name n) = refl
means_inst ρ w (an_env n) = refl
means_inst ρ w (a_value {x} {M} e) = w x M e
means_inst ρ w (a_pair a b) = ap₂ pair (means_inst ρ w a) (means_inst ρ w b)
means_inst ρ w (a_seal b k) = ap₂ seal (means_inst ρ w b) (means_inst ρ w k)

pub inst_means : (v : Values) (ρ : ℕ → Term) → Within v ρ → (t : Term) → Vars (Valued v) t → Means v t (inst ρ t)
inst_means v ρ w (name n) h = a_name n
inst_means v ρ w (env n) h = an_env n
inst_means v ρ w (var x) h = a_value (h.1 ∙ ap some (sym (w x h.0 h.1)))
inst_means v ρ w (pair a b) h = a_pair (inst_means v ρ w a h.0) (inst_means v ρ w b h.1)
inst_means v ρ w (seal b k) h = a_seal (inst_means v ρ w b h.0) (inst_means v ρ w k h.1)

pub uses_map : {P Q : ℕ → Type 0} → ((y : ℕ) → P y → Q y) → (p : TermStep) → Uses P p → Uses Q p
uses_map f (input l y) u = tt
uses_map f (output l n) u = vars_map f n u
uses_map f (opens s y k) u = (vars_map f s u.0, vars_map f k u.1)
uses_map f (splits s y z) u = vars_map f s u
uses_map f (same n m) u = (vars_map f n u.0, vars_map f m u.1)

-- what a step binds has a value after it
pub does_binds : {v : Values} {K : List Term} (y : ℕ) → {p : TermStep} {w : Values} {r : List TermAction} → Does v K p w r → Binds y p → Valued w y
does_binds {v} y (fed {l} {x} M c m d) b = (M, ap (bind v x M) b ∙ bind_here v x M)
does_binds y (put_out e m) b = absurd b
does_binds {v} y (opened {b = b'} {x = x} e f) b = (b', ap (bind v x b') b ∙ bind_here v x b')
does_binds {v} y (halved {a = a} {b = b'} {x = x} {y = z} e) b =
    elim b [
      | inl h ↦ bind_stays (bind v x a) z b' y (a, ap (bind v x a) h ∙ bind_here v x a)
      | inr h ↦ (b', ap (bind (bind v x a) z b') h ∙ bind_here (bind v x a) z b')
    ]
does_binds y (agreed e f) b = absurd b

pub does_stays : {v : Values} {K : List Term} (y : ℕ) → {p : TermStep} {w : Values} {r : List TermAction} → Does v K p w r → Valued v y → Valued w y
does_stays {v} y (fed {l} {x} M c m d) h = bind_stays v x M y h
does_stays y (put_out e m) h = h
does_stays {v} y (opened {b = b'} {x = x} e f) h = bind_stays v x b' y h
does_stays {v} y (halved {a = a} {b = b'} {x = x} {y = z} e) h = bind_stays (bind v x a) z b' y (bind_stays v x a y h)
does_stays y (agreed e f) h = h

-- what a step does not bind keeps its value
pub does_keeps : {v : Values} {K : List Term} (y : ℕ) → {p : TermStep} {w : Values} {r : List TermAction} → Does v K p w r → ¬ Binds y p → w y ≡ v y
does_keeps {v} y (fed {l} {x} M c m d) n = bind_there v x M y n
does_keeps y (put_out e m) n = refl
does_keeps {v} y (opened {b = b'} {x = x} e f) n = bind_there v x b' y n
does_keeps {v} y (halved {a = a} {b = b'} {x = x} {y = z} e) n = bind_there (bind v x a) z b' y (λ h. n (inr h)) ∙ bind_there v x a y (λ h. n (inl h))
does_keeps y (agreed e f) n = refl

abbrev pub ClosedValues : Values → Type 0
ClosedValues v = (x : ℕ) (M : Term) → v x ≡ some M → Closed M

pub means_closed : {v : Values} → ClosedValues v → {t M : Term} → Means v t M → Closed M
means_closed h (a_name n) = tt
means_closed h (an_env n) = tt
means_closed h (a_value {x} {M} e) = h x M e
means_closed h (a_pair a b) = (means_closed h a, means_closed h b)
means_closed h (a_seal b k) = (means_closed h b, means_closed h k)

bind_closed : (v : Values) (x : ℕ) (M : Term) → ClosedValues v → Closed M → ClosedValues (bind v x M)
bind_closed v x M h c y N e = elim (bind_cases v x M y N e) [ inl q ↦ subst (λ (t : Term). Closed t) q.1 c | inr q ↦ h y N q ]

pub does_closed : {v : Values} {K : List Term} → ClosedValues v → {p : TermStep} {w : Values} {r : List TermAction} → Does v K p w r → ClosedValues w
does_closed {v} h (fed {l} {x} M c m d) = bind_closed v x M h c
does_closed h (put_out e m) = h
does_closed {v} h (opened {b = b} {x = x} e f) = bind_closed v x b h (means_closed h e).0
does_closed {v} h (halved {a = a} {b = b} {x = x} {y = y} e) = bind_closed (bind v x a) y b (bind_closed v x a h (means_closed h e).0) (means_closed h e).1
does_closed h (agreed e f) = h
