-- There is a matcher.
use mathlib.Core.Path.{◌≡◌, refl, sym, ap, ap₂, ◌∙◌, subst}
use mathlib.Core.Logic.{◌⊎◌, inl, inr}
use Prim.Native.Nat.{ℕ, zero, suc, ◌+◌, ◌<◌, ◌≤◌}
use native.Mathlib.Nat.{not-suc-le-zero, lt-suc_self}
use native.Mathlib.Decide.{ℕ_discrete}
use native.Mathlib.Omega.{arith}
use Rattle.terms.specs.Terms.{Term, name, env, var, pair, seal, inst, Vars, Occurs}
use Rattle.lifting.proofs.Instances.{vars_map}
use Rattle.lifting.proofs.Lists.{clash}
use Rattle.runs.proofs.Releasing.{choose}
use Rattle.deciding.specs.Ways.{Meets}
use Rattle.deciding.specs.Found.{EnvFree}
use Rattle.deciding.specs.Decide.{Neat, Fine, Matcher}
use Rattle.deciding.proofs.Core.{inst_inst, inst_same}
use Rattle.deciding.proofs.Ruling.{inst_meets}
use Rattle.deciding.proofs.Scanning.{vars_inst}
use Rattle.deciding.proofs.Deciding.{term?}
use Rattle.deciding.proofs.Starting.{inst_still, meets_on}

-- counting what is unbound
abbrev flag : {A : Type 0} → Dec A → ℕ
flag (yes a) = 1
flag (no f) = 0

flag_le : {A B : Type 0} (a : Dec A) (b : Dec B) → (A → B) → flag a ≤ flag b
flag_le (yes x) (yes y) f = omega arith
flag_le (yes x) (no g) f = absurd (g (f x))
flag_le (no h) (yes y) f = omega arith
flag_le (no h) (no g) f = omega arith

flag_lt : {A B : Type 0} (a : Dec A) (b : Dec B) → (A → ⊥) → B → flag a < flag b
flag_lt (yes x) b f y = absurd (f x)
flag_lt (no h) (yes z) f y = omega arith
flag_lt (no h) (no g) f y = absurd (g y)

abbrev count : (ℕ → Term) → ℕ → ℕ
count σ zero = 0
count σ (suc v) = flag (term? (σ v) (var v)) + count σ v

count_le : (σ τ : ℕ → Term) (v : ℕ) → ((y : ℕ) → τ y ≡ var y → σ y ≡ var y) → count τ v ≤ count σ v
count_le σ τ zero h = omega arith
count_le σ τ (suc v) h = let a = flag_le (term? (τ v) (var v)) (term? (σ v) (var v)) (h v) in let b = count_le σ τ v h in omega (arith, a, b)

count_lt : (σ τ : ℕ → Term) (v x : ℕ) → ((y : ℕ) → τ y ≡ var y → σ y ≡ var y) → x < v → (τ x ≡ var x → ⊥) → σ x ≡ var x → count τ v < count σ v
count_lt σ τ zero x h l f e = absurd (not-suc-le-zero l)
count_lt σ τ (suc v) x h l f e =
    elim (ℕ_discrete x v) [
      | yes q ↦ let a = flag_lt (term? (τ v) (var v)) (term? (σ v) (var v)) (λ z. f (subst (λ (y : ℕ). τ y ≡ var y) (sym q) z)) (subst (λ (y : ℕ). σ y ≡ var y) q e) in let b = count_le σ τ v h in omega (arith, a, b)
      | no n ↦ let a = flag_le (term? (τ v) (var v)) (term? (σ v) (var v)) (h v) in let b = count_lt σ τ v x h (omega arith) f e in omega (arith, a, b)
    ]

-- sizes
abbrev size : Term → ℕ
size (name n) = 1
size (env n) = 1
size (var x) = 1
size (pair a b) = suc (size a + size b)
size (seal a b) = suc (size a + size b)

occurs_size : (ρ : ℕ → Term) (x : ℕ) (t : Term) → Occurs x t → size (ρ x) ≤ size (inst ρ t)
occurs_size ρ x (name n) o = absurd o
occurs_size ρ x (env n) o = absurd o
occurs_size ρ x (var y) o = let e : size (ρ x) ≡ size (ρ y) = ap (λ (z : ℕ). size (ρ z)) o in omega (arith, e)
occurs_size ρ x (pair a b) o = elim o [ inl h ↦ let k = occurs_size ρ x a h in omega (arith, k) | inr h ↦ let k = occurs_size ρ x b h in omega (arith, k) ]
occurs_size ρ x (seal a b) o = elim o [ inl h ↦ let k = occurs_size ρ x a h in omega (arith, k) | inr h ↦ let k = occurs_size ρ x b h in omega (arith, k) ]

inside : (ρ : ℕ → Term) (x : ℕ) (t : Term) → Occurs x t → ¬ (var x ≡ t) → ¬ (ρ x ≡ inst ρ t)
inside ρ x (name n) o f e = o
inside ρ x (env n) o f e = o
inside ρ x (var y) o f e = f (ap var o)
inside ρ x (pair a b) o f e =
    let q : size (ρ x) ≡ suc (size (inst ρ a) + size (inst ρ b)) = ap size e in
    elim o [ inl h ↦ let k = occurs_size ρ x a h in omega (arith, k, q) | inr h ↦ let k = occurs_size ρ x b h in omega (arith, k, q) ]
inside ρ x (seal a b) o f e =
    let q : size (ρ x) ≡ suc (size (inst ρ a) + size (inst ρ b)) = ap size e in
    elim o [ inl h ↦ let k = occurs_size ρ x a h in omega (arith, k, q) | inr h ↦ let k = occurs_size ρ x b h in omega (arith, k, q) ]

occurs? : (x : ℕ) (t : Term) → Vars (λ y. ¬ (y ≡ x)) t ⊎ Occurs x t
occurs? x (name n) = inl tt
occurs? x (env n) = inl tt
occurs? x (var y) = elim (ℕ_discrete y x) [ yes e ↦ inr (sym e) | no f ↦ inl f ]
occurs? x (pair a b) = elim (occurs? x a) [ inr o ↦ inr (inl o) | inl p ↦ elim (occurs? x b) [ inr o ↦ inr (inr o) | inl q ↦ inl (p, q) ] ]
occurs? x (seal a b) = elim (occurs? x a) [ inr o ↦ inr (inl o) | inl p ↦ elim (occurs? x b) [ inr o ↦ inr (inr o) | inl q ↦ inl (p, q) ] ]

vars_both : (P Q : ℕ → Type 0) (t : Term) → Vars P t → Vars Q t → Vars (λ y. P y × Q y) t
vars_both P Q (name n) v w = tt
vars_both P Q (env n) v w = tt
vars_both P Q (var x) v w = (v, w)
vars_both P Q (pair a b) v w = (vars_both P Q a v.0 w.0, vars_both P Q b v.1 w.1)
vars_both P Q (seal a b) v w = (vars_both P Q a v.0 w.0, vars_both P Q b v.1 w.1)

pub inst_vars : (f g : ℕ → Term) (t : Term) → Vars (λ y. f y ≡ g y) t → inst f t ≡ inst g t
inst_vars f g (name n) v = refl
inst_vars f g (env n) v = refl
inst_vars f g (var x) v = v
inst_vars f g (pair a b) v = ap₂ pair (inst_vars f g a v.0) (inst_vars f g b v.1)
inst_vars f g (seal a b) v = ap₂ seal (inst_vars f g a v.0) (inst_vars f g b v.1)

pub free_inst : (f : ℕ → Term) → ((y : ℕ) → EnvFree (f y)) → (t : Term) → EnvFree t → EnvFree (inst f t)
free_inst f h (name n) e = tt
free_inst f h (env n) e = e
free_inst f h (var x) e = h x
free_inst f h (pair a b) e = (free_inst f h a e.0, free_inst f h b e.1)
free_inst f h (seal a b) e = (free_inst f h a e.0, free_inst f h b e.1)

abbrev put : ℕ → Term → ℕ → Term
put x t z = choose (ℕ_discrete z x) t (var z)

put_cases : (P : Term → Type 0) (x : ℕ) (t : Term) (z : ℕ) → (z ≡ x → P t) → (¬ (z ≡ x) → P (var z)) → P (put x t z)
put_cases P x t z f g = go (ℕ_discrete z x)
  where
    go : (d : Dec (z ≡ x)) → P (choose d t (var z))
    go (yes e) = f e
    go (no n) = g n

pub data Unified (V : ℕ) (σ : ℕ → Term) (s c : Term) : Type 0 where
  never : ((ρ : ℕ → Term) → Meets σ ρ → ¬ (inst ρ s ≡ inst ρ c)) → Unified V σ s c
  equal : s ≡ c → Unified V σ s c
  binds : (τ : ℕ → Term) → Fine V τ → Meets σ τ → inst τ s ≡ inst τ c → ((ρ : ℕ → Term) → Meets σ ρ → inst ρ s ≡ inst ρ c → Meets τ ρ) → count τ V < count σ V → Unified V σ s c

flip : (V : ℕ) (σ : ℕ → Term) (s c : Term) → Unified V σ s c → Unified V σ c s
flip V σ s c u =
    elim u [
      | never f ↦ never (λ ρ m e. f ρ m (sym e))
      | equal e ↦ equal (sym e)
      | binds τ f m e g l ↦ binds τ f m (sym e) (λ ρ h q. g ρ h (sym q)) l
    ]

module _ (V : ℕ) (σ : ℕ → Term) (fine : Fine V σ) (x : ℕ) (small : x < V) (open-x : σ x ≡ var x) (t : Term) (neat : Neat V σ t) (out : Vars (λ y. ¬ (y ≡ x)) t) where
  abbrev next : ℕ → Term
  next z = inst (put x t) (σ z)

  next_at : next x ≡ t
  next_at = ap (inst (put x t)) open-x ∙ put_cases (λ (s : Term). s ≡ t) x t x (λ e. refl) (λ f. absurd (f refl))

  next_other : (y : ℕ) → σ y ≡ var y → ¬ (y ≡ x) → next y ≡ var y
  next_other y e f = ap (inst (put x t)) e ∙ put_cases (λ (s : Term). s ≡ var y) x t y (λ q. absurd (f q)) (λ q. refl)

  t_still : Vars (λ y. (y < V) × (next y ≡ var y)) t
  t_still = vars_map (λ y h. (h.0.0, next_other y h.0.1 h.1)) t (vars_both (λ y. (y < V) × (σ y ≡ var y)) (λ y. ¬ (y ≡ x)) t neat.0 out)

  next_fine : Fine V next
  next_fine =
      record {
        still = λ z. vars_inst (λ y. next y ≡ var y) (put x t) (σ z) (vars_map (λ y e. put_cases (λ (s : Term). Vars (λ u. next u ≡ var u) s) x t y (λ q. vars_map (λ u h. h.1) t t_still) (λ f. next_other y e f)) (σ z) (fine.still z));
        few = λ z h. vars_inst (λ y. (y < V) × (next y ≡ var y)) (put x t) (σ z) (vars_map (λ y e. put_cases (λ (s : Term). Vars (λ u. (u < V) × (next u ≡ var u)) s) x t y (λ q. t_still) (λ f. (e.0, next_other y e.1 f))) (σ z) (fine.few z h));
        plain = λ z. free_inst (put x t) (λ y. put_cases (λ (s : Term). EnvFree s) x t y (λ q. neat.1) (λ f. tt)) (σ z) (fine.plain z);
      }

  next_meets : Meets σ next
  next_meets z = inst_vars (put x t) next (σ z) (vars_map (λ y e. sym (ap (inst (put x t)) e)) (σ z) (fine.still z))

  next_solves : next x ≡ inst next t
  next_solves = next_at ∙ sym (inst_still next t (vars_map (λ u h. h.1) t t_still))

  next_general : (ρ : ℕ → Term) → Meets σ ρ → ρ x ≡ inst ρ t → Meets next ρ
  next_general ρ m e z =
      m z ∙ sym (inst_inst (put x t) ρ (σ z) ∙ inst_same (λ y. inst ρ (put x t y)) ρ (λ y. put_cases (λ (s : Term). inst ρ s ≡ ρ y) x t y (λ q. sym e ∙ ap ρ (sym q)) (λ f. refl)) (σ z))

  kept_free : (y : ℕ) → next y ≡ var y → σ y ≡ var y
  kept_free y e = go (σ y) refl e
    where
      at_var : (z : ℕ) → σ y ≡ var z → put x t z ≡ var y → σ y ≡ var y
      at_var z q = put_cases (λ (s : Term). s ≡ var y → σ y ≡ var y) x t z
          (λ k h. let v : Vars (λ u. (u < V) × (σ u ≡ var u)) (var y) = subst (λ (s : Term). Vars (λ u. (u < V) × (σ u ≡ var u)) s) h neat.0 in v.1)
          (λ f h. q ∙ h)

      go : (u : Term) → σ y ≡ u → inst (put x t) u ≡ var y → σ y ≡ var y
      go (name n) q h = absurd (clash (cc))
      go (env n) q h = absurd (clash (cc))
      go (var z) q h = at_var z q h
      go (pair a b) q h = absurd (clash (cc))
      go (seal a b) q h = absurd (clash (cc))

  gone : next x ≡ var x → ⊥
  gone e = let v : Vars (λ y. ¬ (y ≡ x)) (var x) = subst (λ (s : Term). Vars (λ y. ¬ (y ≡ x)) s) (sym next_at ∙ e) out in v refl

  bound : Unified V σ (var x) t
  bound = binds next next_fine next_meets next_solves next_general (count_lt σ next V x kept_free small gone open-x)

bind_var : (V : ℕ) (σ : ℕ → Term) → Fine V σ → (x : ℕ) (t : Term) → Neat V σ (var x) → Neat V σ t → Unified V σ (var x) t
bind_var V σ fine x t nx nt =
    elim (term? (var x) t) [
      | yes e ↦ equal e
      | no f ↦ elim (occurs? x t) [
        | inl out ↦ bound V σ fine x nx.0.0 nx.0.1 t nt out
        | inr o ↦ never (λ ρ m e. inside ρ x t o f e)
      ]
    ]

neat_on : (V : ℕ) (σ τ : ℕ → Term) → Fine V τ → (t : Term) → Neat V σ t → Neat V τ (inst τ t)
neat_on V σ τ f t n = (vars_inst (λ y. (y < V) × (τ y ≡ var y)) τ t (vars_map (λ y h. f.few y h.0) t n.0), free_inst τ f.plain t n.1)

-- first parts, then second parts
module _ (V : ℕ) (σ : ℕ → Term) (s c a b d e : Term) (parts : (ρ : ℕ → Term) → inst ρ s ≡ inst ρ c → (inst ρ a ≡ inst ρ d) × (inst ρ b ≡ inst ρ e)) (whole : (ρ : ℕ → Term) → inst ρ a ≡ inst ρ d → inst ρ b ≡ inst ρ e → inst ρ s ≡ inst ρ c) (joined : a ≡ d → b ≡ e → s ≡ c) where
  in_turn : Unified V σ a d → Unified V σ b e → ((τ : ℕ → Term) → Fine V τ → count τ V < count σ V → Unified V τ (inst τ b) (inst τ e)) → Unified V σ s c
  in_turn first second later =
      elim first [
        | never f ↦ never (λ ρ m q. f ρ m (parts ρ q).0)
        | equal k ↦ elim second [
          | never f ↦ never (λ ρ m q. f ρ m (parts ρ q).1)
          | equal k' ↦ equal (joined k k')
          | binds τ f m q g l ↦ binds τ f m (whole τ (ap (inst τ) k) q) (λ ρ h z. g ρ h (parts ρ z).1) l
        ]
        | binds τ f m q g l ↦ elim (later τ f l) [
          | never n ↦ never (λ ρ h z. let mt = g ρ h (parts ρ z).0 in n ρ mt (inst_meets τ ρ mt b ∙ ((parts ρ z).1 ∙ sym (inst_meets τ ρ mt e))))
          | equal k ↦ binds τ f m (whole τ q k) (λ ρ h z. g ρ h (parts ρ z).0) l
          | binds υ f' m' q' g' l' ↦
              binds υ f' (meets_on σ τ υ m m')
              (whole υ (sym (inst_meets τ υ m' a) ∙ (ap (inst υ) q ∙ inst_meets τ υ m' d)) (sym (inst_meets τ υ m' b) ∙ (q' ∙ inst_meets τ υ m' e)))
              (λ ρ h z. let mt = g ρ h (parts ρ z).0 in g' ρ mt (inst_meets τ ρ mt b ∙ ((parts ρ z).1 ∙ sym (inst_meets τ ρ mt e))))
              (omega (arith, l, l'))
        ]
      ]

pair_parts : (a b d e : Term) → pair a b ≡ pair d e → (a ≡ d) × (b ≡ e)
pair_parts a b d e q = ((cc), (cc))

seal_parts : (a b d e : Term) → seal a b ≡ seal d e → (a ≡ d) × (b ≡ e)
seal_parts a b d e q = ((cc), (cc))

unify : (V r : ℕ) (s c : Term) (σ : ℕ → Term) → Fine V σ → count σ V < r → Neat V σ s → Neat V σ c → Unified V σ s c
unify V zero s c σ f h ns nc = absurd (not-suc-le-zero h)
unify V (suc r) (name n) (name m) σ f h ns nc = elim (ℕ_discrete n m) [ yes e ↦ equal (ap name e) | no g ↦ never (λ ρ k e. g (cc)) ]
unify V (suc r) (name n) (env m) σ f h ns nc = never (λ ρ k e. clash (cc))
unify V (suc r) (name n) (var y) σ f h ns nc = flip V σ (var y) (name n) (bind_var V σ f y (name n) nc ns)
unify V (suc r) (name n) (pair d e) σ f h ns nc = never (λ ρ k q. clash (cc))
unify V (suc r) (name n) (seal d e) σ f h ns nc = never (λ ρ k q. clash (cc))
unify V (suc r) (env n) c σ f h ns nc = absurd ns.1
unify V (suc r) (var x) c σ f h ns nc = bind_var V σ f x c ns nc
unify V (suc r) (pair a b) (name m) σ f h ns nc = never (λ ρ k q. clash (cc))
unify V (suc r) (pair a b) (env m) σ f h ns nc = never (λ ρ k q. clash (cc))
unify V (suc r) (pair a b) (var y) σ f h ns nc = flip V σ (var y) (pair a b) (bind_var V σ f y (pair a b) nc ns)
unify V (suc r) (pair a b) (pair d e) σ f h ns nc =
    in_turn V σ (pair a b) (pair d e) a b d e (λ ρ q. pair_parts (inst ρ a) (inst ρ b) (inst ρ d) (inst ρ e) q) (λ ρ q z. ap₂ pair q z) (λ q z. ap₂ pair q z)
    (unify V (suc r) a d σ f h (ns.0.0, ns.1.0) (nc.0.0, nc.1.0))
    (unify V (suc r) b e σ f h (ns.0.1, ns.1.1) (nc.0.1, nc.1.1))
    (λ τ ft l. unify V r (inst τ b) (inst τ e) τ ft (omega (arith, l, h)) (neat_on V σ τ ft b (ns.0.1, ns.1.1)) (neat_on V σ τ ft e (nc.0.1, nc.1.1)))
unify V (suc r) (pair a b) (seal d e) σ f h ns nc = never (λ ρ k q. clash (cc))
unify V (suc r) (seal a b) (name m) σ f h ns nc = never (λ ρ k q. clash (cc))
unify V (suc r) (seal a b) (env m) σ f h ns nc = never (λ ρ k q. clash (cc))
unify V (suc r) (seal a b) (var y) σ f h ns nc = flip V σ (var y) (seal a b) (bind_var V σ f y (seal a b) nc ns)
unify V (suc r) (seal a b) (pair d e) σ f h ns nc = never (λ ρ k q. clash (cc))
unify V (suc r) (seal a b) (seal d e) σ f h ns nc =
    in_turn V σ (seal a b) (seal d e) a b d e (λ ρ q. seal_parts (inst ρ a) (inst ρ b) (inst ρ d) (inst ρ e) q) (λ ρ q z. ap₂ seal q z) (λ q z. ap₂ seal q z)
    (unify V (suc r) a d σ f h (ns.0.0, ns.1.0) (nc.0.0, nc.1.0))
    (unify V (suc r) b e σ f h (ns.0.1, ns.1.1) (nc.0.1, nc.1.1))
    (λ τ ft l. unify V r (inst τ b) (inst τ e) τ ft (omega (arith, l, h)) (neat_on V σ τ ft b (ns.0.1, ns.1.1)) (neat_on V σ τ ft e (nc.0.1, nc.1.1)))

pub a_matcher : (V : ℕ) → Matcher V
a_matcher V =
    record {
      room = λ σ. count σ V;
      tries = λ σ f s c ns nc ne.
          elim (unify V (suc (count σ V)) s c σ f (lt-suc_self (count σ V)) ns nc) [
            | never g ↦ inl (λ ρ cl. g ρ)
            | equal e ↦ absurd (ne e)
            | binds τ ft m q g l ↦ inr (τ, ft, m, q, (λ ρ cl. g ρ), l)
          ];
    }
