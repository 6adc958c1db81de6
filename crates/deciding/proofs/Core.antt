-- One need, under one valuation.
use mathlib.Core.Path.{◌≡◌, refl, sym, ap, ap₂, ◌∙◌, subst}
use mathlib.Core.Option.{some, some-injective}
use mathlib.Core.List.Memᴰ
use mathlib.Core.List.{List, [], ◌∷◌, map, Memᴰ}
use mathlib.Core.Logic.{◌⊎◌, inl, inr}
use Prim.Native.Nat.{ℕ, zero, suc, ◌<◌, ◌≤◌}
use native.Mathlib.Nat.{not-suc-le-zero, le_of_suc-le-suc, le_of_lt}
use native.Mathlib.Omega.{arith}
use lib.ListN.{take, get_elem?}
use Rattle.terms.specs.Terms.{Term, name, env, var, pair, seal, inst, Closed, IsName, Atom, Message, Vars}
use Rattle.derivation.specs.Derive.{Derives, ◌⊆◌}
use Rattle.derivation.proofs.Deriving.{monotone}
use Rattle.lifting.specs.Lift.{NonVar, Analz, Covers, by_var, by_env, by_name, leaf, known, Marked, Keyed}
use Rattle.lifting.proofs.Lifting.{lifting, take_mono, name_in, analz_sound}
use Rattle.lifting.proofs.Instances.{vars_map}
use Rattle.lifting.proofs.Lists.{clash, none_some}

-- the variables of what is reached are variables of what is listed
pub analz_vars : (P : ℕ → Type 0) {S : List Term} → ((t : Term) → Memᴰ t S → Vars P t) → {t : Term} → Analz S t → Vars P t
analz_vars P h (Analz.listed m) = h _ m
analz_vars P h (Analz.left a) = (analz_vars P h a).0
analz_vars P h (Analz.right a) = (analz_vars P h a).1
analz_vars P h (by_var a) = (analz_vars P h a).0
analz_vars P h (by_env a) = (analz_vars P h a).0
analz_vars P h (by_name a k) = (analz_vars P h a).0

pub analz_message : (ρ : ℕ → Term) {S : List Term} → ((t : Term) → Memᴰ t S → Message (inst ρ t)) → {t : Term} → Analz S t → Message (inst ρ t)
analz_message ρ h (Analz.listed m) = h _ m
analz_message ρ h (Analz.left a) = (analz_message ρ h a).0
analz_message ρ h (Analz.right a) = (analz_message ρ h a).1
analz_message ρ h (by_var a) = (analz_message ρ h a).0
analz_message ρ h (by_env a) = (analz_message ρ h a).0
analz_message ρ h (by_name a k) = (analz_message ρ h a).0

-- places and beginnings of a list
pub take-take : (k j : ℕ) (xs : List Term) → k ≤ j → take k (take j xs) ≡ take k xs
take-take zero j xs h = refl
take-take (suc k) zero xs h = absurd (not-suc-le-zero h)
take-take (suc k) (suc j) [] h = refl
take-take (suc k) (suc j) (x ∷ xs) h = ap (λ (z : List Term). x ∷ z) (take-take k j xs (le_of_suc-le-suc h))

pub mem_place : (i : ℕ) (xs : List Term) (t : Term) → Memᴰ t (take i xs) → (k : ℕ) × (k < i) × (get_elem? xs k ≡ some t)
mem_place zero xs t m = absurd (Memᴰ.not-nil m)
mem_place (suc i) [] t m = absurd (Memᴰ.not-nil m)
mem_place (suc i) (x ∷ xs) t m =
    elim (Memᴰ.cases_cons m) [
      | inl e ↦ (0, omega arith, ap some (sym e))
      | inr r ↦ let q = mem_place i xs t r in (suc q.0, omega (arith, q.1), q.2)
    ]

pub place_mem : (xs : List Term) (k : ℕ) (t : Term) → get_elem? xs k ≡ some t → Memᴰ t xs
place_mem [] k t e = absurd (none_some t e)
place_mem (x ∷ xs) zero t e = Memᴰ.head (sym (some-injective x t e))
place_mem (x ∷ xs) (suc k) t e = Memᴰ.tail (place_mem xs k t e)

place_below : (j : ℕ) (xs : List Term) (k : ℕ) (t : Term) → get_elem? (take j xs) k ≡ some t → (k < j) × (get_elem? xs k ≡ some t)
place_below zero xs k t e = absurd (none_some t e)
place_below (suc j) [] k t e = absurd (none_some t e)
place_below (suc j) (x ∷ xs) zero t e = (omega arith, e)
place_below (suc j) (x ∷ xs) (suc k) t e = let q = place_below j xs k t e in (omega (arith, q.0), q.1)

map_within : (ρ : ℕ → Term) (xs ys : List Term) → xs ⊆ ys → map (inst ρ) xs ⊆ map (inst ρ) ys
map_within ρ xs ys h t m = let r = Memᴰ.of_map (inst ρ) xs m in subst (λ (s : Term). Memᴰ s (map (inst ρ) ys)) r.2 (Memᴰ.map (inst ρ) (h r.0 r.1))

pub known_grows : (acts : List Term) (ρ : ℕ → Term) (i j : ℕ) → i ≤ j → (t : Term) → Derives (known acts ρ i) t → Derives (known acts ρ j) t
known_grows acts ρ i j h t d = monotone (known acts ρ i) (known acts ρ j) (map_within ρ (take i acts) (take j acts) (take_mono i j acts h)) t d

pub known_take : (acts : List Term) (ρ : ℕ → Term) (k j : ℕ) → k ≤ j → known (take j acts) ρ k ≡ known acts ρ k
known_take acts ρ k j h = ap (map (inst ρ)) (take-take k j acts h)

-- every variable of an action before j is derived before that action
abbrev pub Vouched : List Term → (ℕ → Term) → ℕ → Type 0
Vouched acts ρ j = (i : ℕ) (t : Term) → i < j → get_elem? acts i ≡ some t → Vars (λ x. Derives (known acts ρ i) (ρ x)) t

key_name : (k : Term) → Atom k → Closed k → IsName k
key_name (name n) i c = tt
key_name (env n) i c = tt
key_name (var x) i c = absurd c
key_name (pair a b) i c = absurd i
key_name (seal a b) i c = absurd i

le_self : (j : ℕ) → j ≤ j
le_self j = omega arith

module _ (acts : List Term) (ρ : ℕ → Term) (j : ℕ) (vouched : Vouched acts ρ j) where
  early : (i : ℕ) → {t : Term} → Analz (take i (take j acts)) t → Vars (λ x. (k : ℕ) × (k < i) × Derives (known (take j acts) ρ k) (ρ x)) t
  early i a =
      analz_vars (λ x. (k : ℕ) × (k < i) × Derives (known (take j acts) ρ k) (ρ x)) (λ t m.
      let p = mem_place i (take j acts) t m in
      let q = place_below j acts p.0 t p.2 in
      vars_map (λ x d. (p.0, p.1, subst (λ (K : List Term). Derives K (ρ x)) (sym (known_take acts ρ p.0 j (le_of_lt q.0))) d)) t (vouched p.0 t q.0 q.1)) a

  marked : Marked (take j acts) ρ
  marked i x a = early i a

  pub lift_here : (N : Term) → Derives (known acts ρ j) N → Covers ρ (take j acts) N
  lift_here N d =
      subst (λ (S : List Term). Covers ρ S N) (take-take j j acts (le_self j)) (lifting (take j acts) ρ marked j N (subst (λ (K : List Term). Derives K N) (sym (known_take acts ρ j j (le_self j))) d))

  pub name_here : (n : ℕ) → Derives (known acts ρ j) (name n) → Analz (take j acts) (name n)
  name_here n d = name_in (lift_here (name n) d)

  module _ (messages : (t : Term) → Memᴰ t acts → Message (inst ρ t)) (closed : (x : ℕ) → Closed (ρ x)) where
    listed_message : (i : ℕ) (t : Term) → Memᴰ t (take i (take j acts)) → Message (inst ρ t)
    listed_message i t m =
        let p = mem_place i (take j acts) t m in
        let q = place_below j acts p.0 t p.2 in
        messages t (place_mem acts p.0 t q.1)

    keyed : Keyed (take j acts) ρ
    keyed i b x a =
        let e = (early i a).1 in
        (key_name (ρ x) (analz_message ρ (listed_message i) a).1 (closed x), known_grows (take j acts) ρ e.0 i (le_of_lt e.1) (ρ x) e.2)

    pub sound_here : {c : Term} → Analz (take j acts) c → Derives (known acts ρ j) (inst ρ c)
    sound_here {c} a =
        subst (λ (K : List Term). Derives K (inst ρ c)) (known_take acts ρ j j (le_self j)) (analz_sound (take j acts) ρ keyed j (subst (λ (S : List Term). Analz S c) (sym (take-take j j acts (le_self j))) a))

    here_message : (t : Term) → Memᴰ t (take j acts) → Message (inst ρ t)
    here_message t m = let p = mem_place j acts t m in messages t (place_mem acts p.0 t p.2)

    -- the key and the body are derived, or the seal is a box under a name that is not reached
    abbrev SealCases : Term → Term → Type 0
    SealCases B U = (Derives (known acts ρ j) B × Derives (known acts ρ j) U) ⊎ ((b : Term) × (n : ℕ) × Analz (take j acts) (seal b (name n)) × (¬ Analz (take j acts) (name n)) × (seal B U ≡ inst ρ (seal b (name n))))

    from_box : (d : Term) → {B U : Term} → Derives (known acts ρ j) (seal B U) → (k : Term) → Analz (take j acts) (seal d k) → ((n : ℕ) → Dec (Analz (take j acts) (name n))) → seal B U ≡ inst ρ (seal d k) → SealCases B U
    from_box d {B} {U} h (name n) a dec e =
        let key : name n ≡ U = cc in
        elim (dec n) [
          | yes r ↦ let u : Derives (known acts ρ j) U = subst (λ (t : Term). Derives (known acts ρ j) t) key (sound_here r) in inl (Derives.open_seal h (subst (λ (t : Term). IsName t) key tt) u, u)
          | no f ↦ inr (d, n, a, f, e)
        ]
    from_box d {B} {U} h (env n) a dec e =
        let key : env n ≡ U = cc in
        let u : Derives (known acts ρ j) U = subst (λ (t : Term). Derives (known acts ρ j) t) key (Derives.public n) in
        inl (Derives.open_seal h (subst (λ (t : Term). IsName t) key tt) u, u)
    from_box d {B} {U} h (var x) a dec e =
        let key : ρ x ≡ U = cc in
        let z : Analz (take j (take j acts)) (seal d (var x)) = subst (λ (S : List Term). Analz S (seal d (var x))) (sym (take-take j j acts (le_self j))) a in
        let k = keyed j d x z in
        let u : Derives (known acts ρ j) U = subst (λ (t : Term). Derives (known acts ρ j) t) key (subst (λ (K : List Term). Derives K (ρ x)) (known_take acts ρ j j (le_self j)) k.1) in
        inl (Derives.open_seal h (subst (λ (t : Term). IsName t) key k.0) u, u)
    from_box d h (pair s t) a dec e = absurd (analz_message ρ here_message a).1
    from_box d h (seal s t) a dec e = absurd (analz_message ρ here_message a).1

    from_leaf : (c : Term) → {B U : Term} → Derives (known acts ρ j) (seal B U) → NonVar c → Analz (take j acts) c → ((n : ℕ) → Dec (Analz (take j acts) (name n))) → seal B U ≡ inst ρ c → SealCases B U
    from_leaf (name n) h v a dec e = absurd (clash (cc))
    from_leaf (env n) h v a dec e = absurd (clash (cc))
    from_leaf (var x) h v a dec e = absurd v
    from_leaf (pair c d) h v a dec e = absurd (clash (cc))
    from_leaf (seal c d) h v a dec e = from_box c h d a dec e

    lower_covers : {N : Term} → Covers ρ (take j acts) N → Derives (known acts ρ j) N
    lower_covers (leaf c v a e) = subst (λ (t : Term). Derives (known acts ρ j) t) (sym e) (sound_here a)
    lower_covers (Covers.public n) = Derives.public n
    lower_covers (Covers.both p q) = Derives.both (lower_covers p) (lower_covers q)
    lower_covers (Covers.make_seal p n q) = Derives.make_seal (lower_covers p) n (lower_covers q)

    from_covers : {B U : Term} → Derives (known acts ρ j) (seal B U) → ((n : ℕ) → Dec (Analz (take j acts) (name n))) → Covers ρ (take j acts) (seal B U) → SealCases B U
    from_covers h dec (leaf c v a e) = from_leaf c h v a dec e
    from_covers h dec (Covers.make_seal p n q) = inl (lower_covers p, lower_covers q)

    pub seal_here : (B U : Term) → ((n : ℕ) → Dec (Analz (take j acts) (name n))) → Derives (known acts ρ j) (seal B U) → (Derives (known acts ρ j) B × Derives (known acts ρ j) U) ⊎ ((b : Term) × (n : ℕ) × Analz (take j acts) (seal b (name n)) × (¬ Analz (take j acts) (name n)) × (seal B U ≡ inst ρ (seal b (name n))))
    seal_here B U dec d = from_covers d dec (lift_here (seal B U) d)

pub message_shown : (ρ : ℕ → Term) (t : Term) → Message (inst ρ t) → Message t
message_shown ρ (name n) m = tt
message_shown ρ (env n) m = tt
message_shown ρ (var x) m = tt
message_shown ρ (pair a b) m = (message_shown ρ a m.0, message_shown ρ b m.1)
message_shown ρ (seal b k) m = (message_shown ρ b m.0, key_shown k m.1)
  where
    key_shown : (u : Term) → Atom (inst ρ u) → Atom u
    key_shown (name n) i = tt
    key_shown (env n) i = tt
    key_shown (var x) i = tt
    key_shown (pair c d) i = i
    key_shown (seal c d) i = i

-- the instance of a walked term
pub inst_inst : (σ ρ : ℕ → Term) (t : Term) → inst ρ (inst σ t) ≡ inst (λ x. inst ρ (σ x)) t
inst_inst σ ρ (name n) = refl
inst_inst σ ρ (env n) = refl
inst_inst σ ρ (var x) = refl
inst_inst σ ρ (pair a b) = ap₂ pair (inst_inst σ ρ a) (inst_inst σ ρ b)
inst_inst σ ρ (seal b k) = ap₂ seal (inst_inst σ ρ b) (inst_inst σ ρ k)

pub inst_same : (ρ τ : ℕ → Term) → ((x : ℕ) → ρ x ≡ τ x) → (t : Term) → inst ρ t ≡ inst τ t
inst_same ρ τ h (name n) = refl
inst_same ρ τ h (env n) = refl
inst_same ρ τ h (var x) = h x
inst_same ρ τ h (pair a b) = ap₂ pair (inst_same ρ τ h a) (inst_same ρ τ h b)
inst_same ρ τ h (seal b k) = ap₂ seal (inst_same ρ τ h b) (inst_same ρ τ h k)

pub known_walked : (σ ρ τ : ℕ → Term) → ((x : ℕ) → τ x ≡ inst ρ (σ x)) → (xs : List Term) (j : ℕ) → known (map (inst σ) xs) ρ j ≡ known xs τ j
known_walked σ ρ τ h xs zero = refl
known_walked σ ρ τ h [] (suc j) = refl
known_walked σ ρ τ h (x ∷ xs) (suc j) = ap₂ (λ (a : Term) (r : List Term). a ∷ r) (inst_inst σ ρ x ∙ sym (inst_same τ (λ y. inst ρ (σ y)) h x)) (known_walked σ ρ τ h xs j)
