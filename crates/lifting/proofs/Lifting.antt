-- The lifting lemma, and what follows.
use mathlib.Core.Path.{◌≡◌, sym, subst}
use mathlib.Core.List.Memᴰ
use mathlib.Core.List.{List, [], ◌∷◌}
use mathlib.Core.Logic.{inl, inr}
use Prim.Native.Nat.{ℕ, zero, suc, ◌<◌, ◌≤◌}
use native.Mathlib.Nat.{le_of_suc-le-suc, not-suc-le-zero, le_of_lt, lt-suc_self}
use native.Mathlib.Omega.{arith}
use lib.ListN.{take}
use Rattle.terms.specs.Terms.{Term, name, env, var, pair, seal, inst, IsName}
use Rattle.derivation.specs.Derive.{Derives, ◌⊆◌}
use Rattle.lifting.specs.Lift.{NonVar, Analz, Covers, by_var, by_env, by_name, leaf, known, Marked, Keyed, Lifting, Lowering, LocalName, ShutSeal}
use Rattle.lifting.proofs.Lists.{clash}

pub take_mono : (k j : ℕ) (xs : List Term) → k ≤ j → take k xs ⊆ take j xs
take_mono zero j xs h t m = absurd (Memᴰ.not-nil m)
take_mono (suc k) zero xs h t m = absurd (not-suc-le-zero h)
take_mono (suc k) (suc j) [] h t m = m
take_mono (suc k) (suc j) (x ∷ xs) h t m = elim (Memᴰ.cases_cons m) [ inl e ↦ Memᴰ.head e | inr r ↦ Memᴰ.tail (take_mono k j xs (le_of_suc-le-suc h) t r) ]

pub analz_mono : {S R : List Term} → S ⊆ R → {t : Term} → Analz S t → Analz R t
analz_mono h (Analz.listed m) = Analz.listed (h _ m)
analz_mono h (Analz.left a) = Analz.left (analz_mono h a)
analz_mono h (Analz.right a) = Analz.right (analz_mono h a)
analz_mono h (by_var a) = by_var (analz_mono h a)
analz_mono h (by_env a) = by_env (analz_mono h a)
analz_mono h (by_name a b) = by_name (analz_mono h a) (analz_mono h b)

pub covers_mono : {ρ : ℕ → Term} {S R : List Term} → S ⊆ R → {N : Term} → Covers ρ S N → Covers ρ R N
covers_mono h (leaf c v a e) = leaf c v (analz_mono h a) e
covers_mono h (Covers.public n) = Covers.public n
covers_mono h (Covers.both p q) = Covers.both (covers_mono h p) (covers_mono h q)
covers_mono h (Covers.make_seal p n q) = Covers.make_seal (covers_mono h p) n (covers_mono h q)

-- a covered local name is reached as a name
from_name : {S : List Term} (ρ : ℕ → Term) (n : ℕ) (c : Term) → NonVar c → Analz S c → name n ≡ inst ρ c → Analz S (name n)
from_name {S} ρ n (name m) v a e = subst (λ (t : Term). Analz S t) (sym e) a
from_name ρ n (env m) v a e = absurd (clash (cc))
from_name ρ n (var x) v a e = absurd v
from_name ρ n (pair c d) v a e = absurd (clash (cc))
from_name ρ n (seal c d) v a e = absurd (clash (cc))

pub name_in : {ρ : ℕ → Term} {S : List Term} {n : ℕ} → Covers ρ S (name n) → Analz S (name n)
name_in {ρ} {S} {n} (leaf c v a e) = from_name ρ n c v a e

module _ (acts : List Term) (ρ : ℕ → Term) (marks : Marked acts ρ) (j : ℕ) (below : (k : ℕ) → k < j → (N : Term) → Derives (known acts ρ k) N → Covers ρ (take k acts) N) where
  -- what is reached is covered, also where it is a variable
  cover : (c : Term) → Analz (take j acts) c → {N : Term} → N ≡ inst ρ c → Covers ρ (take j acts) N
  cover (name n) a e = leaf (name n) tt a e
  cover (env n) a e = leaf (env n) tt a e
  cover (var x) a e =
      let m = marks j x a in
      subst (λ (N : Term). Covers ρ (take j acts) N) (sym e) (covers_mono (take_mono m.0 j acts (le_of_lt m.1)) (below m.0 m.1 (ρ x) m.2))
  cover (pair c d) a e = leaf (pair c d) tt a e
  cover (seal c d) a e = leaf (seal c d) tt a e

  left_leaf : (c : Term) → NonVar c → Analz (take j acts) c → {a b : Term} → pair a b ≡ inst ρ c → Covers ρ (take j acts) a
  left_leaf (name n) v z e = absurd (clash (cc))
  left_leaf (env n) v z e = absurd (clash (cc))
  left_leaf (var x) v z e = absurd v
  left_leaf (pair c d) v z e = cover c (Analz.left z) (cc)
  left_leaf (seal c d) v z e = absurd (clash (cc))

  right_leaf : (c : Term) → NonVar c → Analz (take j acts) c → {a b : Term} → pair a b ≡ inst ρ c → Covers ρ (take j acts) b
  right_leaf (name n) v z e = absurd (clash (cc))
  right_leaf (env n) v z e = absurd (clash (cc))
  right_leaf (var x) v z e = absurd v
  right_leaf (pair c d) v z e = cover d (Analz.right z) (cc)
  right_leaf (seal c d) v z e = absurd (clash (cc))

  left_of : {a b : Term} → Covers ρ (take j acts) (pair a b) → Covers ρ (take j acts) a
  left_of (leaf c v z e) = left_leaf c v z e
  left_of (Covers.both p q) = p

  right_of : {a b : Term} → Covers ρ (take j acts) (pair a b) → Covers ρ (take j acts) b
  right_of (leaf c v z e) = right_leaf c v z e
  right_of (Covers.both p q) = q

  -- the body of a reached seal is reached, where its key's instance is a covered name
  opened : (d k : Term) → Analz (take j acts) (seal d k) → IsName (inst ρ k) → Covers ρ (take j acts) (inst ρ k) → Analz (take j acts) d
  opened d (name m) z n q = by_name z (name_in q)
  opened d (env m) z n q = by_env z
  opened d (var x) z n q = by_var z
  opened d (pair s t) z n q = absurd n
  opened d (seal s t) z n q = absurd n

  body_leaf : (c : Term) → NonVar c → Analz (take j acts) c → {b k : Term} → seal b k ≡ inst ρ c → IsName k → Covers ρ (take j acts) k → Covers ρ (take j acts) b
  body_leaf (name m) v z e n q = absurd (clash (cc))
  body_leaf (env m) v z e n q = absurd (clash (cc))
  body_leaf (var x) v z e n q = absurd v
  body_leaf (pair c d) v z e n q = absurd (clash (cc))
  body_leaf (seal c d) v z {b} {k} e n q =
      let same_key : k ≡ inst ρ d = cc in
      cover c (opened c d z (subst (λ (t : Term). IsName t) same_key n) (subst (λ (t : Term). Covers ρ (take j acts) t) same_key q)) (cc)

  body_of : {b k : Term} → Covers ρ (take j acts) (seal b k) → IsName k → Covers ρ (take j acts) k → Covers ρ (take j acts) b
  body_of (leaf c v z e) n q = body_leaf c v z e n q
  body_of (Covers.make_seal p n q) n' q' = p

  lift_at : {N : Term} → Derives (known acts ρ j) N → Covers ρ (take j acts) N
  lift_at (Derives.listed m) = let r = Memᴰ.of_map (inst ρ) (take j acts) m in cover r.0 (Analz.listed r.1) (sym r.2)
  lift_at (Derives.public n) = Covers.public n
  lift_at (Derives.left d) = left_of (lift_at d)
  lift_at (Derives.right d) = right_of (lift_at d)
  lift_at (Derives.both d e) = Covers.both (lift_at d) (lift_at e)
  lift_at (Derives.open_seal d n e) = body_of (lift_at d) n (lift_at e)
  lift_at (Derives.make_seal d n e) = Covers.make_seal (lift_at d) n (lift_at e)

lift_below : (acts : List Term) (ρ : ℕ → Term) → Marked acts ρ → (n j : ℕ) → j < n → (N : Term) → Derives (known acts ρ j) N → Covers ρ (take j acts) N
lift_below acts ρ marks zero j h N d = absurd (not-suc-le-zero h)
lift_below acts ρ marks (suc n) j h N d = lift_at acts ρ marks j (λ k hk M e. lift_below acts ρ marks n k (omega arith) M e) d

pub lifting : Lifting
lifting acts ρ marks j N d = lift_below acts ρ marks (suc j) j (lt-suc_self j) N d

module _ (acts : List Term) (ρ : ℕ → Term) (keys : Keyed acts ρ) (j : ℕ) where
  -- what is reached is derived
  pub analz_sound : {c : Term} → Analz (take j acts) c → Derives (known acts ρ j) (inst ρ c)
  analz_sound (Analz.listed m) = Derives.listed (Memᴰ.map (inst ρ) m)
  analz_sound (Analz.left a) = Derives.left (analz_sound a)
  analz_sound (Analz.right a) = Derives.right (analz_sound a)
  analz_sound (by_var {b} {x} a) = let k = keys j b x a in Derives.open_seal (analz_sound a) k.0 k.1
  analz_sound (by_env {b} {n} a) = Derives.open_seal (analz_sound a) tt (Derives.public n)
  analz_sound (by_name a k) = Derives.open_seal (analz_sound a) tt (analz_sound k)

  pub lower : {N : Term} → Covers ρ (take j acts) N → Derives (known acts ρ j) N
  lower (leaf c v a e) = subst (λ (t : Term). Derives (known acts ρ j) t) (sym e) (analz_sound a)
  lower (Covers.public n) = Derives.public n
  lower (Covers.both p q) = Derives.both (lower p) (lower q)
  lower (Covers.make_seal p n q) = Derives.make_seal (lower p) n (lower q)

pub lowering : Lowering
lowering acts ρ keys j N p = lower acts ρ keys j p

pub local_name : LocalName
local_name acts ρ marks j n d = name_in (lifting acts ρ marks j (name n) d)

seal_leaf : {S : List Term} (ρ : ℕ → Term) (b k c : Term) → NonVar c → Analz S c → seal b k ≡ inst ρ c → (b' : Term) × (k' : Term) × Analz S (seal b' k') × (seal b k ≡ inst ρ (seal b' k'))
seal_leaf ρ b k (name m) v a e = absurd (clash (cc))
seal_leaf ρ b k (env m) v a e = absurd (clash (cc))
seal_leaf ρ b k (var x) v a e = absurd v
seal_leaf ρ b k (pair c d) v a e = absurd (clash (cc))
seal_leaf ρ b k (seal c d) v a e = (c, d, a, e)

seal_in : {ρ : ℕ → Term} {S : List Term} {b k : Term} → (Covers ρ S k → ⊥) → Covers ρ S (seal b k) → (b' : Term) × (k' : Term) × Analz S (seal b' k') × (seal b k ≡ inst ρ (seal b' k'))
seal_in {ρ} {S} {b} {k} no_key (leaf c v a e) = seal_leaf ρ b k c v a e
seal_in no_key (Covers.make_seal p n q) = absurd (no_key q)

pub shut_seal : ShutSeal
shut_seal acts ρ marks keys j b k d no_key = seal_in (λ q. no_key (lower acts ρ keys j q)) (lifting acts ρ marks j (seal b k) d)
