-- Marks on terms that are sound, hold the listed terms and are shut: what is composed from them is just what is derived.
use Rattle.std.proofs.Common.{◌≡◌, Bool, true, ◌&&◌, List, Decides, sym, refl, ◌∙◌, ⊎_elim}
use mathlib.Core.List.{Memᴰ}
use Rattle.std.proofs.lemmas.Bool.{and_parts, and_from, or_cases, or_left, or_right, cond-true, false≢true}
use Rattle.terms.specs.Terms.{Term, name, env, var, pair, seal, IsName}
use Rattle.derivation.specs.Derive.{Derives, listed, public, left, right, both, open_seal, make_seal}
use Rattle.analysis.specs.Parts.{opens, taken, name?, composed}

pub name_true : (k : Term) → name? k ≡ true → IsName k
name_true (name n) e = tt
name_true (env n) e = tt
name_true (var x) e = absurd (false≢true e)
name_true (pair a b) e = absurd (false≢true e)
name_true (seal a b) e = absurd (false≢true e)

pub true_name : (k : Term) → IsName k → name? k ≡ true
true_name (name n) i = refl
true_name (env n) i = refl
true_name (var x) i = absurd i
true_name (pair a b) i = absurd i
true_name (seal a b) i = absurd i

module _ (K : List Term) (kn : Term → Bool) where
  known_composed : (t : Term) → kn t ≡ true → composed kn t ≡ true
  known_composed (name n) e = e
  known_composed (env n) e = refl
  known_composed (var x) e = e
  known_composed (pair a b) e = or_left (kn (pair a b)) (composed kn a && composed kn b) e
  known_composed (seal b k) e = or_left (kn (seal b k)) (name? k && (composed kn b && composed kn k)) e

  module _ (sound : (t : Term) → kn t ≡ true → Derives K t) where
    sound_composed : (t : Term) → composed kn t ≡ true → Derives K t
    sound_composed (name n) e = sound (name n) e
    sound_composed (env n) e = public n
    sound_composed (var x) e = sound (var x) e
    sound_composed (pair a b) e =
        ⊎_elim (λ h. sound (pair a b) h)
        (λ h. let p = and_parts (composed kn a) (composed kn b) h in both (sound_composed a p.0) (sound_composed b p.1))
        (or_cases (kn (pair a b)) (composed kn a && composed kn b) e)
    sound_composed (seal b k) e =
        ⊎_elim (λ h. sound (seal b k) h)
        (λ h. let p = and_parts (name? k) (composed kn b && composed kn k) h in
        let q = and_parts (composed kn b) (composed kn k) p.1 in
        make_seal (sound_composed b q.0) (name_true k p.0) (sound_composed k q.1))
        (or_cases (kn (seal b k)) (name? k && (composed kn b && composed kn k)) e)

  -- a composed name opens
  name_opens : (k : Term) → IsName k → composed kn k ≡ true → opens kn k ≡ true
  name_opens (name n) i e = e
  name_opens (env n) i e = refl
  name_opens (var x) i e = absurd i
  name_opens (pair a b) i e = absurd i
  name_opens (seal a b) i e = absurd i

  module _ (has : (t : Term) → Memᴰ t K → kn t ≡ true) (shut : (t : Term) → kn t ≡ true → taken kn t ≡ true) where
    all_composed : {t : Term} → Derives K t → composed kn t ≡ true
    all_composed (listed m) = known_composed _ (has _ m)
    all_composed (public n) = refl
    all_composed (left {a} {b} d) =
        ⊎_elim (λ h. known_composed a (and_parts (kn a) (kn b) (shut (pair a b) h)).0) (λ h. (and_parts (composed kn a) (composed kn b) h).0)
        (or_cases (kn (pair a b)) (composed kn a && composed kn b) (all_composed d))
    all_composed (right {a} {b} d) =
        ⊎_elim (λ h. known_composed b (and_parts (kn a) (kn b) (shut (pair a b) h)).1) (λ h. (and_parts (composed kn a) (composed kn b) h).1)
        (or_cases (kn (pair a b)) (composed kn a && composed kn b) (all_composed d))
    all_composed (both {a} {b} d e) = or_right (kn (pair a b)) (composed kn a && composed kn b) (and_from (composed kn a) (composed kn b) (all_composed d) (all_composed e))
    all_composed (open_seal {b} {k} d i e) =
        let o = name_opens k i (all_composed e) in
        ⊎_elim (λ h. known_composed b (sym (cond-true (opens kn k) (kn b) true o) ∙ shut (seal b k) h))
        (λ h. let p = and_parts (name? k) (composed kn b && composed kn k) h in (and_parts (composed kn b) (composed kn k) p.1).0)
        (or_cases (kn (seal b k)) (name? k && (composed kn b && composed kn k)) (all_composed d))
    all_composed (make_seal {b} {k} d i e) =
        or_right (kn (seal b k)) (name? k && (composed kn b && composed kn k))
        (and_from (name? k) (composed kn b && composed kn k) (true_name k i) (and_from (composed kn b) (composed kn k) (all_composed d) (all_composed e)))

pub composed_decides : (K : List Term) (kn : Term → Bool) → ((t : Term) → kn t ≡ true → Derives K t) → ((t : Term) → Memᴰ t K → kn t ≡ true) → ((t : Term) → kn t ≡ true → taken kn t ≡ true) → (t : Term) → Decides (composed kn t) (Derives K t)
composed_decides K kn sound has shut t = (λ e. sound_composed K kn sound t e, λ d. all_composed K kn has shut d)
