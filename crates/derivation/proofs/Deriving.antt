-- Derivation grows with the list, and has cut; closed terms and messages stay so.
use mathlib.Core.Path.{◌≡◌, refl, sym, subst}
use mathlib.Core.Logic.{◌⊎◌, inl, inr, ⊎_elim}
use mathlib.Core.List.Memᴰ
use mathlib.Core.List.{List, [], ◌∷◌, Memᴰ}
use Prim.Native.Nat.{ℕ}
use Rattle.terms.specs.Terms.{Term, name, env, var, pair, seal, Closed, Message, IsName, Atom}
use Rattle.derivation.specs.Derive.{Derives, listed, public, left, right, both, open_seal, make_seal, Monotone, Cut, StaysClosed, StaysMessage, SealedSecret}

pub cut : (K L : List Term) → ((t : Term) → Memᴰ t L → Derives K t) → {t : Term} → Derives L t → Derives K t
cut K L h (listed m) = h _ m
cut K L h (public n) = public n
cut K L h (left d) = left (cut K L h d)
cut K L h (right d) = right (cut K L h d)
cut K L h (both d e) = both (cut K L h d) (cut K L h e)
cut K L h (open_seal d n e) = open_seal (cut K L h d) n (cut K L h e)
cut K L h (make_seal d n e) = make_seal (cut K L h d) n (cut K L h e)

pub cut_stands : Cut
cut_stands K L h t d = cut K L h d

pub monotone : Monotone
monotone K L sub t d = cut L K (λ s m. listed (sub s m)) d

-- what is derived from closed terms is closed
pub derives_closed : {K : List Term} → ((t : Term) → Memᴰ t K → Closed t) → {t : Term} → Derives K t → Closed t
derives_closed h (listed m) = h _ m
derives_closed h (public n) = tt
derives_closed h (left d) = (derives_closed h d).0
derives_closed h (right d) = (derives_closed h d).1
derives_closed h (both d e) = (derives_closed h d, derives_closed h e)
derives_closed h (open_seal d n e) = (derives_closed h d).0
derives_closed h (make_seal d n e) = (derives_closed h d, derives_closed h e)

name_atom : (k : Term) → IsName k → Atom k
name_atom (name n) h = tt
name_atom (env n) h = tt
name_atom (var n) h = tt
name_atom (pair a b) h = h
name_atom (seal a b) h = h

pub derived_message : {K : List Term} → ((t : Term) → Memᴰ t K → Message t) → {t : Term} → Derives K t → Message t
derived_message h (listed m) = h _ m
derived_message h (public n) = tt
derived_message h (left d) = (derived_message h d).0
derived_message h (right d) = (derived_message h d).1
derived_message h (both d e) = (derived_message h d, derived_message h e)
derived_message h (open_seal d n e) = (derived_message h d).0
derived_message h (make_seal {k = k} d n e) = (derived_message h d, name_atom k n)

pub stays_closed : StaysClosed
stays_closed K h t d = derives_closed h d

pub stays_message : StaysMessage
stays_message K h t d = derived_message h d

-- what can be made of the seal s and of names of the environment
abbrev Made : Term → Term → Type 0
Made s (name n) = ⊥
Made s (env n) = Unit {0}
Made s (var x) = ⊥
Made s (pair a b) = Made s a × Made s b
Made s (seal b k) = (seal b k ≡ s) ⊎ (Made s b × Made s k)

sealed_made : (d k : ℕ) {t : Term} → Derives (seal (name d) (name k) ∷ []) t → Made (seal (name d) (name k)) t
sealed_made d k (listed m) = subst (Made (seal (name d) (name k))) (sym (Memᴰ.eq_of_singleton m)) (inl refl)
sealed_made d k (public n) = tt
sealed_made d k (left p) = (sealed_made d k p).0
sealed_made d k (right p) = (sealed_made d k p).1
sealed_made d k (both p q) = (sealed_made d k p, sealed_made d k q)
sealed_made d k (open_seal {k = x} p n q) =
    let s = seal (name d) (name k) in
    ⊎_elim (λ e. let f : x ≡ name k = cc in absurd (subst (Made s) f (sealed_made d k q))) (λ r. r.0) (sealed_made d k p)
sealed_made d k (make_seal p n q) = inr (sealed_made d k p, sealed_made d k q)

pub sealed_secret : SealedSecret
sealed_secret d k =
    let s = seal (name d) (name k) in
    let one : Derives (s ∷ []) s = listed (Memᴰ.head refl) in (
      λ p. sealed_made d k p,
      both one one,
      open_seal (listed (Memᴰ.head refl)) tt (listed (Memᴰ.tail (Memᴰ.head refl))),
    )
