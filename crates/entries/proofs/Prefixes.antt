-- Lists taken from the front: induction from front to back, and the steps of a part of the strands.
use Rattle.std.proofs.Common.{◌≡◌, ℕ, zero, suc, ◌-◌, ◌<◌, List, [], ◌∷◌, ◌++◌, length, get_or, set, sym, refl, ap, ◌∙◌, subst, not-suc-le-zero, arith}
use mathlib.Core.Option.{some}
use lib.ListN.{get_elem?}
use Rattle.std.specs.List.{AllByRecursion}
use Rattle.std.proofs.lemmas.List.{append-nil, append_assoc, length-append, length_push, get_or_at, set_at}
use Rattle.std.proofs.ByRecursion.{All-get_or}
use Rattle.protocol.specs.Strands.{At}

-- what holds of nothing, and of one element more where it holds of those before, holds of the list
pub front_to_back : {X : Type 0} (P : List X → Type 0) (xs : List X) → P [] → ((ys : List X) (x : X) (zs : List X) → xs ≡ ys ++ (x ∷ zs) → P ys → P (ys ++ (x ∷ []))) → P xs
front_to_back {X} P xs first more = go [] xs refl first
  where
    go : (ys zs : List X) → xs ≡ ys ++ zs → P ys → P xs
    go ys [] e p = subst P (sym (e ∙ append-nil ys)) p
    go ys (z ∷ zs) e p = go (ys ++ (z ∷ [])) zs (e ∙ sym (append_assoc ys (z ∷ []) zs)) (more ys z zs e p)

-- an element of a list that is split there
pub split_short : {X : Type 0} (xs ys : List X) (x : X) (zs : List X) → xs ≡ ys ++ (x ∷ zs) → length ys < length xs
split_short xs ys x zs e = omega (arith, ap length e, length-append ys (x ∷ zs))

pub split_all : {X : Type 0} (P : X → Type 0) (xs ys : List X) (x : X) (zs : List X) → xs ≡ ys ++ (x ∷ zs) → AllByRecursion P xs → P x
split_all P xs ys x zs e a =
    subst P (ap (λ l. get_or l (length ys) x) e ∙ get_or_at ys x zs x (length ys) refl) (All-get_or P xs (length ys) x (split_short xs ys x zs e) a)

module _ {X : Type 0} where
  found_below : (xs : List X) (i : ℕ) (x : X) → get_elem? xs i ≡ some x → i < length xs
  found_below [] i x e = absurd (grind arith)
  found_below (y ∷ xs) zero x e = omega arith
  found_below (y ∷ xs) (suc i) x e = omega (arith, found_below xs i x e)

  found_longer : (xs ys : List X) (i : ℕ) (x : X) → get_elem? xs i ≡ some x → get_elem? (xs ++ ys) i ≡ some x
  found_longer [] ys i x e = absurd (grind arith)
  found_longer (y ∷ xs) ys zero x e = e
  found_longer (y ∷ xs) ys (suc i) x e = found_longer xs ys i x e

  found_shorter : (xs ys : List X) (i : ℕ) (x : X) → i < length xs → get_elem? (xs ++ ys) i ≡ some x → get_elem? xs i ≡ some x
  found_shorter [] ys i x h e = absurd (not-suc-le-zero h)
  found_shorter (y ∷ xs) ys zero x h e = e
  found_shorter (y ∷ xs) ys (suc i) x h e = found_shorter xs ys i x (omega arith) e

  found_split : (xs : List X) (x : X) (ys : List X) → get_elem? (xs ++ (x ∷ ys)) (length xs) ≡ some x
  found_split [] x ys = refl
  found_split (y ∷ xs) x ys = found_split xs x ys

  -- strands, and a part of them: the strands ys, and of the next one the steps qs
  pub at_longer : (ys : List (List X)) (qs rs : List X) (zs : List (List X)) (k i : ℕ) (p : X) → At (ys ++ (qs ∷ [])) k i p → At (ys ++ ((qs ++ rs) ∷ zs)) k i p
  at_longer [] qs rs zs zero i p a = found_longer qs rs i p a
  at_longer [] qs rs zs (suc k) i p a = absurd (grind arith)
  at_longer (y ∷ ys) qs rs zs zero i p a = a
  at_longer (y ∷ ys) qs rs zs (suc k) i p a = at_longer ys qs rs zs k i p a

  pub at_shorter : (ys : List (List X)) (qs rs : List X) (zs : List (List X)) (i : ℕ) (p : X) → i < length qs → At (ys ++ ((qs ++ rs) ∷ zs)) (length ys) i p → At (ys ++ (qs ∷ [])) (length ys) i p
  at_shorter [] qs rs zs i p h a = found_shorter qs rs i p h a
  at_shorter (y ∷ ys) qs rs zs i p h a = at_shorter ys qs rs zs i p h a

  pub at_below : (ys : List (List X)) (qs : List X) (zs : List (List X)) (i : ℕ) (p : X) → At (ys ++ (qs ∷ zs)) (length ys) i p → i < length qs
  at_below [] qs zs i p a = found_below qs i p a
  at_below (y ∷ ys) qs zs i p a = at_below ys qs zs i p a

  pub at_split : (ys : List (List X)) (qs : List X) (p : X) (rs : List X) (zs : List (List X)) → At (ys ++ ((qs ++ (p ∷ rs)) ∷ zs)) (length ys) (length qs) p
  at_split [] qs p rs zs = found_split qs p rs
  at_split (y ∷ ys) qs p rs zs = at_split ys qs p rs zs

  -- the number of the last strand, its steps, and one step more
  pub last_number : (ys : List X) (q : X) → length (ys ++ (q ∷ [])) - 1 ≡ length ys
  last_number ys q = omega (arith, length_push ys q)

  pub last_element : (ys : List X) (q d : X) → get_or (ys ++ (q ∷ [])) (length (ys ++ (q ∷ [])) - 1) d ≡ q
  last_element ys q d = get_or_at ys q [] d _ (sym (last_number ys q))

  pub last_set : (ys : List X) (q r : X) → set (ys ++ (q ∷ [])) (length (ys ++ (q ∷ [])) - 1) r ≡ ys ++ (r ∷ [])
  last_set ys q r = set_at ys q [] r _ (sym (last_number ys q))
