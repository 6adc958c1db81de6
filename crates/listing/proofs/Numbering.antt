-- Lines under numbers, one after another.
use Rattle.std.proofs.Common.{◌≡◌, ℕ, suc, Result, OnOk, ◌+◌, ◌<◌, List, [], ◌∷◌, ◌++◌, map, length, get_or, take, refl, sym, ap, ◌∙◌, add-zero, arith}
use Rattle.std.specs.Bool.{⊤}
use Rattle.std.proofs.lemmas.List.{append-nil, append_assoc, length-take-le, take_more}
use Rattle.listing.specs.Lines.{numbered}

numbered_push : {X : Type 0} (f : ℕ → X → List ℕ) (k : ℕ) (xs : List X) (x : X) → numbered f k (xs ++ (x ∷ [])) ≡ numbered f k xs ++ f (k + length xs) x
numbered_push f k [] x = append-nil (f k x) ∙ ap (λ (n : ℕ). f n x) (sym (add-zero k))
numbered_push f k (y ∷ ys) x =
    let e : suc k + length ys ≡ k + suc (length ys) = omega arith in
    ap (λ (l : List ℕ). f k y ++ l) (numbered_push f (suc k) ys x ∙ ap (λ (n : ℕ). numbered f (suc k) ys ++ f n x) e)
    ∙ sym (append_assoc (f k y) (numbered f (suc k) ys) (f (k + suc (length ys)) x))

-- what is written of the first elements, with that of one more
numbered_more : {X : Type 0} (f : ℕ → X → List ℕ) (xs : List X) (i : ℕ) (x : X) → i < length xs → x ≡ get_or xs i x → numbered f 0 (take (i + 1) xs) ≡ numbered f 0 (take i xs) ++ f i x
numbered_more f xs i x h e =
    let l : length (take i xs) ≡ i = length-take-le i xs (omega arith) in
    let n : 0 + length (take i xs) ≡ i = omega arith in
    ap (λ t. numbered f 0 t) (take_more xs i x h ∙ ap (λ y. take i xs ++ (y ∷ [])) (sym e))
    ∙ numbered_push f 0 (take i xs) x
    ∙ ap (λ (m : ℕ). numbered f 0 (take i xs) ++ f m x) n

pub added_more : {X : Type 0} {b c : List ℕ} (a : List ℕ) (f : ℕ → X → List ℕ) (xs : List X) (i : ℕ) (x : X) → i < length xs → x ≡ get_or xs i x → b ≡ a ++ numbered f 0 (take i xs) → c ≡ b ++ f i x → c ≡ a ++ numbered f 0 (take (i + 1) xs)
added_more a f xs i x h e s t =
    t ∙ ap (λ (l : List ℕ). l ++ f i x) s ∙ append_assoc a (numbered f 0 (take i xs)) (f i x) ∙ ap (λ (l : List ℕ). a ++ l) (sym (numbered_more f xs i x h e))

-- the same lines of elements that are seen through a function
numbered_map : {X Y : Type 0} (f : ℕ → Y → List ℕ) (g : X → Y) (k : ℕ) (xs : List X) → numbered (λ i x. f i (g x)) k xs ≡ numbered f k (map g xs)
numbered_map f g k [] = refl
numbered_map f g k (x ∷ xs) = ap (λ (l : List ℕ). f k (g x) ++ l) (numbered_map f g (suc k) xs)

pub on_map : {X Y E : Type 0} (a c : List ℕ) (f : ℕ → Y → List ℕ) (g : X → Y) (xs : List X) (ys : List Y) (r : Result ⊤ E) → map g xs ≡ ys → OnOk r (c ≡ a ++ numbered (λ i x. f i (g x)) 0 xs) → OnOk r (c ≡ a ++ numbered f 0 ys)
on_map a c f g xs ys r e h = rw (numbered_map f g 0 xs ∙ ap (λ zs. numbered f 0 zs) e) at h
