-- The record at the front of bytes: one at most, and where it is cut.
use Rattle.std.proofs.Common.{◌≡◌, ℕ, ◌+◌, ◌-◌, ◌/◌, ◌%◌, ◌<◌, ◌≤◌, List, [], ◌∷◌, ◌++◌, length, get_or, take, drop, sym, refl, ap, ◌∙◌, ap₂, arith}
use native.Mathlib.Nat.{div-add-mod}
use Rattle.std.proofs.lemmas.List.{length-append, length-drop, drop-drop, take-append-drop, take_at, drop_at}
use Rattle.std.specs.Int.{w16, from_le_bytes}
use Rattle.std.specs.List.{IsSplitAt}
use Rattle.records.specs.Bytes.{Rec, encode}

row : (a a' b b' c c' d d' : ℕ) (xs ys : List ℕ) → a ≡ a' → b ≡ b' → c ≡ c' → d ≡ d' → xs ≡ ys → a ∷ b ∷ c ∷ d ∷ xs ≡ a' ∷ b' ∷ c' ∷ d' ∷ ys
row a a' b b' c c' d d' xs ys p q r s e = cc

length_encode : (r : Rec) (more : List ℕ) → length (encode r ++ more) ≡ 4 + length r.body + length more
length_encode r more = omega (arith, length-append r.body more)

split_at : (a b x y : List ℕ) → length a ≡ length b → a ++ x ≡ b ++ y → (a ≡ b) × (x ≡ y)
split_at a b x y n e = (
  sym (take_at a x (length a) refl) ∙ ap (take (length a)) e ∙ take_at b y (length a) (sym n),
  sym (drop_at a x (length a) refl) ∙ ap (drop (length a)) e ∙ drop_at b y (length a) (sym n),
)

same_rec : (k m : ℕ) (a b : List ℕ) → k ≡ m → a ≡ b → ◌≡◌ {A = Rec} (record { kind = k; body = a }) (record { kind = m; body = b })
same_rec k m a b p q = rw (p, q)

-- at the front of bytes stands one record at most
pub one_front : (r s : Rec) (x y : List ℕ) → encode r ++ x ≡ encode s ++ y → (r ≡ s) × (x ≡ y)
one_front r s x y e =
    let a : length r.body % 256 ≡ length s.body % 256 = ap (λ (l : List ℕ). get_or l 0 0) e in
    let b : length r.body / 256 ≡ length s.body / 256 = ap (λ (l : List ℕ). get_or l 1 0) e in
    let c : r.kind % 256 ≡ s.kind % 256 = ap (λ (l : List ℕ). get_or l 2 0) e in
    let d : r.kind / 256 ≡ s.kind / 256 = ap (λ (l : List ℕ). get_or l 3 0) e in
    let t : r.body ++ x ≡ s.body ++ y = ap (drop 4) e in
    let n : length r.body ≡ length s.body = omega (arith, div-add-mod (length r.body) 256, div-add-mod (length s.body) 256) in
    let k : r.kind ≡ s.kind = omega (arith, div-add-mod r.kind 256, div-add-mod s.kind 256) in
    let p = split_at r.body s.body x y n t in
    (same_rec _ _ _ _ k p.0, p.1)

-- the record whose header and body a reader cuts off the front
pub front_whole : (cs hs ts body ds : List ℕ) (len kind : ℕ) → 4 ≤ length cs → hs ≡ take 4 cs → ts ≡ drop 4 cs → ((i : ℕ) → get_or cs i 0 < 256) → len ≡ from_le_bytes w16 (get_or hs 0 0 ∷ get_or hs 1 0 ∷ []) → kind ≡ from_le_bytes w16 (get_or hs 2 0 ∷ get_or hs 3 0 ∷ []) → IsSplitAt ts len body ds → cs ≡ encode (record { kind = kind; body = body }) ++ ds
front_whole [] hs ts body ds len kind h p q small e f s = absurd (omega arith)
front_whole (a ∷ []) hs ts body ds len kind h p q small e f s = absurd (omega arith)
front_whole (a ∷ b ∷ []) hs ts body ds len kind h p q small e f s = absurd (omega arith)
front_whole (a ∷ b ∷ c ∷ []) hs ts body ds len kind h p q small e f s = absurd (omega arith)
front_whole (a ∷ b ∷ c ∷ d ∷ cs) hs ts body ds len kind h p q small e f s =
    let l : len ≡ from_le_bytes w16 (a ∷ b ∷ []) = rw p at e in
    let k : kind ≡ from_le_bytes w16 (c ∷ d ∷ []) = rw p at f in
    let t : body ++ ds ≡ cs = ap₂ (λ (x y : List ℕ). x ++ y) s.1 s.2 ∙ take-append-drop len ts ∙ q in
    let u = small 0 in
    let v = small 1 in
    let w = small 2 in
    let x = small 3 in
    row _ _ _ _ _ _ _ _ _ _ (omega (arith, s.3)) (omega (arith, s.3)) (omega arith) (omega arith) (sym t)

-- a record is some bytes
pub shorter : (cs ds : List ℕ) (r : Rec) → cs ≡ encode r ++ ds → length ds < length cs
shorter cs ds r e = omega (arith, ap length e, length_encode r ds)

-- the place after the record at a place
pub moved : (bs cs ds : List ℕ) (at : ℕ) (r : Rec) → at ≤ length bs → cs ≡ drop at bs → cs ≡ encode r ++ ds → drop (length bs - length ds) bs ≡ ds
moved bs cs ds at r l p e =
    let n = length (encode r) in
    let k : length (drop at bs) ≡ length bs - at = length-drop at bs in
    let m : length (encode r ++ ds) ≡ n + length ds = length-append (encode r) ds in
    let s : length bs - length ds ≡ at + n = omega (arith, k, m, ap length p, ap length e) in
    ap (λ (i : ℕ). drop i bs) s ∙ sym (drop-drop n at bs) ∙ ap (drop n) (sym p ∙ e) ∙ drop_at (encode r) ds n refl
