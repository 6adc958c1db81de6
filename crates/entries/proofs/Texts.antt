-- The bytes of a text: the library's test of a printable byte, and what the law of texts says of each.
use Rattle.std.proofs.Common.{◌≡◌, ℕ, zero, suc, ◌-◌, ◌≤◌, true, leb, List, [], ◌∷◌, take, Some, Ok, Err, Result, refl, sym, arith}
use Rattle.std.specs.Char.{is_ascii_graphic}
use Rattle.std.specs.List.{AllByRecursion, list_all}
use Rattle.std.specs.Result.{IfOk, result_ok}
use Rattle.std.specs.Str.{IsAscii, IsUtf8}
use Rattle.std.proofs.lemmas.Bool.{and_parts, and_from, leb-true, le-leb}
use Rattle.std.proofs.lemmas.Option.{same_Some, none-some}
use Rattle.std.proofs.lemmas.Str.{IsUtf8-from_ascii}

pub printable_bytes : (bs : List ℕ) → list_all is_ascii_graphic bs ≡ true → AllByRecursion (λ b. (33 ≤ b) × (b ≤ 126)) bs
printable_bytes [] t = tt
printable_bytes (b ∷ bs) t =
    let p = and_parts (is_ascii_graphic b) (list_all is_ascii_graphic bs) t in
    let q = and_parts (leb 33 b) (leb b 126) p.0 in
    ((leb-true 33 b q.0, leb-true b 126 q.1), printable_bytes bs p.1)

pub bytes_printable : (bs : List ℕ) → AllByRecursion (λ b. (33 ≤ b) × (b ≤ 126)) bs → list_all is_ascii_graphic bs ≡ true
bytes_printable [] a = refl
bytes_printable (b ∷ bs) a = and_from _ _ (and_from _ _ (le-leb 33 b a.0.0) (le-leb b 126 a.0.1)) (bytes_printable bs a.1)

-- the front of a list of bytes, where it is printable
pub text_part : (bs : List ℕ) (n : ℕ) → list_all is_ascii_graphic (take n bs) ≡ true → (take (n - 0) bs ≡ take n bs) × AllByRecursion (λ b. (33 ≤ b) × (b ≤ 126)) (take (n - 0) bs)
text_part bs n t = let z : n - 0 ≡ n = omega arith in rw z (refl, printable_bytes (take n bs) t)

ascii : (bs : List ℕ) → AllByRecursion (λ b. (33 ≤ b) × (b ≤ 126)) bs → IsAscii bs
ascii [] a i = omega arith
ascii (b ∷ bs) a zero = omega (arith, a.0.1)
ascii (b ∷ bs) a (suc i) = ascii bs a.1 i

-- a printable text is UTF-8
pub utf8 : (bs : List ℕ) → list_all is_ascii_graphic bs ≡ true → IsUtf8 bs
utf8 bs t = IsUtf8-from_ascii bs (ascii bs (printable_bytes bs t))

-- what holds of a result holds of what `ok` keeps of it
pub kept : {T E : Type 0} (P : T → Type 0) (r : Result T E) (t : T) → Some t ≡ result_ok r → IfOk r P → P t
kept P (Ok x) t e h = rw (same_Some t x e) h
kept P (Err x) t e h = absurd (none-some t (sym e))
