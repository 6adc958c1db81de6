-- One read more into a buffer.
use Rattle.std.proofs.Common.{◌≡◌, ℕ, ◌+◌, ◌≤◌, List, length, take, Option, sym, ap, ◌∙◌, subst, arith, ◌++◌}
use Rattle.std.proofs.lemmas.List.{take-take, length-take-le}
use Rattle.std.proofs.lemmas.Slice.{take-put_mid}
use Rattle.std.proofs.Math.Seq.{take-append-add}
use Rattle.std.proofs.KnownBytes.{Consumes-trans}
use Rattle.std.specs.Io.KnownBytes.{Consumes}
use borrow.Rule.Slice.PartMut.{put_mid}

-- the front of the buffer after a read that gave g bytes
pub front_more : (a k g : ℕ) (xs ys : List ℕ) → a ≤ length xs → g ≤ length ys → take (a + g) (put_mid a k xs ys) ≡ take a xs ++ take g ys
front_more a k g xs ys l m =
    let e : length (take a xs) ≡ a = length-take-le a xs l in
    sym (take-take (a + g) (a + length ys) (put_mid a k xs ys) (omega arith))
    ∙ ap (take (a + g)) (take-put_mid a k xs ys (a + length ys) (omega arith) l)
    ∙ ap (λ (n : ℕ). take (n + g) (take a xs ++ ys)) (sym e)
    ∙ take-append-add (take a xs) ys g

pub came_more : (p q r : Option (List ℕ)) (a k g : ℕ) (xs ys : List ℕ) → a ≤ length xs → g ≤ length ys → Consumes p q (take a xs) → Consumes q r (take g ys) → Consumes p r (take (a + g) (put_mid a k xs ys))
came_more p q r a k g xs ys l m c d = subst (Consumes p r) (sym (front_more a k g xs ys l m)) (Consumes-trans p q r (take a xs) (take g ys) c d)
