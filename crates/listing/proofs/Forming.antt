-- The written forms of nodes, front to back.
use Rattle.std.proofs.Common.{◌≡◌, ℕ, ◌+◌, ◌<◌, List, [], ◌∷◌, ◌++◌, map, length, get_or, drop, string_bytes, String, sym, ap, ◌∙◌}
use Rattle.std.proofs.lemmas.List.{map_push, at_drop_more}
use Rattle.terms.specs.declared.node.Node.{Node}
use Rattle.listing.specs.Lines.{written, forms_from}

-- one form more, written over the forms before
pub forms_more : {Z : Type 0} (names variables fs : List (List ℕ)) (ss ts : List (String Z)) (s : String Z) (ns : List Node) (i : ℕ) (d : Node) → i < length ns → string_bytes s ≡ written names variables (map string_bytes ss) (get_or ns i d) → ts ≡ ss ++ (s ∷ []) → forms_from names variables (map string_bytes ss) (drop i ns) ≡ fs → forms_from names variables (map string_bytes ts) (drop (i + 1) ns) ≡ fs
forms_more {Z} names variables fs ss ts s ns i d h e t k =
    let form = written names variables (map string_bytes ss) (get_or ns i d) in
    let m : map string_bytes ts ≡ map string_bytes ss ++ (form ∷ []) = ap (map string_bytes) t ∙ map_push string_bytes ss s ∙ ap (λ (b : List ℕ). map string_bytes ss ++ (b ∷ [])) e in
    let n : forms_from names variables (map string_bytes ss) (drop i ns) ≡ forms_from names variables (map string_bytes ss ++ (form ∷ [])) (drop (i + 1) ns) = at_drop_more (forms_from names variables (map string_bytes ss)) ns i d h in
    ap (λ (l : List (List ℕ)). forms_from names variables l (drop (i + 1) ns)) m ∙ sym n ∙ k
