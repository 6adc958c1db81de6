-- Lists of entries that can be put together one by one, and the one content that they lead to.
use Rattle.std.proofs.Common.{◌≡◌, ◌⊎◌, List, [], ◌∷◌, ◌++◌, length, sym, refl, ap, ◌∙◌, subst, inl, inr, ⊎_elim, arith}
use Rattle.std.proofs.lemmas.List.{same_from_push, length-append, append_assoc}
use Rattle.protocol.specs.Lawful.{Content}
use Rattle.entries.specs.Format.{Entry}
use Rattle.entries.specs.Rules.{KeepsBelow}
use Rattle.entries.specs.Growth.{Adds, nothing}
use Rattle.entries.proofs.Coding.{adds_one}

-- the content of entries, each of which keeps all rules in its place
pub data Grown : List Entry → Content → Type 0 where
  start : {es : List Entry} {C : Content} → es ≡ [] → C ≡ nothing → Grown es C
  grow : {es fs : List Entry} {C D : Content} (e : Entry) → Grown es C → KeepsBelow 9 C e → Adds C e D → fs ≡ es ++ (e ∷ []) → Grown fs D

-- no list ends in an element and is empty
no_push : (es : List Entry) (e : Entry) → [] ≡ es ++ (e ∷ []) → ⊥
no_push es e p = omega (arith, ap length p, length-append es (e ∷ []))

-- the entries lead to one content
pub grown_one : (es : List Entry) (C D : Content) → Grown es C → Grown es D → C ≡ D
grown_one es C D g h = one g h refl
  where
    one : {fs gs : List Entry} {A B : Content} → Grown fs A → Grown gs B → fs ≡ gs → A ≡ B
    one (start p q) (start r s) u = q ∙ sym s
    one (start p q) (grow f k l m v) u = absurd (no_push _ f (sym p ∙ u ∙ v))
    one (grow f k l m v) (start r s) u = absurd (no_push _ f (sym r ∙ sym u ∙ v))
    one (grow {C = A} {D = B} e g l a v) (grow {C = A'} {D = B'} e' g' l' a' v') u =
        let p = same_from_push _ _ e e' (sym v ∙ u ∙ v') in
        let q : A ≡ A' = one g g' p.0 in
        adds_one A e B B' a (rw (p.1, q) a')

-- a list is empty or has a last element
ends : (fs : List Entry) → (fs ≡ []) ⊎ ((gs : List Entry) × (f : Entry) × (fs ≡ gs ++ (f ∷ [])))
ends [] = inl refl
ends (f ∷ fs) =
    ⊎_elim
    (λ p. inr ([], f, ap (λ (l : List Entry). f ∷ l) p))
    (λ p. inr (f ∷ p.0, p.1, ap (λ (l : List Entry). f ∷ l) p.2))
    (ends fs)

-- the entries before one are grown, and that one keeps all rules after them
pub grown_before : (es fs : List Entry) (e : Entry) (D : Content) → Grown (es ++ (e ∷ fs)) D → (C : Content) × Grown es C × KeepsBelow 9 C e
grown_before es fs e D g = before g fs refl
  where
    before : {gs : List Entry} {B : Content} → Grown gs B → (hs : List Entry) → gs ≡ es ++ (e ∷ hs) → (C : Content) × Grown es C × KeepsBelow 9 C e
    before (start p q) hs u = absurd (omega (arith, ap length (sym p ∙ u), length-append es (e ∷ hs)))
    before (grow {es = is} {C = A} f k l m v) hs u =
        ⊎_elim
        (λ p. let r = same_from_push is es f e (sym v ∙ u ∙ ap (λ (l : List Entry). es ++ (e ∷ l)) p) in
        (A, subst (λ (l : List Entry). Grown l A) r.0 k, subst (λ (x : Entry). KeepsBelow 9 A x) r.1 l))
        (λ p. let r = same_from_push is (es ++ (e ∷ p.0)) f p.1 (sym v ∙ u ∙ ap (λ (l : List Entry). es ++ (e ∷ l)) p.2 ∙ sym (append_assoc es (e ∷ p.0) (p.1 ∷ []))) in
        before k p.0 r.0)
        (ends hs)
