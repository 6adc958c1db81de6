-- The parts stay the parts when the table grows by a node.
use Rattle.std.proofs.Common.{◌≡◌, ℕ, zero, suc, ◌<◌, Bool, true, false, List, [], ◌∷◌, ◌++◌, length, get_or, sym, refl, ap, ◌∙◌, ⊎_elim, arith}
use Rattle.std.proofs.lemmas.List.{length_push}
use Rattle.std.proofs.lemmas.Bool.{cases_lt}
use Rattle.terms.specs.Terms.{Term, name, env, var, pair, seal}
use Rattle.terms.specs.Nodes.{node, says, term, Below, Ordered}
use Rattle.terms.specs.declared.node.Node.{Node}
use Rattle.terms.specs.declared.node.Node.TheVariants.{Name, Env, Var, Pair, Seal}
use Rattle.terms.proofs.Unfolding.{unfolds, term_before, term_last}
use Rattle.derivation.specs.Noted.{Held}
use Rattle.analysis.specs.Places.{first}
use Rattle.analysis.specs.Parts.{knows, opens, taken, Shut, Parts}
use Rattle.analysis.proofs.Finding.{first_push, first_new}
use Rattle.analysis.proofs.Deciding.{known_at}

-- an unmarked place at the end changes no mark
pub push_false : (a : List Bool) (i : ℕ) → get_or (a ++ (false ∷ [])) i false ≡ get_or a i false
push_false [] zero = refl
push_false [] (suc i) = refl
push_false (b ∷ a) zero = refl
push_false (b ∷ a) (suc i) = push_false a i

opens_same : (f g : Term → Bool) (t : Term) → f t ≡ g t → opens f t ≡ opens g t
opens_same f g (name n) e = e
opens_same f g (env n) e = refl
opens_same f g (var n) e = refl
opens_same f g (pair a b) e = refl
opens_same f g (seal a b) e = refl

taken_says : (f g : Term → Bool) (ts : ℕ → Term) (i : ℕ) (n : Node) → Below i n → ((m : ℕ) → m < i → f (ts m) ≡ g (ts m)) → taken f (says ts n) ≡ taken g (says ts n)
taken_says f g ts i (Name n) b e = refl
taken_says f g ts i (Env n) b e = refl
taken_says f g ts i (Var n) b e = refl
taken_says f g ts i (Pair x y) b e = let p = e x.0 b.0 in let q = e y.0 b.1 in cc
taken_says f g ts i (Seal x y) b e = let p = e x.0 b.0 in let q = opens_same f g (ts y.0) (e y.0 b.1) in cc

module _ (ns : List Node) (o : Ordered ns) (n : Node) where
  -- a mark in the longer table, of a term that the shorter one holds
  knows_before : (a b : List Bool) → ((i : ℕ) → get_or b i false ≡ get_or a i false) → (i : ℕ) → i < length ns → knows (ns ++ (n ∷ [])) b (term ns i) ≡ knows ns a (term ns i)
  knows_before a b e i l = e (first (ns ++ (n ∷ [])) (term ns i)) ∙ ap (λ (x : ℕ). get_or a x false) (first_push ns n i l)

  taken_before : (a b : List Bool) → ((i : ℕ) → get_or b i false ≡ get_or a i false) → (i : ℕ) → i < length ns → taken (knows (ns ++ (n ∷ [])) b) (term ns i) ≡ taken (knows ns a) (term ns i)
  taken_before a b e i l =
      let u = unfolds ns o i l in
      ap (taken (knows (ns ++ (n ∷ [])) b)) u
      ∙ taken_says (knows (ns ++ (n ∷ [])) b) (knows ns a) (term ns) i (node ns i) (o i l) (λ m h. knows_before a b e m (omega arith))
      ∙ sym (ap (taken (knows ns a)) u)

  shut_before : (other : List Bool) → Shut (ns ++ (n ∷ [])) other → Shut ns other
  shut_before other s i l h =
      let t = term_before ns n i l in
      let k : i < length (ns ++ (n ∷ [])) = omega (arith, length_push ns n) in
      sym (taken_before other other (λ j. refl) i l)
      ∙ ap (taken (knows (ns ++ (n ∷ [])) other)) (sym t)
      ∙ s i k (ap (knows (ns ++ (n ∷ [])) other) t ∙ knows_before other other (λ j. refl) i l ∙ h)

  contains_same : (noted : List ℕ) → Held ns noted → (a b : List Bool) → ((i : ℕ) → get_or b i false ≡ get_or a i false) → (k : ℕ) → k < length noted → knows (ns ++ (n ∷ [])) b (term (ns ++ (n ∷ [])) (get_or noted k 0)) ≡ knows ns a (term ns (get_or noted k 0))
  contains_same noted h a b e k l =
      ap (knows (ns ++ (n ∷ [])) b) (term_before ns n (get_or noted k 0) (h k l)) ∙ knows_before a b e (get_or noted k 0) (h k l)

  shut_old : (a b : List Bool) → ((i : ℕ) → get_or b i false ≡ get_or a i false) → Shut ns a → (i : ℕ) → i < length ns → knows (ns ++ (n ∷ [])) b (term ns i) ≡ true → taken (knows (ns ++ (n ∷ [])) b) (term ns i) ≡ true
  shut_old a b e s i l h = taken_before a b e i l ∙ s i l (sym (knows_before a b e i l) ∙ h)

  shut_after : (a b : List Bool) → length a ≡ length ns → ((i : ℕ) → get_or b i false ≡ get_or a i false) → Shut ns a → Shut (ns ++ (n ∷ [])) b
  shut_after a b z e s i l h =
      ⊎_elim
      (λ k. let t = term_before ns n i k in
      ap (taken (knows (ns ++ (n ∷ [])) b)) t ∙ shut_old a b e s i k (ap (knows (ns ++ (n ∷ [])) b) (sym t) ∙ h))
      (λ k. let j : i ≡ length ns = omega (arith, length_push ns n) in
      let t : term (ns ++ (n ∷ [])) i ≡ says (term ns) n = ap (term (ns ++ (n ∷ []))) j ∙ term_last ns n in
      let v : knows ns a (says (term ns) n) ≡ true = sym (e (first (ns ++ (n ∷ [])) (says (term ns) n)) ∙ ap (λ (x : ℕ). get_or a x false) (first_new ns n)) ∙ ap (knows (ns ++ (n ∷ [])) b) (sym t) ∙ h in
      let w = known_at ns a z (says (term ns) n) v in
      let u = w.1 ∙ sym t in
      ap (taken (knows (ns ++ (n ∷ [])) b)) (sym u)
      ∙ shut_old a b e s (first ns (says (term ns) n)) w.0 (ap (knows (ns ++ (n ∷ [])) b) u ∙ h))
      (cases_lt i (length ns))

  pub grown_parts : (noted : List ℕ) (a : List Bool) → Held ns noted → Parts ns noted a → Parts (ns ++ (n ∷ [])) noted (a ++ (false ∷ []))
  grown_parts noted a h p =
      let e = push_false a in
      record {
        size = omega (arith, length_push a false, length_push ns n, p.size);
        contains = λ k l. contains_same noted h a (a ++ (false ∷ [])) e k l ∙ p.contains k l;
        shut = shut_after a (a ++ (false ∷ [])) p.size e p.shut;
        least = λ other i m.
            p.least
            (record {
              marks = other.marks;
              shut = shut_before other.marks other.shut;
              contains = λ k l. sym (contains_same noted h other.marks other.marks (λ j. refl) k l) ∙ other.contains k l;
            })
            i (sym (e i) ∙ m);
      }
