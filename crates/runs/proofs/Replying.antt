-- One listing, one reply, one word at every budget.
use Rattle.std.proofs.Common.{◌≡◌, ℕ, zero, suc, ◌<◌, ◌≤◌, ◌⊎◌, List, [], ◌∷◌, ◌++◌, length, take, sym, refl, ap, ◌∙◌, subst, ap₂, inl, inr, le_of_suc-le-suc, not-suc-le-zero, arith, length-append}
use mathlib.Core.List.Memᴰ
use mathlib.Core.List.{Memᴰ}
use native.Mathlib.Decide.{dec_le, dec_lt}
use Rattle.runs.specs.Protocols.{Protocol}
use Rattle.runs.specs.Schedules.{◌≺◌, Ascending, Breaking, NoneBreaking, FirstBreaking, holds, broken, spent, Answers}
use Rattle.runs.specs.Replies.{OneListing, OneReply, AtEveryBudget, OneWord, SomeReply}

pub ≺_asym : (s t : List ℕ) → s ≺ t → t ≺ s → ⊥
≺_asym [] [] h g = h
≺_asym [] (j ∷ t) h g = g
≺_asym (k ∷ s) [] h g = h
≺_asym (k ∷ s) (j ∷ t) h g =
    elim h [
      | inl a ↦ elim g [ inl b ↦ omega arith | inr b ↦ let e = b.0 in omega arith ]
      | inr a ↦ elim g [ inl b ↦ let e = a.0 in omega arith | inr b ↦ ≺_asym s t a.1 b.1 ]
    ]

pub ≺_irrefl : (s t : List ℕ) → s ≡ t → s ≺ t → ⊥
≺_irrefl s t e h = ≺_asym s t h (subst (λ (u : List ℕ). u ≺ s) e (subst (λ (u : List ℕ). s ≺ u) (sym e) h))

abbrev Sub : List (List ℕ) → List (List ℕ) → Type 0
Sub L R = (s : List ℕ) → Memᴰ s L → Memᴰ s R

one_ascending : (L R : List (List ℕ)) → Ascending L → Ascending R → Sub L R → Sub R L → L ≡ R
one_ascending [] [] a b f g = refl
one_ascending [] (t ∷ R) a b f g = absurd (Memᴰ.not-nil (g t (Memᴰ.head refl)))
one_ascending (s ∷ L) [] a b f g = absurd (Memᴰ.not-nil (f s (Memᴰ.head refl)))
one_ascending (s ∷ L) (t ∷ R) a b f g =
    let e : s ≡ t = first (Memᴰ.cases_cons (f s (Memᴰ.head refl))) (Memᴰ.cases_cons (g t (Memᴰ.head refl))) in
    ap₂ ◌∷◌ e (one_ascending L R a.1 b.1
    (λ u m. rest u s t L R (a.0 u m) e (Memᴰ.cases_cons (f u (Memᴰ.tail m))))
    (λ u m. rest u t s R L (b.0 u m) (sym e) (Memᴰ.cases_cons (g u (Memᴰ.tail m)))))
  where
    first : (s ≡ t) ⊎ Memᴰ s R → (t ≡ s) ⊎ Memᴰ t L → s ≡ t
    first (inl e) y = e
    first (inr m) (inl e) = sym e
    first (inr m) (inr n) = absurd (≺_asym s t (a.0 t n) (b.0 s m))

    rest : (u s t : List ℕ) (L R : List (List ℕ)) → s ≺ u → s ≡ t → (u ≡ t) ⊎ Memᴰ u R → Memᴰ u R
    rest u s t L R h e (inl d) = absurd (≺_irrefl s u (e ∙ sym d) h)
    rest u s t L R h e (inr m) = m

pub one_listing : OneListing
one_listing S L R a b = one_ascending L R a.ascending b.ascending (λ s m. b.complete s (a.feasible s m)) (λ s m. a.complete s (b.feasible s m))

pub take_mem : (n : ℕ) (L : List (List ℕ)) (s : List ℕ) → Memᴰ s (take n L) → Memᴰ s L
take_mem zero L s m = absurd (Memᴰ.not-nil m)
take_mem (suc n) [] s m = m
take_mem (suc n) (t ∷ L) s m = elim (Memᴰ.cases_cons m) [ inl e ↦ Memᴰ.head e | inr r ↦ Memᴰ.tail (take_mem n L s r) ]

take_before : (n : ℕ) (L R : List (List ℕ)) → n ≤ length L → (s : List ℕ) → Memᴰ s (take n (L ++ R)) → Memᴰ s L
take_before zero L R h s m = absurd (Memᴰ.not-nil m)
take_before (suc n) [] R h s m = absurd (not-suc-le-zero h)
take_before (suc n) (t ∷ L) R h s m = elim (Memᴰ.cases_cons m) [ inl e ↦ Memᴰ.head e | inr r ↦ Memᴰ.tail (take_before n L R (le_of_suc-le-suc h) s r) ]

in_take : (n : ℕ) (L : List (List ℕ)) (s : List ℕ) (R : List (List ℕ)) → length L < n → Memᴰ s (take n (L ++ (s ∷ R)))
in_take zero L s R h = absurd (not-suc-le-zero h)
in_take (suc n) [] s R h = Memᴰ.head refl
in_take (suc n) (t ∷ L) s R h = Memᴰ.tail (in_take n L s R (le_of_suc-le-suc h))

first_one : (S : Protocol) (L : List (List ℕ)) (s : List ℕ) (A : List (List ℕ)) (R : List (List ℕ)) (t : List ℕ) (B : List (List ℕ)) → L ++ (s ∷ A) ≡ R ++ (t ∷ B) → NoneBreaking S L → Breaking S s → NoneBreaking S R → Breaking S t → length L ≡ length R
first_one S [] s A [] t B e n b m c = refl
first_one S [] s A (r ∷ R) t B e n b m c = let q : s ≡ r = cc in absurd (m r (Memᴰ.head refl) (subst (λ (u : List ℕ). Breaking S u) q b))
first_one S (l ∷ L) s A [] t B e n b m c = let q : t ≡ l = cc in absurd (n l (Memᴰ.head refl) (subst (λ (u : List ℕ). Breaking S u) q c))
first_one S (l ∷ L) s A (r ∷ R) t B e n b m c =
    let q : L ++ (s ∷ A) ≡ R ++ (t ∷ B) = cc in
    ap suc (first_one S L s A R t B q (λ u i. n u (Memᴰ.tail i)) b (λ u i. m u (Memᴰ.tail i)) c)

broken_once : (S : Protocol) (L R : List (List ℕ)) (c d : ℕ) → L ≡ R → FirstBreaking S L c → FirstBreaking S R d → c ≡ d
broken_once S L R c d q (B, s, A, e, ce, n, b) (B', s', A', e', de, n', b') = ce ∙ (ap suc (first_one S B s A B' s' A' (sym e ∙ (q ∙ e')) n b n' b') ∙ sym de)

not_both : (S : Protocol) (L R : List (List ℕ)) (c : ℕ) → L ≡ R → NoneBreaking S L → FirstBreaking S R c → ⊥
not_both S L R c q n (B, s, A, e, ce, m, b) = n s (subst (λ (z : List (List ℕ)). Memᴰ s z) (sym (q ∙ e)) (Memᴰ.append_right B (Memᴰ.head refl))) b

not_within : (S : Protocol) (L R : List (List ℕ)) (c budget : ℕ) → L ≡ R → NoneBreaking S (take budget L) → FirstBreaking S R c → c ≤ budget → ⊥
not_within S L R c budget q n (B, s, A, e, ce, m, b) h = n s (subst (λ (z : List (List ℕ)). Memᴰ s (take budget z)) (sym (q ∙ e)) (in_take budget B s A (omega arith))) b

pub one_reply : OneReply
one_reply S g (holds c) (holds d) (L, a, e, h, n) (R, b, f, k, m) = ap holds (e ∙ (ap length (one_listing S L R a b) ∙ sym f))
one_reply S g (holds c) (broken d) (L, a, e, h, n) (R, b, f, k) = absurd (not_both S L R d (one_listing S L R a b) n f)
one_reply S g (holds c) (spent d) (L, a, e, h, n) (R, b, f, k, m) = let q = ap length (one_listing S L R a b) in absurd (omega arith)
one_reply S g (broken c) (holds d) (L, a, e, h) (R, b, f, k, m) = absurd (not_both S R L c (one_listing S R L b a) m e)
one_reply S g (broken c) (broken d) (L, a, e, h) (R, b, f, k) = ap broken (broken_once S L R c d (one_listing S L R a b) e f)
one_reply S g (broken c) (spent d) (L, a, e, h) (R, b, f, k, m) = absurd (not_within S R L c g (one_listing S R L b a) m e h)
one_reply S g (spent c) (holds d) (L, a, e, h, n) (R, b, f, k, m) = let q = ap length (one_listing S L R a b) in absurd (omega arith)
one_reply S g (spent c) (broken d) (L, a, e, h, n) (R, b, f, k) = absurd (not_within S L R d g (one_listing S L R a b) n f k)
one_reply S g (spent c) (spent d) (L, a, e, h, n) (R, b, f, k, m) = ap spent (e ∙ sym f)

pub holds_spent : (c d : ℕ) → holds c ≡ spent d → ⊥
holds_spent c d e = grind arith

pub broken_spent : (c d : ℕ) → broken c ≡ spent d → ⊥
broken_spent c d e = grind arith

holds_every : (S : Protocol) (budget c : ℕ) → Answers S budget (holds c) → AtEveryBudget S c (holds c)
holds_every S budget c (L, a, e, h, n) b =
    let up : (c ≤ b → Answers S b (holds c)) = λ l. (L, a, e, l, n) in (
      (up, λ r. r.3),
      (
        (λ l. (L, a, refl, (let q = e in omega arith), λ s m. n s (take_mem b L s m))),
        (λ r. elim (dec_lt b c) [ yes l ↦ l | no l ↦ absurd (holds_spent c b (one_reply S b (holds c) (spent b) (up (omega arith)) r)) ]),
      ),
    )

short_of : (S : Protocol) (L : List (List ℕ)) (c b : ℕ) → b < c → FirstBreaking S L c → (b < length L) × NoneBreaking S (take b L)
short_of S L c b h (B, s, A, e, ce, m, w) = (
  subst (λ (z : List (List ℕ)). b < length z) (sym e) (simp length-append (omega arith)),
  λ t i. m t (take_before b B (s ∷ A) (omega arith) t (subst (λ (z : List (List ℕ)). Memᴰ t (take b z)) e i)),
)

broken_every : (S : Protocol) (budget c : ℕ) → Answers S budget (broken c) → AtEveryBudget S c (broken c)
broken_every S budget c (L, a, f, h) b =
    let up : (c ≤ b → Answers S b (broken c)) = λ l. (L, a, f, l) in (
      (up, λ r. r.3),
      (
        (λ l. let q = short_of S L c b l f in (L, a, refl, q.0, q.1)),
        (λ r. elim (dec_lt b c) [ yes l ↦ l | no l ↦ absurd (broken_spent c b (one_reply S b (broken c) (spent b) (up (omega arith)) r)) ]),
      ),
    )

pub one_word : OneWord
one_word S budget c = (holds_every S budget c, broken_every S budget c)

scan : (S : Protocol) (L : List (List ℕ)) → ((s : List ℕ) → Memᴰ s L → Dec (Breaking S s)) → NoneBreaking S L ⊎ ((c : ℕ) × FirstBreaking S L c)
scan S [] d = inl (λ s m. absurd (Memᴰ.not-nil m))
scan S (s ∷ L) d = go (d s (Memᴰ.head refl)) (scan S L (λ t m. d t (Memᴰ.tail m)))
  where
    none_more : (B : List (List ℕ)) → ¬ Breaking S s → NoneBreaking S B → NoneBreaking S (s ∷ B)
    none_more B n k t m = elim (Memᴰ.cases_cons m) [ inl e ↦ (λ b. n (subst (λ (u : List ℕ). Breaking S u) e b)) | inr r ↦ k t r ]

    go : Dec (Breaking S s) → NoneBreaking S L ⊎ ((c : ℕ) × FirstBreaking S L c) → NoneBreaking S (s ∷ L) ⊎ ((c : ℕ) × FirstBreaking S (s ∷ L) c)
    go (yes b) r = inr (1, ([], s, L, refl, refl, (λ t m. absurd (Memᴰ.not-nil m)), b))
    go (no n) (inl k) = inl (none_more L n k)
    go (no n) (inr (c, (B, t, A, e, ce, k, b))) = inr (suc c, (s ∷ B, t, A, ap (λ (z : List (List ℕ)). s ∷ z) e, ap suc ce, none_more B n k, b))

pub some_reply : SomeReply
some_reply S L a d b =
    elim (scan S L d) [
      | inl n ↦ elim (dec_le (length L) b) [ yes h ↦ (holds (length L), (L, a, refl, h, n)) | no h ↦ (spent b, (L, a, refl, omega arith, λ s m. n s (take_mem b L s m))) ]
      | inr f ↦ elim (dec_le f.0 b) [ yes h ↦ (broken f.0, (L, a, f.1, h)) | no h ↦ let q = short_of S L f.0 b (omega arith) f.1 in (spent b, (L, a, refl, q.0, q.1)) ]
    ]
