-- One scan of a way: through, no, or stuck at a seal.
use mathlib.Core.Path.{◌≡◌, refl, sym, ap, ap₂, ◌∙◌, subst}
use mathlib.Core.List.Memᴰ
use mathlib.Core.List.{List, [], ◌∷◌, ◌++◌, Memᴰ, append_assoc}
use mathlib.Core.Logic.{◌⊎◌, inl, inr}
use Prim.Native.Nat.{ℕ, ◌≤◌}
use native.Mathlib.Decide.{ℕ_discrete}
use native.Mathlib.Omega.{arith}
use lib.ListN.{take}
use Rattle.terms.specs.Terms.{Term, name, env, var, pair, seal}
use Rattle.protocol.specs.Strands.{TermStep, input, output, opens, splits, same}
use Rattle.derivation.specs.Derive.{Derives, ◌⊆◌}
use Rattle.lifting.proofs.Lifting.{analz_mono}
use Rattle.lifting.proofs.Lists.{nil_cons}
use Rattle.deciding.specs.Ways.{Way, Mark, steps, acts, No, Sure, Settled, Reached, Met, by_mark, by_pair, by_open_key, by_env_key, by_marked_key, by_equal_box}
use Rattle.deciding.specs.Scan.{Fits, Grounded, time, Scanned}
use Rattle.deciding.specs.Decide.{AnalzTold, Neat}
use Rattle.deciding.proofs.Ruling.{asked, stays, forced_sure, name_fails, pair_needs, open_needs, marked_needs, key_fails, met_settles}
use Rattle.deciding.proofs.Scanning.{scan_passes, time_on}

abbrev pub mark : ℕ → ℕ → Mark
mark x j = record { who = x; time = j }

pub data Stuck (w : Way) (V : ℕ) : Type 0 where
  at_key : (j x : ℕ) (m : Term) → Settled w j → j ≤ time (steps w) → Sure w j (seal m (var x)) → Neat V w.binds (seal m (var x)) → ¬ Memᴰ (mark x j) w.forced → Stuck w V
  at_box : (j n : ℕ) (m : Term) → Settled w j → ¬ Reached w j (name n) → Sure w j (seal m (name n)) → Neat V w.binds (seal m (name n)) → ¬ Reached w j (seal m (name n)) → Stuck w V

pub data Need (w : Way) (V j : ℕ) (M : List ℕ) (t : Term) : Type 0 where
  through : (M' : List ℕ) → ((x : ℕ) → Memᴰ x M → Memᴰ x M') → ((x : ℕ) → Memᴰ x M' → Sure w j (var x)) → Met (take j (acts w)) M' t → Need w V j M t
  fails : No w → Need w V j M t
  stuck : Stuck w V → Need w V j M t

mem? : (x : ℕ) (M : List ℕ) → Dec (Memᴰ x M)
mem? x [] = no (λ m. Memᴰ.not-nil m)
mem? x (y ∷ M) =
    elim (ℕ_discrete x y) [
      | yes e ↦ yes (Memᴰ.head e)
      | no f ↦ elim (mem? x M) [
        | yes h ↦ yes (Memᴰ.tail h)
        | no g ↦ no (λ m. elim (Memᴰ.cases_cons m) [ inl e ↦ f e | inr r ↦ g r ])
      ]
    ]

pub met_more : {S : List Term} {M M' : List ℕ} → ((x : ℕ) → Memᴰ x M → Memᴰ x M') → {t : Term} → Met S M t → Met S M' t
met_more h (by_mark m) = by_mark (h _ m)
met_more h (Met.by_name a) = Met.by_name a
met_more h (Met.by_env n) = Met.by_env n
met_more h (by_pair p q) = by_pair (met_more h p) (met_more h q)
met_more h (by_open_key a p) = by_open_key a (met_more h p)
met_more h (by_env_key n p) = by_env_key n (met_more h p)
met_more h (by_marked_key m p) = by_marked_key (h _ m) (met_more h p)
met_more h (by_equal_box a) = by_equal_box a

-- what was met stays met
pub met_grows : {S R : List Term} {M : List ℕ} → S ⊆ R → {t : Term} → Met S M t → Met R M t
met_grows h (by_mark m) = by_mark m
met_grows h (Met.by_name a) = Met.by_name (analz_mono h a)
met_grows h (Met.by_env n) = Met.by_env n
met_grows h (by_pair p q) = by_pair (met_grows h p) (met_grows h q)
met_grows h (by_open_key a p) = by_open_key (analz_mono h a) (met_grows h p)
met_grows h (by_env_key n p) = by_env_key n (met_grows h p)
met_grows h (by_marked_key m p) = by_marked_key m (met_grows h p)
met_grows h (by_equal_box a) = by_equal_box (analz_mono h a)

module _ (analz? : AnalzTold) (w : Way) (V j : ℕ) (settled : Settled w j) (in-time : j ≤ time (steps w)) where
  over : (M : List ℕ) (t t' : Term) → ((M' : List ℕ) → ((x : ℕ) → Memᴰ x M → Memᴰ x M') → Met (take j (acts w)) M' t → Met (take j (acts w)) M' t') → Need w V j M t → Need w V j M t'
  over M t t' f n = elim n [ through M' i a p ↦ through M' i a (f M' i p) | fails z ↦ fails z | stuck z ↦ stuck z ]

  both_needs : (M : List ℕ) (c d : Term) → Need w V j M c → ((M' : List ℕ) → ((x : ℕ) → Memᴰ x M → Memᴰ x M') → ((x : ℕ) → Memᴰ x M' → Sure w j (var x)) → Need w V j M' d) → Need w V j M (pair c d)
  both_needs M c d n f =
      elim n [
        | through M' i a p ↦ elim (f M' i a) [
          | through M'' i' a' p' ↦ through M'' (λ x m. i' x (i x m)) a' (by_pair (met_more i' p) p')
          | fails z ↦ fails z
          | stuck z ↦ stuck z
        ]
        | fails z ↦ fails z
        | stuck z ↦ stuck z
      ]

  pub need : (t : Term) (M : List ℕ) → ((x : ℕ) → Memᴰ x M → Sure w j (var x)) → ((x : ℕ) → Memᴰ (mark x j) w.forced → Memᴰ x M) → Sure w j t → Neat V w.binds t → Need w V j M t
  need (name n) M a due s v =
      elim (analz? (take j (acts w)) (name n)) [
        | yes r ↦ through M (λ x m. m) a (Met.by_name r)
        | no f ↦ fails (name_fails w j n settled s f)
      ]
  need (env n) M a due s v = through M (λ x m. m) a (Met.by_env n)
  need (var y) M a due s v =
      through (y ∷ M) (λ x m. Memᴰ.tail m) (λ x m. elim (Memᴰ.cases_cons m) [ inl e ↦ subst (λ (z : ℕ). Sure w j (var z)) (sym e) s | inr r ↦ a x r ]) (by_mark (Memᴰ.head refl))
  need (pair c d) M a due s v =
      both_needs M c d (need c M a due (pair_needs w j c d s).0 (v.0.0, v.1.0)) (λ M' i a'. need d M' a' (λ x m. i x (due x m)) (pair_needs w j c d s).1 (v.0.1, v.1.1))
  need (seal m (name n)) M a due s v =
      elim (analz? (take j (acts w)) (name n)) [
        | yes r ↦ over M m (seal m (name n)) (λ M' i p. by_open_key r p) (need m M a due (open_needs w j n m settled r s) (v.0.0, v.1.0))
        | no f ↦ elim (analz? (take j (acts w)) (seal m (name n))) [
          | yes r ↦ through M (λ x h. h) a (by_equal_box r)
          | no g ↦ stuck (at_box j n m settled f s v g)
        ]
      ]
  need (seal m (env n)) M a due s v = over M m (seal m (env n)) (λ M' i p. by_env_key n p) (need m M a due (λ ρ good. Derives.open_seal (s ρ good) tt (Derives.public n)) (v.0.0, v.1.0))
  need (seal m (var y)) M a due s v =
      elim (mem? y M) [
        | yes h ↦ over M m (seal m (var y)) (λ M' i p. by_marked_key (i y h) p) (need m M a due (marked_needs w j y m (a y h) s) (v.0.0, v.1.0))
        | no f ↦ stuck (at_key j y m settled in-time s v (λ k. f (due y k)))
      ]
  need (seal m (pair c d)) M a due s v = fails (key_fails w j m (pair c d) s (λ i. i))
  need (seal m (seal c d)) M a due s v = fails (key_fails w j m (seal c d) s (λ i. i))

-- the variables that are forced at j
due_at : (j : ℕ) (F : List Mark) → (L : List ℕ) × ((x : ℕ) → Memᴰ x L → Memᴰ (mark x j) F) × ((x : ℕ) → Memᴰ (mark x j) F → Memᴰ x L)
due_at j [] = ([], (λ x m. absurd (Memᴰ.not-nil m)), (λ x m. absurd (Memᴰ.not-nil m)))
due_at j (f ∷ F) =
    let r = due_at j F in
    elim (ℕ_discrete f.time j) [
      | yes e ↦ (
        f.who ∷ r.0,
        (λ x m. elim (Memᴰ.cases_cons m) [ inl q ↦ Memᴰ.head (ap₂ (λ (a b : ℕ). mark a b) q (sym e)) | inr k ↦ Memᴰ.tail (r.1 x k) ]),
        (λ x m. elim (Memᴰ.cases_cons m) [ inl q ↦ Memᴰ.head (ap (λ (z : Mark). z.who) q) | inr k ↦ Memᴰ.tail (r.2 x k) ]),
      )
      | no n ↦ (
        r.0,
        (λ x m. Memᴰ.tail (r.1 x m)),
        (λ x m. elim (Memᴰ.cases_cons m) [ inl q ↦ absurd (n (sym (ap (λ (z : Mark). z.time) q))) | inr k ↦ r.2 x k ]),
      )
    ]

mem_join : (xs ys : List ℕ) (x : ℕ) → Memᴰ x (xs ++ ys) → Memᴰ x xs ⊎ Memᴰ x ys
mem_join [] ys x m = inr m
mem_join (a ∷ xs) ys x m = elim (Memᴰ.cases_cons m) [ inl e ↦ inl (Memᴰ.head e) | inr r ↦ elim (mem_join xs ys x r) [ inl q ↦ inl (Memᴰ.tail q) | inr q ↦ inr q ] ]

mem_first : (xs ys : List ℕ) (x : ℕ) → Memᴰ x xs → Memᴰ x (xs ++ ys)
mem_first [] ys x m = absurd (Memᴰ.not-nil m)
mem_first (a ∷ xs) ys x m = elim (Memᴰ.cases_cons m) [ inl e ↦ Memᴰ.head e | inr r ↦ Memᴰ.tail (mem_first xs ys x r) ]

time_within : (qs rs : List TermStep) → time qs ≤ time (qs ++ rs)
time_within [] rs = omega arith
time_within (input l x ∷ qs) rs = let h = time_within qs rs in omega arith
time_within (output l n ∷ qs) rs = let h = time_within qs rs in omega arith
time_within (opens s x k ∷ qs) rs = time_within qs rs
time_within (splits s x y ∷ qs) rs = time_within qs rs
time_within (same n m ∷ qs) rs = time_within qs rs

pub mem_mid : (qs : List TermStep) (q : TermStep) (rs : List TermStep) → Memᴰ q (qs ++ (q ∷ rs))
mem_mid [] q rs = Memᴰ.head refl
mem_mid (p ∷ qs) q rs = Memᴰ.tail (mem_mid qs q rs)

-- the inputs among rs, after qs, are met
abbrev pub Rest : Way → List TermStep → List TermStep → Type 0
Rest w qs rs = (qs' : List TermStep) (l x : ℕ) (rs' : List TermStep) → rs ≡ qs' ++ (input l x ∷ rs') → (M : List ℕ) × Met (take (time (qs ++ qs')) (acts w)) M (w.binds x)

pub data Round (w : Way) (V : ℕ) (qs rs : List TermStep) : Type 0 where
  passed : Rest w qs rs → Round w V qs rs
  failed : No w → Round w V qs rs
  stopped : Stuck w V → Round w V qs rs

-- this step, and then the rest
abbrev Here : Way → List TermStep → TermStep → Type 0
Here w qs q = (l x : ℕ) → q ≡ input l x → (M : List ℕ) × Met (take (time qs) (acts w)) M (w.binds x)

append_end : (qs : List TermStep) → qs ++ [] ≡ qs
append_end [] = refl
append_end (q ∷ qs) = ap (λ (z : List TermStep). q ∷ z) (append_end qs)

round_on : (w : Way) (V : ℕ) (qs : List TermStep) (q : TermStep) (rs : List TermStep) → Here w qs q → Round w V (qs ++ (q ∷ [])) rs → Round w V qs (q ∷ rs)
round_on w V qs q rs here r = elim r [ passed k ↦ passed (go k) | failed z ↦ failed z | stopped z ↦ stopped z ]
  where
    go : Rest w (qs ++ (q ∷ [])) rs → Rest w qs (q ∷ rs)
    go k [] l x rs' e =
        let same_step : q ≡ input l x = cc in
        subst (λ (z : List TermStep). (M : List ℕ) × Met (take (time z) (acts w)) M (w.binds x)) (sym (append_end qs)) (here l x same_step)
    go k (p ∷ qs') l x rs' e =
        let same_step : q ≡ p = cc in
        let rest : rs ≡ qs' ++ (input l x ∷ rs') = cc in
        subst (λ (z : List TermStep). (M : List ℕ) × Met (take (time z) (acts w)) M (w.binds x)) (append_assoc qs (q ∷ []) qs' ∙ ap (λ (z : TermStep). qs ++ (z ∷ qs')) same_step) (k qs' l x rs' rest)

no_input : (w : Way) (qs : List TermStep) (q : TermStep) → ((l x : ℕ) → ¬ (q ≡ input l x)) → Here w qs q
no_input w qs q f l x e = absurd (f l x e)

out_in : (l' : ℕ) (t : Term) (l x : ℕ) → ¬ (output l' t ≡ input l x)
out_in l' t l x e = grind arith

opens_in : (s : Term) (y : ℕ) (k : Term) (l x : ℕ) → ¬ (opens s y k ≡ input l x)
opens_in s y k l x e = grind arith

split_in : (s : Term) (y z l x : ℕ) → ¬ (splits s y z ≡ input l x)
split_in s y z l x e = grind arith

same_in : (s t : Term) (l x : ℕ) → ¬ (same s t ≡ input l x)
same_in s t l x e = grind arith

module _ (analz? : AnalzTold) (w : Way) (V : ℕ) (grounded : Grounded (steps w)) (fits : (q : TermStep) → Memᴰ q (steps w) → Fits w.binds q) (neat : (l x : ℕ) → Memᴰ (input l x) (steps w) → Neat V w.binds (w.binds x)) where
  in_steps : (qs : List TermStep) (q : TermStep) (rs : List TermStep) → steps w ≡ qs ++ (q ∷ rs) → Memᴰ q (steps w)
  in_steps qs q rs e = subst (λ (z : List TermStep). Memᴰ q z) (sym e) (mem_mid qs q rs)

  later : (qs : List TermStep) (q : TermStep) (M : List ℕ) → ((x : ℕ) → Memᴰ x M → Sure w (time qs) (var x)) → (x : ℕ) → Memᴰ x M → Sure w (time (qs ++ (q ∷ []))) (var x)
  later qs q M a x m = let h = time_on qs q in stays w (time qs) (time (qs ++ (q ∷ []))) (omega (arith, h)) (var x) (a x m)

  at_input : (qs : List TermStep) (l x : ℕ) (rs : List TermStep) → steps w ≡ qs ++ (input l x ∷ rs) → Scanned w qs → (M : List ℕ) → ((y : ℕ) → Memᴰ y M → Sure w (time qs) (var y)) → (L : List ℕ) × Need w V (time qs) L (w.binds x)
  at_input qs l x rs e sc M a =
      let d = due_at (time qs) w.forced in
      let L : List ℕ = d.0 ++ M in (
        L,
        need analz? w V (time qs) sc.settled (subst (λ (z : List TermStep). time qs ≤ time z) (sym e) (time_within qs (input l x ∷ rs))) (w.binds x) L
            (λ y m. elim (mem_join d.0 M y m) [ inl h ↦ forced_sure w (mark y (time qs)) (d.1 y h) | inr h ↦ a y h ])
            (λ y m. mem_first d.0 M y (d.2 y m))
            (asked w qs l x rs e) (neat l x (in_steps qs (input l x) rs e)),
      )

  pub scan : (rs qs : List TermStep) → steps w ≡ qs ++ rs → Scanned w qs → (M : List ℕ) → ((x : ℕ) → Memᴰ x M → Sure w (time qs) (var x)) → Round w V qs rs
  scan [] qs e sc M a = passed (λ qs' l x rs' q. absurd (nil_cons qs' (input l x) rs' q))
  scan (input l x ∷ rs) qs e sc M a =
      elim (at_input qs l x rs e sc M a).1 [
        | through M' i a' p ↦
            round_on w V qs (input l x) rs
            (λ l' y q. let same-var : x ≡ y = cc in (M', subst (λ (z : ℕ). Met (take (time qs) (acts w)) M' (w.binds z)) same-var p))
            (scan rs (qs ++ (input l x ∷ [])) (e ∙ sym (append_assoc qs (input l x ∷ []) rs)) (scan_passes w grounded qs (input l x) rs e tt sc (met_settles w (time qs) M' (w.binds x) sc.settled a' p)) M' (later qs (input l x) M' a'))
        | fails z ↦ failed z
        | stuck z ↦ stopped z
      ]
  scan (output l t ∷ rs) qs e sc M a =
      round_on w V qs (output l t) rs (no_input w qs (output l t) (out_in l t)) (scan rs (qs ++ (output l t ∷ [])) (e ∙ sym (append_assoc qs (output l t ∷ []) rs)) (scan_passes w grounded qs (output l t) rs e tt sc tt) M (later qs (output l t) M a))
  scan (opens s y k ∷ rs) qs e sc M a =
      round_on w V qs (opens s y k) rs (no_input w qs (opens s y k) (opens_in s y k)) (scan rs (qs ++ (opens s y k ∷ [])) (e ∙ sym (append_assoc qs (opens s y k ∷ []) rs)) (scan_passes w grounded qs (opens s y k) rs e (fits (opens s y k) (in_steps qs (opens s y k) rs e)) sc tt) M (later qs (opens s y k) M a))
  scan (splits s y z ∷ rs) qs e sc M a =
      round_on w V qs (splits s y z) rs (no_input w qs (splits s y z) (split_in s y z)) (scan rs (qs ++ (splits s y z ∷ [])) (e ∙ sym (append_assoc qs (splits s y z ∷ []) rs)) (scan_passes w grounded qs (splits s y z) rs e (fits (splits s y z) (in_steps qs (splits s y z) rs e)) sc tt) M (later qs (splits s y z) M a))
  scan (same s t ∷ rs) qs e sc M a =
      round_on w V qs (same s t) rs (no_input w qs (same s t) (same_in s t)) (scan rs (qs ++ (same s t ∷ [])) (e ∙ sym (append_assoc qs (same s t ∷ []) rs)) (scan_passes w grounded qs (same s t) rs e (fits (same s t) (in_steps qs (same s t) rs e)) sc tt) M (later qs (same s t) M a))
