-- The recursion decides.
use mathlib.Core.Path.{◌≡◌, refl, sym, ap, ap₂, ◌∙◌, subst}
use mathlib.Core.Bool.{Bool, true, false}
use mathlib.Core.Option.{Option, none, some}
use mathlib.Core.List.Memᴰ
use mathlib.Core.List.{List, [], ◌∷◌, ◌++◌, map, Memᴰ}
use mathlib.Core.Logic.{◌⊎◌, inl, inr}
use Prim.Native.Nat.{ℕ, zero, suc, ◌<◌, ◌≤◌}
use native.Mathlib.Nat.{not-suc-le-zero, lt-suc_self}
use native.Mathlib.Decide.{ℕ_discrete}
use native.Mathlib.Omega.{arith}
use lib.Dec.{T}
use lib.ListN.{length, take}
use Rattle.terms.specs.Terms.{Term, name, env, var, pair, seal, inst, Atom, Message}
use Rattle.protocol.specs.Strands.{TermStep, input, output, opens, splits, same}
use Rattle.protocol.specs.declared.step.Direction.{Direction}
use Rattle.protocol.specs.declared.step.Direction.TheVariants.{Input, Output}
use Rattle.lifting.specs.Lift.{Analz, by_var, by_env, by_name}
use Rattle.lifting.specs.Same.{same?}
use Rattle.lifting.proofs.Comparing.{same→eq, eq→same}
use Rattle.lifting.proofs.Instances.{vars_map}
use Rattle.lifting.proofs.Lists.{only}
use Rattle.runs.specs.Protocols.{TermAction, Protocol, Plain, Written}
use Rattle.runs.specs.Runs.{under, Absent}
use Rattle.runs.specs.Schedules.{Holds}
use Rattle.runs.specs.Bridge.{actions}
use Rattle.runs.specs.Told.{said, all_said}
use Rattle.deciding.specs.Ways.{Way, Mark, Meets, acts, No, Reached, Unmatched}
use Rattle.deciding.specs.Scan.{Fits, time}
use Rattle.deciding.specs.Found.{EnvFree, Solved}
use Rattle.deciding.specs.Decide.{AnalzTold, AnalzTable, Neat, Fine, Matcher, Setting, Ready, Decides}
use Rattle.deciding.proofs.Core.{analz_vars, mem_place, place_mem}
use Rattle.deciding.proofs.Ruling.{said_by, key_branches, shut_branches, look_fails, matched_box, other_box, first_way}
use Rattle.deciding.proofs.Walked.{inst_walked, under_walked, action_walked, earlier_fails}
use Rattle.deciding.proofs.Finding.{plain_free}
use Rattle.deciding.proofs.Scanning.{vars_inst, scan_starts}
use Rattle.deciding.proofs.Rounds.{mark, Stuck, at_key, at_box, passed, failed, stopped, scan}

-- decisions
pub term? : (s t : Term) → Dec (s ≡ t)
term? s t = go (same? s t) (same→eq s t) (eq→same s t)
  where
    go : (b : Bool) → (T b → s ≡ t) → (s ≡ t → T b) → Dec (s ≡ t)
    go true f g = yes (f tt)
    go false f g = no g

pub direction? : (a b : Direction) → Dec (a ≡ b)
direction? Input Input = yes refl
direction? Input Output = no (λ e. grind arith)
direction? Output Input = no (λ e. grind arith)
direction? Output Output = yes refl

action? : (a b : TermAction) → Dec (a ≡ b)
action? a b =
    elim (direction? a.direction b.direction) [
      | no f ↦ no (λ e. f (ap (λ (z : TermAction). z.direction) e))
      | yes d ↦ elim (ℕ_discrete a.label b.label) [
        | no f ↦ no (λ e. f (ap (λ (z : TermAction). z.label) e))
        | yes l ↦ elim (term? a.term b.term) [
          | no f ↦ no (λ e. f (ap (λ (z : TermAction). z.term) e))
          | yes t ↦ yes (ap₂ (λ (x : Direction) (y : ℕ). record { direction = x; label = y; term = a.term }) d l ∙ ap (λ (z : Term). record { direction = b.direction; label = b.label; term = z }) t)
        ]
      ]
    ]

mem_action? : (a : TermAction) (L : List TermAction) → Dec (Memᴰ a L)
mem_action? a [] = no (λ m. Memᴰ.not-nil m)
mem_action? a (b ∷ L) =
    elim (action? a b) [
      | yes e ↦ yes (Memᴰ.head e)
      | no f ↦ elim (mem_action? a L) [ yes h ↦ yes (Memᴰ.tail h) | no g ↦ no (λ m. elim (Memᴰ.cases_cons m) [ inl e ↦ f e | inr r ↦ g r ]) ]
    ]

pub mem_term? : (a : Term) (L : List Term) → Dec (Memᴰ a L)
mem_term? a [] = no (λ m. Memᴰ.not-nil m)
mem_term? a (b ∷ L) =
    elim (term? a b) [
      | yes e ↦ yes (Memᴰ.head e)
      | no f ↦ elim (mem_term? a L) [ yes h ↦ yes (Memᴰ.tail h) | no g ↦ no (λ m. elim (Memᴰ.cases_cons m) [ inl e ↦ f e | inr r ↦ g r ]) ]
    ]

told_by : AnalzTable → AnalzTold
told_by table S t = let r = table S in elim (mem_term? t r.0) [ yes h ↦ yes (r.1 t h) | no f ↦ no (λ a. f (r.2 t a)) ]

clear? : (σ : ℕ → Term) (o : Option TermAction) (r : List TermAction) → Absent σ o r ⊎ ((a : TermAction) × (o ≡ some a) × Memᴰ (under σ a) r)
clear? σ none r = inl tt
clear? σ (some a) r = elim (mem_action? (under σ a) r) [ yes h ↦ inr (a, refl, h) | no f ↦ inl f ]

key? : (k : Term) → Dec (Atom k)
key? (name n) = yes tt
key? (env n) = yes tt
key? (var x) = yes tt
key? (pair a b) = no (λ i. i)
key? (seal a b) = no (λ i. i)

message? : (t : Term) → Dec (Message t)
message? (name n) = yes tt
message? (env n) = yes tt
message? (var x) = yes tt
message? (pair a b) = elim (message? a) [ no f ↦ no (λ m. f m.0) | yes p ↦ elim (message? b) [ no f ↦ no (λ m. f m.1) | yes q ↦ yes (p, q) ] ]
message? (seal b k) = elim (message? b) [ no f ↦ no (λ m. f m.0) | yes p ↦ elim (key? k) [ no f ↦ no (λ m. f m.1) | yes q ↦ yes (p, q) ] ]

all_message : (L : List Term) → ((t : Term) → Memᴰ t L → Message t) ⊎ ((t : Term) × Memᴰ t L × (¬ Message t))
all_message [] = inl (λ t m. absurd (Memᴰ.not-nil m))
all_message (s ∷ L) =
    elim (message? s) [
      | no f ↦ inr (s, Memᴰ.head refl, f)
      | yes p ↦ elim (all_message L) [
        | inl h ↦ inl (λ t m. elim (Memᴰ.cases_cons m) [ inl e ↦ subst (λ (z : Term). Message z) (sym e) p | inr r ↦ h t r ])
        | inr h ↦ inr (h.0, Memᴰ.tail h.1, h.2)
      ]
    ]

-- lists of marks
rows : ℕ → ℕ → List Mark
rows zero j = []
rows (suc v) j = mark v j ∷ rows v j

mem_rows : (V x j : ℕ) → x < V → Memᴰ (mark x j) (rows V j)
unfolding rows
mem_rows zero x j h = absurd (not-suc-le-zero h)
mem_rows (suc v) x j h = elim (ℕ_discrete x v) [ yes e ↦ Memᴰ.head (ap (λ (z : ℕ). mark z j) e) | no f ↦ Memᴰ.tail (mem_rows v x j (omega arith)) ]

grid : ℕ → ℕ → List Mark
grid V zero = rows V 0
grid V (suc J) = rows V (suc J) ++ grid V J

front_mark : (xs ys : List Mark) (m : Mark) → Memᴰ m xs → Memᴰ m (xs ++ ys)
front_mark [] ys m h = absurd (Memᴰ.not-nil h)
front_mark (x ∷ xs) ys m h = elim (Memᴰ.cases_cons h) [ inl e ↦ Memᴰ.head e | inr r ↦ Memᴰ.tail (front_mark xs ys m r) ]

back_mark : (xs ys : List Mark) (m : Mark) → Memᴰ m ys → Memᴰ m (xs ++ ys)
back_mark [] ys m h = h
back_mark (x ∷ xs) ys m h = Memᴰ.tail (back_mark xs ys m h)

mem_grid : (V J x j : ℕ) → x < V → j ≤ J → Memᴰ (mark x j) (grid V J)
unfolding grid
mem_grid V zero x j h k = let e : j ≡ 0 = omega arith in subst (λ (i : ℕ). Memᴰ (mark x i) (rows V 0)) (sym e) (mem_rows V x 0 h)
mem_grid V (suc J) x j h k =
    elim (ℕ_discrete j (suc J)) [
      | yes e ↦ front_mark (rows V (suc J)) (grid V J) (mark x j) (subst (λ (i : ℕ). Memᴰ (mark x i) (rows V (suc J))) (sym e) (mem_rows V x (suc J) h))
      | no f ↦ back_mark (rows V (suc J)) (grid V J) (mark x j) (mem_grid V J x j h (omega arith))
    ]

without : (L : List Mark) (m : Mark) → Memᴰ m L → (L' : List Mark) × (length L' < length L) × ((k : Mark) → Memᴰ k L → (k ≡ m) ⊎ Memᴰ k L')
without [] m h = absurd (Memᴰ.not-nil h)
without (a ∷ L) m h =
    elim (Memᴰ.cases_cons h) [
      | inl q ↦ (L, lt-suc_self (length L), λ k c. elim (Memᴰ.cases_cons c) [ inl e ↦ inl (e ∙ sym q) | inr r ↦ inr r ])
      | inr q ↦ let w = without L m q in (a ∷ w.0, omega (arith, w.1), λ k c. elim (Memᴰ.cases_cons c) [ inl e ↦ inr (Memᴰ.head e) | inr r ↦ elim (w.2 k r) [ inl e ↦ inl e | inr z ↦ inr (Memᴰ.tail z) ] ])
    ]

-- steps and what they say
back_said : (xs ys : List Term) (t : Term) → Memᴰ t ys → Memᴰ t (xs ++ ys)
back_said [] ys t h = h
back_said (x ∷ xs) ys t h = Memᴰ.tail (back_said xs ys t h)

front_said : (xs ys : List Term) (t : Term) → Memᴰ t xs → Memᴰ t (xs ++ ys)
front_said [] ys t h = absurd (Memᴰ.not-nil h)
front_said (x ∷ xs) ys t h = elim (Memᴰ.cases_cons h) [ inl e ↦ Memᴰ.head e | inr r ↦ Memᴰ.tail (front_said xs ys t r) ]

said_in : (ps : List TermStep) (q : TermStep) (t : Term) → Memᴰ q ps → Memᴰ t (said q) → Memᴰ t (all_said ps)
said_in [] q t h m = absurd (Memᴰ.not-nil h)
said_in (p ∷ ps) q t h m =
    elim (Memᴰ.cases_cons h) [
      | inl e ↦ front_said (said p) (all_said ps) t (subst (λ (z : TermStep). Memᴰ t (said z)) e m)
      | inr r ↦ back_said (said p) (all_said ps) t (said_in ps q t r m)
    ]

said_plain : (q : TermStep) → Written q → (t : Term) → Memᴰ t (said q) → Plain t
said_plain (input l x) h t m = subst (λ (s : Term). Plain s) (sym (only (var x) t m)) tt
said_plain (output l n) h t m = subst (λ (s : Term). Plain s) (sym (only n t m)) h
said_plain (opens s x k) h t m = absurd (Memᴰ.not-nil m)
said_plain (splits s x y) h t m = absurd (Memᴰ.not-nil m)
said_plain (same n k) h t m = absurd (Memᴰ.not-nil m)

holds_of : (σ : ℕ → Term) (q : TermStep) → Fits σ q → ((t : Term) → Memᴰ t (said q) → Message (inst σ t)) → Holds σ q
holds_of σ (input l x) f h = h (var x) (Memᴰ.head refl)
holds_of σ (output l n) f h = h n (Memᴰ.head refl)
holds_of σ (opens s x k) f h = f
holds_of σ (splits s x y) f h = f
holds_of σ (same n k) f h = f

pub fits_on : (σ τ : ℕ → Term) → Meets σ τ → (q : TermStep) → Fits σ q → Fits τ q
fits_on σ τ m (input l x) f = tt
fits_on σ τ m (output l n) f = tt
fits_on σ τ m (opens s x k) f = inst_walked σ τ τ m s ∙ (ap (inst τ) f ∙ ap₂ seal (sym (m x)) (sym (inst_walked σ τ τ m k)))
fits_on σ τ m (splits s x y) f = inst_walked σ τ τ m s ∙ (ap (inst τ) f ∙ ap₂ pair (sym (m x)) (sym (m y)))
fits_on σ τ m (same n k) f = inst_walked σ τ τ m n ∙ (ap (inst τ) f ∙ sym (inst_walked σ τ τ m k))

analz_free : {S : List Term} → ((t : Term) → Memᴰ t S → EnvFree t) → {t : Term} → Analz S t → EnvFree t
analz_free h (Analz.listed m) = h _ m
analz_free h (Analz.left a) = (analz_free h a).0
analz_free h (Analz.right a) = (analz_free h a).1
analz_free h (by_var a) = (analz_free h a).0
analz_free h (by_env a) = (analz_free h a).0
analz_free h (by_name a k) = (analz_free h a).0

module _ (V : ℕ) (S : Protocol) (ps : List TermStep) (p : TermStep) (table : AnalzTable) (matcher : Matcher V) (setting : Setting V S ps p) where
  abbrev Found : Type 0
  Found = (σ' : ℕ → Term) × Solved S ps p σ'

  abbrev way : (ℕ → Term) → List Mark → Way
  way σ F = record { protocol = S; before = ps; last = p; binds = σ; forced = F }

  ready_on : (σ τ : ℕ → Term) → Meets σ τ → Fine V τ → Ready V S ps p σ → Ready V S ps p τ
  ready_on σ τ m f r =
      record {
        fine = f;
        fits = λ q h. fits_on σ τ m q (r.fits q h);
        now = action_walked σ τ τ m p ∙ (ap (map (under τ)) r.now ∙ ap (λ (a : TermAction). a ∷ []) (sym (under_walked σ τ τ m S.later)));
      }

  module _ (σ : ℕ → Term) (F : List Mark) (ready : Ready V S ps p σ) where
    neat_acts : (t : Term) → Memᴰ t (acts (way σ F)) → Neat V σ t
    neat_acts t m =
        let r = Memᴰ.of_map (inst σ) (all_said (ps ++ (p ∷ []))) m in
        let q = said_by (ps ++ (p ∷ [])) r.0 r.1 in
        subst (λ (z : Term). Neat V σ z) r.2 (
          vars_inst (λ y. (y < V) × (σ y ≡ var y)) σ r.0 (vars_map (λ x h. ready.fine.few x h) r.0 (setting.below q.0 q.1 r.0 q.2)),
          plain_free σ ready.fine.plain r.0 (said_plain q.0 (setting.written q.0 q.1) r.0 q.2),
        )

    neat_taken : (j : ℕ) (t : Term) → Memᴰ t (take j (acts (way σ F))) → Neat V σ t
    neat_taken j t m = let k = mem_place j (acts (way σ F)) t m in neat_acts t (place_mem (acts (way σ F)) k.0 t k.2)

    neat_reached : (j : ℕ) (t : Term) → Reached (way σ F) j t → Neat V σ t
    neat_reached j t a = (analz_vars (λ y. (y < V) × (σ y ≡ var y)) (λ s m. (neat_taken j s m).0) a, analz_free (λ s m. (neat_taken j s m).1) a)

    module _ (smaller : (τ : ℕ → Term) → Ready V S ps p τ → matcher.room τ < matcher.room σ → Found ⊎ No (way τ [])) where
      module _ (j : ℕ) (s : Term) (ns : Neat V σ s) (differ : (b : Term) (n : ℕ) → Reached (way σ F) j (seal b (name n)) → ¬ Reached (way σ F) j (name n) → ¬ (s ≡ seal b (name n))) where
        abbrev Off : Term → Type 0
        Off c = (b : Term) (n : ℕ) → c ≡ seal b (name n) → Reached (way σ F) j (seal b (name n)) → ¬ Reached (way σ F) j (name n) → Unmatched (way σ F) s (seal b (name n))

        one_box : (c : Term) → Reached (way σ F) j c → Found ⊎ Off c
        one_box c a =
            elim (term? s c) [
              | yes e ↦ inr (λ b n q z f. absurd (differ b n z f (e ∙ q)))
              | no f ↦ elim (matcher.tries σ ready.fine s c ns (neat_reached j c a) f) [
                | inl never ↦ inr (λ b n q z g. subst (λ (d : Term). Unmatched (way σ F) s d) q (other_box (way σ F) s c never))
                | inr h ↦ elim (smaller h.0 (ready_on σ h.0 h.2 h.1 ready) h.5) [
                  | inl found ↦ inl found
                  | inr answer ↦ inr (λ b n q z g. subst (λ (d : Term). Unmatched (way σ F) s d) q (matched_box (way σ F) h.0 s c h.4 answer))
                ]
              ]
            ]

        boxes : (L : List Term) → ((t : Term) → Memᴰ t L → Reached (way σ F) j t) → Found ⊎ ((c : Term) → Memᴰ c L → Off c)
        boxes [] h = inr (λ c m. absurd (Memᴰ.not-nil m))
        boxes (c ∷ L) h =
            elim (one_box c (h c (Memᴰ.head refl))) [
              | inl found ↦ inl found
              | inr off ↦ elim (boxes L (λ t m. h t (Memᴰ.tail m))) [
                | inl found ↦ inl found
                | inr all ↦ inr (λ d m. elim (Memᴰ.cases_cons m) [ inl e ↦ subst (λ (z : Term). Off z) (sym e) off | inr r ↦ all d r ])
              ]
            ]

      seal_key : (m b : Term) (x n : ℕ) → ¬ (seal m (var x) ≡ seal b (name n))
      seal_key m b x n e = let q : var x ≡ name n = cc in clash q
        where
          clash : var x ≡ name n → ⊥
          clash z = grind arith

      unstick : ((x j : ℕ) → x < V → j ≤ time (ps ++ (p ∷ [])) → ¬ Memᴰ (mark x j) F → Found ⊎ No (way σ (mark x j ∷ F))) → Stuck (way σ F) V → Found ⊎ No (way σ F)
      unstick more (at_key j x m st jt su ns nf) =
          elim (more x j ns.0.1.0 jt nf) [
            | inl found ↦ inl found
            | inr answer ↦
                let tb = table (take j (acts (way σ F))) in
                elim (boxes j (seal m (var x)) ns (λ b n a f. seal_key m b x n) tb.0 tb.1) [
                  | inl found ↦ inl found
                  | inr off ↦ inr (key_branches (way σ F) j x m st (λ n. told_by table (take j (acts (way σ F))) (name n)) su answer (λ b n a f. off (seal b (name n)) (tb.2 (seal b (name n)) a) b n refl a f))
                ]
          ]
      unstick more (at_box j k m st nr su ns nb) =
          let tb = table (take j (acts (way σ F))) in
          elim (boxes j (seal m (name k)) ns (λ b n a f e. nb (subst (λ (z : Term). Reached (way σ F) j z) (sym e) a)) tb.0 tb.1) [
            | inl found ↦ inl found
            | inr off ↦ inr (shut_branches (way σ F) j k m st (λ n. told_by table (take j (acts (way σ F))) (name n)) nr su (λ b n a f. off (seal b (name n)) (tb.2 (seal b (name n)) a) b n refl a f))
          ]

      step : ((x j : ℕ) → x < V → j ≤ time (ps ++ (p ∷ [])) → ¬ Memᴰ (mark x j) F → Found ⊎ No (way σ (mark x j ∷ F))) → Found ⊎ No (way σ F)
      step more =
          elim (all_message (acts (way σ F))) [
            | inr bad ↦ inr (look_fails (way σ F) bad.0 bad.1 bad.2)
            | inl ok ↦
                elim (scan (told_by table) (way σ F) V setting.grounded ready.fits (λ l x m. (ready.fine.few x (setting.below (input l x) m (var x) (Memᴰ.head refl)), ready.fine.plain x)) (ps ++ (p ∷ [])) [] refl (scan_starts (way σ F)) [] (λ x m. absurd (Memᴰ.not-nil m))) [
                  | passed th ↦
                      elim (clear? σ S.earlier (actions σ ps)) [
                        | inl ab ↦ inl (
                          σ,
                          record {
                            hold = λ q m. holds_of σ q (ready.fits q m) (λ t h. ok (inst σ t) (Memᴰ.map (inst σ) (said_in (ps ++ (p ∷ [])) q t m h)));
                            through = th;
                            now = ready.now;
                            clear = ab;
                            plain = ready.fine.plain;
                          },
                        )
                        | inr occ ↦ inr (earlier_fails (way σ F) occ.0 occ.1 occ.2)
                      ]
                  | failed z ↦ inr z
                  | stopped z ↦ unstick more z
                ]
          ]

  abbrev Left : List Mark → List Mark → Type 0
  Left F left = (x j : ℕ) → x < V → j ≤ time (ps ++ (p ∷ [])) → ¬ Memᴰ (mark x j) F → Memᴰ (mark x j) left

  all_marks : List Mark
  all_marks = grid V (time (ps ++ (p ∷ [])))

  all_left : Left [] all_marks
  unfolding all_marks
  all_left x j h k f = mem_grid V (time (ps ++ (p ∷ []))) x j h k

  solve : (r n : ℕ) (σ : ℕ → Term) (F left : List Mark) → Ready V S ps p σ → matcher.room σ < r → length left < n → Left F left → Found ⊎ No (way σ F)
  solve zero n σ F left ready h k lf = absurd (not-suc-le-zero h)
  solve (suc r) zero σ F left ready h k lf = absurd (not-suc-le-zero k)
  solve (suc r) (suc n) σ F left ready h k lf =
      step σ F ready
      (λ τ ready' lt. solve r (suc (length all_marks)) τ [] all_marks ready' (omega arith) (lt-suc_self (length all_marks)) all_left)
      (λ x j xv jt nf.
      let rm = without left (mark x j) (lf x j xv jt nf) in
      solve (suc r) n σ (mark x j ∷ F) rm.0 ready h (omega (arith, rm.1)) (λ y i yv it f. elim (rm.2 (mark y i) (lf y i yv it (λ m. f (Memᴰ.tail m)))) [ inl e ↦ absurd (f (Memᴰ.head e)) | inr z ↦ z ]))

pub decides : Decides
decides V S ps p table matcher setting σ ready all =
    elim (solve V S ps p table matcher setting (suc (matcher.room σ)) (suc (length (all_marks V S ps p table matcher setting))) σ [] (all_marks V S ps p table matcher setting) ready (lt-suc_self (matcher.room σ)) (lt-suc_self (length (all_marks V S ps p table matcher setting))) (all_left V S ps p table matcher setting)) [
      | inl found ↦ inl found
      | inr answer ↦ inr (first_way (record { protocol = S; before = ps; last = p; binds = σ; forced = [] }) refl all answer)
    ]
