-- The scan passes step after step.
use mathlib.Core.Path.{◌≡◌, refl, sym, ap, ◌∙◌, subst}
use mathlib.Core.Option.{some}
use mathlib.Core.List.Memᴰ
use mathlib.Core.List.{List, [], ◌∷◌, ◌++◌, map, Memᴰ, append_assoc}
use mathlib.Core.Logic.{◌⊎◌, inl, inr}
use Prim.Native.Nat.{ℕ, suc, ◌+◌, ◌<◌}
use native.Mathlib.Nat.{not-suc-le-zero}
use native.Mathlib.Omega.{arith}
use lib.ListN.{length, get_elem?}
use Rattle.terms.specs.Terms.{Term, name, env, var, pair, seal, inst, Vars}
use Rattle.protocol.specs.Strands.{TermStep, input, output, opens, splits, same, At, Binds, Uses}
use Rattle.lifting.proofs.Instances.{vars_map}
use Rattle.lifting.proofs.Lists.{nil_cons}
use Rattle.runs.specs.Protocols.{Protocol, LawfulProtocol}
use Rattle.runs.specs.Runs.{onward}
use Rattle.runs.specs.Schedules.{Plan, done, then}
use Rattle.runs.specs.Told.{said, all_said}
use Rattle.runs.proofs.Values.{uses_map, onward_cases}
use Rattle.runs.proofs.Bridging.{at_unique}
use Rattle.deciding.specs.Ways.{Way, steps, Sure, Settled}
use Rattle.deciding.specs.Scan.{Fits, PlansGrounded, time, Scanned, Passed, ScanStarts, ScanPasses}
use Rattle.deciding.proofs.Ruling.{stays, settles_on}

pub vars_inst : (P : ℕ → Type 0) (σ : ℕ → Term) (t : Term) → Vars (λ x. Vars P (σ x)) t → Vars P (inst σ t)
vars_inst P σ (name n) v = tt
vars_inst P σ (env n) v = tt
vars_inst P σ (var x) v = v
vars_inst P σ (pair a b) v = (vars_inst P σ a v.0, vars_inst P σ b v.1)
vars_inst P σ (seal b k) v = (vars_inst P σ b v.0, vars_inst P σ k v.1)

-- places of what is said
pub input_place : (σ : ℕ → Term) (qs : List TermStep) (l x : ℕ) (rs : List TermStep) → get_elem? (map (inst σ) (all_said (qs ++ (input l x ∷ rs)))) (time qs) ≡ some (σ x)
input_place σ [] l x rs = refl
input_place σ (input l' y ∷ qs) l x rs = input_place σ qs l x rs
input_place σ (output l' n ∷ qs) l x rs = input_place σ qs l x rs
input_place σ (opens s y k ∷ qs) l x rs = input_place σ qs l x rs
input_place σ (splits s y z ∷ qs) l x rs = input_place σ qs l x rs
input_place σ (same n m ∷ qs) l x rs = input_place σ qs l x rs

pub output_place : (σ : ℕ → Term) (qs : List TermStep) (l : ℕ) (t : Term) (rs : List TermStep) → get_elem? (map (inst σ) (all_said (qs ++ (output l t ∷ rs)))) (time qs) ≡ some (inst σ t)
output_place σ [] l t rs = refl
output_place σ (input l' y ∷ qs) l t rs = output_place σ qs l t rs
output_place σ (output l' n ∷ qs) l t rs = output_place σ qs l t rs
output_place σ (opens s y k ∷ qs) l t rs = output_place σ qs l t rs
output_place σ (splits s y z ∷ qs) l t rs = output_place σ qs l t rs
output_place σ (same n m ∷ qs) l t rs = output_place σ qs l t rs

pub time_on : (qs : List TermStep) (q : TermStep) → time (qs ++ (q ∷ [])) ≡ length (said q) + time qs
time_on [] (input l x) = refl
time_on [] (output l n) = refl
time_on [] (opens s x k) = refl
time_on [] (splits s x y) = refl
time_on [] (same n m) = refl
time_on (input l x ∷ qs) q = let h = time_on qs q in omega arith
time_on (output l n ∷ qs) q = let h = time_on qs q in omega arith
time_on (opens s x k ∷ qs) q = time_on qs q
time_on (splits s x y ∷ qs) q = time_on qs q
time_on (same n m ∷ qs) q = time_on qs q

pub mem_snoc : (qs : List TermStep) (q r : TermStep) → Memᴰ r (qs ++ (q ∷ [])) → Memᴰ r qs ⊎ (r ≡ q)
mem_snoc [] q r m = elim (Memᴰ.cases_cons m) [ inl e ↦ inr e | inr k ↦ absurd (Memᴰ.not-nil k) ]
mem_snoc (p ∷ qs) q r m = elim (Memᴰ.cases_cons m) [ inl e ↦ inl (Memᴰ.head e) | inr k ↦ elim (mem_snoc qs q r k) [ inl h ↦ inl (Memᴰ.tail h) | inr h ↦ inr h ] ]

pub snoc_old : (qs : List TermStep) (q r : TermStep) → Memᴰ r qs → Memᴰ r (qs ++ (q ∷ []))
snoc_old [] q r m = absurd (Memᴰ.not-nil m)
snoc_old (p ∷ qs) q r m = elim (Memᴰ.cases_cons m) [ inl e ↦ Memᴰ.head e | inr k ↦ Memᴰ.tail (snoc_old qs q r k) ]

pub snoc_new : (qs : List TermStep) (q : TermStep) → Memᴰ q (qs ++ (q ∷ []))
snoc_new [] q = Memᴰ.head refl
snoc_new (p ∷ qs) q = Memᴰ.tail (snoc_new qs q)

pub scan_starts : ScanStarts
scan_starts w = record { settled = λ i t h e. absurd (not-suc-le-zero h); values = λ r m x b. absurd (Memᴰ.not-nil m) }

one_more : (n : ℕ) → suc n ≡ 1 + n
one_more n = omega arith

none_more : (n : ℕ) → n ≡ 0 + n
none_more n = omega arith

module _ (w : Way) (qs : List TermStep) (sc : Scanned w qs) where
  used_vars : (q : TermStep) → Uses (λ x. (r : TermStep) × Memᴰ r qs × Binds x r) q → Uses (λ x. Vars (λ y. Sure w (time qs) (var y)) (w.binds x)) q
  used_vars q u = uses_map (λ x h. sc.values h.0 h.1 x h.2) q u

  -- what the step binds has sure variables
  bound_vars : (q : TermStep) → Uses (λ x. Vars (λ y. Sure w (time qs) (var y)) (w.binds x)) q → Fits w.binds q → Passed w qs q → (x : ℕ) → Binds x q → Vars (λ y. Sure w (time qs) (var y)) (w.binds x)
  bound_vars (input l z) u f p x b = subst (λ (v : ℕ). Vars (λ y. Sure w (time qs) (var y)) (w.binds v)) (sym b) p
  bound_vars (output l n) u f p x b = absurd b
  bound_vars (opens s z k) u f p x b =
      let v : Vars (λ y. Sure w (time qs) (var y)) (seal (w.binds z) (inst w.binds k)) = subst (λ (t : Term). Vars (λ y. Sure w (time qs) (var y)) t) f (vars_inst (λ y. Sure w (time qs) (var y)) w.binds s u.0) in
      subst (λ (c : ℕ). Vars (λ y. Sure w (time qs) (var y)) (w.binds c)) (sym b) v.0
  bound_vars (splits s z z') u f p x b =
      let v : Vars (λ y. Sure w (time qs) (var y)) (pair (w.binds z) (w.binds z')) = subst (λ (t : Term). Vars (λ y. Sure w (time qs) (var y)) t) f (vars_inst (λ y. Sure w (time qs) (var y)) w.binds s u) in
      elim b [
        | inl e ↦ subst (λ (c : ℕ). Vars (λ y. Sure w (time qs) (var y)) (w.binds c)) (sym e) v.0
        | inr e ↦ subst (λ (c : ℕ). Vars (λ y. Sure w (time qs) (var y)) (w.binds c)) (sym e) v.1
      ]
  bound_vars (same n m) u f p x b = absurd b

  next_settled : (q : TermStep) (rs : List TermStep) → steps w ≡ qs ++ (q ∷ rs) → Uses (λ x. Vars (λ y. Sure w (time qs) (var y)) (w.binds x)) q → Passed w qs q → Settled w (length (said q) + time qs)
  next_settled (input l x) rs e u p = subst (λ (j : ℕ). Settled w j) (one_more (time qs)) (settles_on w (time qs) (w.binds x) sc.settled (ap (λ (ps : List TermStep). get_elem? (map (inst w.binds) (all_said ps)) (time qs)) e ∙ input_place w.binds qs l x rs) p)
  next_settled (output l n) rs e u p = subst (λ (j : ℕ). Settled w j) (one_more (time qs)) (settles_on w (time qs) (inst w.binds n) sc.settled (ap (λ (ps : List TermStep). get_elem? (map (inst w.binds) (all_said ps)) (time qs)) e ∙ output_place w.binds qs l n rs) (vars_inst (λ y. Sure w (time qs) (var y)) w.binds n u))
  next_settled (opens s x k) rs e u p = subst (λ (j : ℕ). Settled w j) (none_more (time qs)) sc.settled
  next_settled (splits s x y) rs e u p = subst (λ (j : ℕ). Settled w j) (none_more (time qs)) sc.settled
  next_settled (same n m) rs e u p = subst (λ (j : ℕ). Settled w j) (none_more (time qs)) sc.settled

  later_sure : (q : TermStep) (t : Term) → Vars (λ y. Sure w (time qs) (var y)) t → Vars (λ y. Sure w (time (qs ++ (q ∷ []))) (var y)) t
  later_sure q t v = let h = time_on qs q in vars_map (λ y d. stays w (time qs) (time (qs ++ (q ∷ []))) (omega (arith, h)) (var y) d) t v

pub scan_passes : ScanPasses
scan_passes w g qs q rs e f sc p =
    let u = used_vars w qs sc q (g qs q rs e) in
    record {
      settled = subst (λ (j : ℕ). Settled w j) (sym (time_on qs q)) (next_settled w qs sc q rs e u p);
      values = λ r m x b. later_sure w qs sc q (w.binds x) (elim (mem_snoc qs q r m) [ inl h ↦ sc.values r h x b | inr h ↦ bound_vars w qs sc q u f p x (subst (λ (z : TermStep). Binds x z) h b) ]);
    }

-- a plan's steps are grounded
abbrev Had : Protocol → (ℕ → ℕ) → List TermStep → Type 0
Had S next qs = (k i : ℕ) (p : TermStep) → i < next k → At S.strands k i p → Memᴰ p qs

had_on : (S : Protocol) (next : ℕ → ℕ) (qs : List TermStep) (k : ℕ) (p : TermStep) → At S.strands k (next k) p → Had S next qs → Had S (onward next k) (qs ++ (p ∷ []))
had_on S next qs k p at had j i q h a =
    elim (onward_cases next k j i h) [
      | inl l ↦ snoc_old qs p q (had j i q l a)
      | inr e ↦ subst (λ (z : TermStep). Memᴰ z (qs ++ (p ∷ []))) (sym (at_unique S k (next k) j i p q at a e.0 (e.1 ∙ ap next e.0))) (snoc_new qs p)
    ]

grounded_from : (S : Protocol) → LawfulProtocol S → {next : ℕ → ℕ} {s : List ℕ} {ps : List TermStep} → Plan S next s ps → (done-before : List TermStep) → Had S next done-before → (qs : List TermStep) (q : TermStep) (rs : List TermStep) → ps ≡ qs ++ (q ∷ rs) → Uses (λ x. (r : TermStep) × Memᴰ r (done-before ++ qs) × Binds x r) q
grounded_from S law done b had qs q rs e = absurd (nil_cons qs q rs e)
grounded_from S law (then {next} {k} {p} {s} {ps} at pl) b had [] q rs e =
    let same_step : p ≡ q = cc in
    subst (λ (z : TermStep). Uses (λ x. (r : TermStep) × Memᴰ r (b ++ []) × Binds x r) z) same_step (uses_map (λ x h. (h.1, front b [] h.1 (had k h.0 h.1 h.2 h.3), h.4)) p (law.used k (next k) p at))
  where
    front : (xs ys : List TermStep) (r : TermStep) → Memᴰ r xs → Memᴰ r (xs ++ ys)
    front [] ys r m = absurd (Memᴰ.not-nil m)
    front (x ∷ xs) ys r m = elim (Memᴰ.cases_cons m) [ inl z ↦ Memᴰ.head z | inr z ↦ Memᴰ.tail (front xs ys r z) ]
grounded_from S law (then {next} {k} {p} {s} {ps} at pl) b had (q₀ ∷ qs) q rs e =
    let same_step : p ≡ q₀ = cc in
    let rest : ps ≡ qs ++ (q ∷ rs) = cc in
    let ih = grounded_from S law pl (b ++ (p ∷ [])) (had_on S next b k p at had) qs q rs rest in
    uses_map (λ x h. (h.0, subst (λ (l : List TermStep). Memᴰ h.0 l) (append_assoc b (p ∷ []) qs ∙ ap (λ (z : TermStep). b ++ (z ∷ qs)) same_step) h.1, h.2)) q ih

pub plans_grounded : PlansGrounded
plans_grounded S law s ps pl qs q rs e = grounded_from S law pl [] (λ k i p h a. absurd (not-suc-le-zero h)) qs q rs e
