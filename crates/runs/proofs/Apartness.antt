-- Strands share no variables.
use Rattle.std.proofs.Common.{◌≡◌, ℕ, zero, suc, ◌+◌, ◌<◌, ◌≤◌, Bool, true, false, cond, eqb, List, [], ◌∷◌, length, take, sym, refl, ap, ◌∙◌, subst, ap₂, inl, inr, le_of_suc-le-suc, not-suc-le-zero, arith}
use mathlib.Core.Option.{some, some-injective}
use mathlib.Core.List.Memᴰ
use mathlib.Core.List.{Memᴰ}
use native.Mathlib.Decide.{ℕ_discrete, dec_lt, dec_le}
use lib.ListN.{get_elem?, get_or-eq_default}
use Rattle.terms.specs.Terms.{Term, name, env, var, pair, seal, inst, Message, Vars}
use Rattle.protocol.specs.Strands.{TermStep, input, output, opens, splits, same, At, Binds, Uses}
use Rattle.lifting.proofs.Lists.{none_some}
use Rattle.runs.specs.Protocols.{Protocol, strand, LawfulProtocol}
use Rattle.runs.specs.Runs.{onward, nowhere}
use Rattle.runs.specs.Schedules.{Plan, done, then, Holds, Feasible}
use Rattle.runs.specs.Apart.{mentions, OwnFeasible, StrandsApart, FeasibleCounts}
use Rattle.runs.proofs.Values.{uses_map, onward_cases, onward_here}
use Rattle.runs.proofs.Decisions.{binds?}

pub some_place : (l : List TermStep) (i : ℕ) → i < length l → (p : TermStep) × (get_elem? l i ≡ some p)
some_place [] i h = absurd (not-suc-le-zero h)
some_place (p ∷ l) zero h = (p, refl)
some_place (p ∷ l) (suc i) h = some_place l i (le_of_suc-le-suc h)

pub place_below : (l : List TermStep) (i : ℕ) (p : TermStep) → get_elem? l i ≡ some p → i < length l
place_below [] i p e = absurd (none_some p e)
place_below (q ∷ l) zero p e = omega arith
place_below (q ∷ l) (suc i) p e = let h = place_below l i p e in omega arith

take_place : (n : ℕ) (l : List TermStep) (p : TermStep) → Memᴰ p (take n l) → (i : ℕ) × (i < n) × (get_elem? l i ≡ some p)
take_place zero l p m = absurd (Memᴰ.not-nil m)
take_place (suc n) [] p m = absurd (Memᴰ.not-nil m)
take_place (suc n) (q ∷ l) p m = elim (Memᴰ.cases_cons m) [ inl e ↦ (0, omega arith, ap some (sym e)) | inr r ↦ let t = take_place n l p r in (suc t.0, omega (arith, t.1), t.2) ]

place_take : (n : ℕ) (l : List TermStep) (p : TermStep) (i : ℕ) → i < n → get_elem? l i ≡ some p → Memᴰ p (take n l)
place_take zero l p i h e = absurd (not-suc-le-zero h)
place_take (suc n) [] p i h e = absurd (none_some p e)
place_take (suc n) (q ∷ l) p zero h e = Memᴰ.head (sym (some-injective q p e))
place_take (suc n) (q ∷ l) p (suc i) h e = Memᴰ.tail (place_take n l p i (le_of_suc-le-suc h) e)

strand_below : (S : Protocol) (k i : ℕ) (p : TermStep) → At S.strands k i p → k < length S.strands
strand_below S k i p a =
    elim (dec_lt k (length S.strands)) [
      | yes h ↦ h
      | no h ↦ absurd (none_some p (subst (λ (l : List TermStep). get_elem? l i ≡ some p) (get_or-eq_default S.strands [] (omega arith)) a))
    ]

pub onward_mentions : (next : ℕ → ℕ) (j k : ℕ) (s : List ℕ) → onward next j k + mentions k s ≡ next k + mentions k (j ∷ s)
onward_mentions next j k s = go (eqb k j)
  where
    go : (b : Bool) → cond b (suc (next k)) (next k) + mentions k s ≡ next k + cond b (suc (mentions k s)) (mentions k s)
    go true = omega arith
    go false = refl

-- the steps of a plan are those between the positions
pub plan_from : {S : Protocol} {next : ℕ → ℕ} {s : List ℕ} {ps : List TermStep} → Plan S next s ps → (p : TermStep) → Memᴰ p ps → (k : ℕ) × (i : ℕ) × (i < next k + mentions k s) × At S.strands k i p
plan_from done p m = absurd (Memᴰ.not-nil m)
plan_from {S} (then {next} {k} {p = q} {s = s} at pl) p m =
    elim (Memᴰ.cases_cons m) [
      | inl e ↦ (k, next k, first_below next k s, subst (λ (z : TermStep). At S.strands k (next k) z) (sym e) at)
      | inr r ↦ let t = plan_from pl p r in (t.0, t.1, rw (← onward_mentions next k t.0 s) t.2, t.3)
    ]
  where
    first_below : (next : ℕ → ℕ) (k : ℕ) (s : List ℕ) → next k < next k + mentions k (k ∷ s)
    first_below next k s = let e = onward_mentions next k k s in let o = onward_here next k in omega arith

plan_has : {S : Protocol} {next : ℕ → ℕ} {s : List ℕ} {ps : List TermStep} → Plan S next s ps → (k i : ℕ) (p : TermStep) → next k ≤ i → i < next k + mentions k s → At S.strands k i p → Memᴰ p ps
plan_has done k i p h l a = absurd (omega arith)
plan_has {S} (then {next} {k = j} {p = q} {s = s} at pl) k i p h l a =
    elim (dec_le (onward next j k) i) [
      | yes g ↦ Memᴰ.tail (plan_has pl k i p g (rw (onward_mentions next j k s) l) a)
      | no g ↦ elim (onward_cases next j k i (omega arith)) [
        | inl z ↦ absurd (omega arith)
        | inr z ↦ Memᴰ.head (some-injective p q (sym a ∙ (ap₂ (λ (c d : ℕ). get_elem? (strand S c) d) z.0 (z.1 ∙ ap next z.0) ∙ at)))
      ]
    ]

-- no strand goes past its end
pub onward_below : (S : Protocol) (next : ℕ → ℕ) (j : ℕ) (p : TermStep) → At S.strands j (next j) p → ((k : ℕ) → next k ≤ length (strand S k)) → (k : ℕ) → onward next j k ≤ length (strand S k)
onward_below S next j p at r k =
    elim (dec_le (onward next j k) (next k)) [
      | yes h ↦ let g = r k in omega arith
      | no h ↦ elim (onward_cases next j k (next k) (omega arith)) [
        | inl z ↦ absurd (omega arith)
        | inr z ↦ subst (λ (c : ℕ). onward next j c ≤ length (strand S c)) (sym z.0) (rw (onward_here next j) (place_below (strand S j) (next j) p at))
      ]
    ]

plan_room : {S : Protocol} {next : ℕ → ℕ} {s : List ℕ} {ps : List TermStep} → Plan S next s ps → ((k : ℕ) → next k ≤ length (strand S k)) → (k : ℕ) → next k + mentions k s ≤ length (strand S k)
plan_room done r k = let h = r k in omega arith
plan_room {S} (then {next} {k = j} {p} {s = s} at pl) r k = rw (← onward_mentions next j k s) (plan_room pl (onward_below S next j p at r) k)

plan_made : (S : Protocol) (next : ℕ → ℕ) (s : List ℕ) → ((k : ℕ) → next k + mentions k s ≤ length (strand S k)) → (ps : List TermStep) × Plan S next s ps
plan_made S next [] h = ([], done)
plan_made S next (k ∷ s) h =
    let e = onward_mentions next k k s in
    let o = onward_here next k in
    let g = h k in
    let a = some_place (strand S k) (next k) (omega arith) in
    let r = plan_made S (onward next k) s (λ j. rw (onward_mentions next k j s) (h j)) in
    (a.0 ∷ r.0, then a.1 r.1)

-- some step of the list binds the variable
abbrev BoundIn : ℕ → List TermStep → Type 0
BoundIn x l = (i : ℕ) × (p : TermStep) × (get_elem? l i ≡ some p) × Binds x p

bound_in? : (x : ℕ) (l : List TermStep) → Dec (BoundIn x l)
bound_in? x [] = no (λ b. none_some b.1 b.2)
bound_in? x (p ∷ l) = go (binds? x p) (bound_in? x l)
  where
    after : ¬ Binds x p → ¬ BoundIn x l → (i : ℕ) (q : TermStep) → get_elem? (p ∷ l) i ≡ some q → Binds x q → ⊥
    after n m zero q e b = n (subst (λ (z : TermStep). Binds x z) (sym (some-injective p q e)) b)
    after n m (suc i) q e b = m (i, q, e, b)

    go : Dec (Binds x p) → Dec (BoundIn x l) → Dec (BoundIn x (p ∷ l))
    go (yes b) d = yes (0, p, refl, b)
    go (no n) (yes b) = yes (suc b.0, b.1, b.2, b.3)
    go (no n) (no m) = no (λ b. after n m b.0 b.1 b.2 b.3)

abbrev pick_strand : {A : Type 0} → Dec A → ℕ → ℕ → ℕ
pick_strand (yes a) n m = n
pick_strand (no f) n m = m

-- the strand below n that binds the variable
abbrev owner : Protocol → ℕ → ℕ → ℕ
owner S x zero = 0
owner S x (suc n) = pick_strand (bound_in? x (strand S n)) n (owner S x n)

owner_is : (S : Protocol) → LawfulProtocol S → (x n k : ℕ) → k < n → BoundIn x (strand S k) → owner S x n ≡ k
owner_is S law x zero k h b = absurd (not-suc-le-zero h)
owner_is S law x (suc n) k h b = go (bound_in? x (strand S n)) (λ l. owner_is S law x n k l b)
  where
    go : (d : Dec (BoundIn x (strand S n))) → (k < n → owner S x n ≡ k) → pick_strand d n (owner S x n) ≡ k
    go (yes c) ih = (law.once n k c.0 b.0 c.1 b.1 x c.2 b.2 c.3 b.3).0
    go (no f) ih = elim (ℕ_discrete n k) [ yes e ↦ absurd (f (subst (λ (j : ℕ). BoundIn x (strand S j)) (sym e) b)) | no g ↦ ih (omega arith) ]

pub inst_agree : (ρ σ : ℕ → Term) (t : Term) → Vars (λ x. ρ x ≡ σ x) t → inst ρ t ≡ inst σ t
inst_agree ρ σ (name n) h = refl
inst_agree ρ σ (env n) h = refl
inst_agree ρ σ (var x) h = h
inst_agree ρ σ (pair a b) h = ap₂ pair (inst_agree ρ σ a h.0) (inst_agree ρ σ b h.1)
inst_agree ρ σ (seal a b) h = ap₂ seal (inst_agree ρ σ a h.0) (inst_agree ρ σ b h.1)

pub holds_agree : (ρ σ : ℕ → Term) (p : TermStep) → ((x : ℕ) → Binds x p → ρ x ≡ σ x) → Uses (λ x. ρ x ≡ σ x) p → Holds σ p → Holds ρ p
holds_agree ρ σ (input l x) b u h = subst (λ (t : Term). Message t) (sym (b x refl)) h
holds_agree ρ σ (output l n) b u h = subst (λ (t : Term). Message t) (sym (inst_agree ρ σ n u)) h
holds_agree ρ σ (opens s x k) b u h = inst_agree ρ σ s u.0 ∙ (h ∙ ap₂ seal (sym (b x refl)) (sym (inst_agree ρ σ k u.1)))
holds_agree ρ σ (splits s x y) b u h = inst_agree ρ σ s u ∙ (h ∙ ap₂ pair (sym (b x (inl refl))) (sym (b y (inr refl))))
holds_agree ρ σ (same n m) b u h = inst_agree ρ σ n u.0 ∙ (h ∙ sym (inst_agree ρ σ m u.1))

-- each strand's own valuation, put together
abbrev joint : (S : Protocol) → (ℕ → ℕ → Term) → ℕ → Term
joint S σ x = σ (owner S x (length S.strands)) x

joint_is : (S : Protocol) → LawfulProtocol S → (σ : ℕ → ℕ → Term) (k x : ℕ) → BoundIn x (strand S k) → joint S σ x ≡ σ k x
joint_is S law σ k x b = ap (λ (j : ℕ). σ j x) (owner_is S law x (length S.strands) k (strand_below S k b.0 b.1 b.2) b)

apart_to : (S : Protocol) (s : List ℕ) → Feasible S s → (k : ℕ) → OwnFeasible S k (mentions k s)
apart_to S s (ps, pl, ρ, c, h) k =
    let room = plan_room pl (λ j. omega arith) k in
    (omega arith, ρ, c, λ p m. let t = take_place (mentions k s) (strand S k) p m in h p (plan_has pl k t.0 p (omega arith) (omega (arith, t.1)) t.2))

apart_from : (S : Protocol) → LawfulProtocol S → (s : List ℕ) → ((k : ℕ) → OwnFeasible S k (mentions k s)) → Feasible S s
apart_from S law s own =
    let σ : (ℕ → ℕ → Term) = λ k. (own k).1 in
    let made = plan_made S nowhere s (λ k. let h = (own k).0 in omega arith) in (
      made.0,
      made.1,
      joint S σ,
      (λ x. (own (owner S x (length S.strands))).2 x),
      λ p m.
          let f = plan_from made.1 p m in
          let k = f.0 in
          let i = f.1 in
          holds_agree (joint S σ) (σ k) p
          (λ x b. joint_is S law σ k x (i, p, f.3, b))
          (uses_map (λ x b. joint_is S law σ k x (b.0, b.1, b.3, b.4)) p (law.used k i p f.3))
          ((own k).3 p (place_take (mentions k s) (strand S k) p i (let l = f.2 in omega arith) f.3)),
    )

pub strands_apart : StrandsApart
strands_apart S law s = (apart_to S s, apart_from S law s)

-- a shorter beginning is feasible
pub own_shorter : (S : Protocol) (k n m : ℕ) → n ≤ m → OwnFeasible S k m → OwnFeasible S k n
own_shorter S k n m h (r, ρ, c, a) =
    (omega arith, ρ, c, λ p i. let t = take_place n (strand S k) p i in let l = t.1 in a p (place_take m (strand S k) p t.0 (omega arith) t.2))

pub feasible_counts : FeasibleCounts
feasible_counts S law most long s = (
  (λ f k. elim (dec_le (mentions k s) (most k)) [ yes h ↦ h | no h ↦ absurd ((long k).1 (own_shorter S k (suc (most k)) (mentions k s) (omega arith) (apart_to S s f k))) ]),
  (λ h. apart_from S law s (λ k. own_shorter S k (mentions k s) (most k) (h k) (long k).0)),
)
