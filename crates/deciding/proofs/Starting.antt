-- The first bindings, and the whole decision of a break at the last step.
use mathlib.Core.Path.{◌≡◌, refl, sym, ap, ap₂, ◌∙◌, subst}
use mathlib.Core.List.Memᴰ
use mathlib.Core.List.{List, [], ◌∷◌, ◌++◌, Memᴰ}
use mathlib.Core.Logic.{◌⊎◌, inl, inr}
use Prim.Native.Nat.{ℕ, ◌<◌}
use native.Mathlib.Decide.{ℕ_discrete}
use native.Mathlib.Omega.{arith}
use Rattle.terms.specs.Terms.{Term, name, env, var, pair, seal, inst, Vars}
use Rattle.protocol.specs.Strands.{TermStep, input, output, opens, splits, same}
use Rattle.protocol.specs.declared.step.Direction.{Direction}
use Rattle.protocol.specs.declared.step.Direction.TheVariants.{Input, Output}
use Rattle.lifting.proofs.Instances.{vars_map}
use Rattle.runs.specs.Protocols.{TermAction, Protocol, Plain, Written}
use Rattle.runs.specs.Runs.{under}
use Rattle.runs.specs.Schedules.{Holds}
use Rattle.runs.specs.Bridge.{action}
use Rattle.runs.specs.Last.{BreakBy}
use Rattle.runs.specs.Sizes.{one_side, other_side}
use Rattle.deciding.specs.Ways.{Meets}
use Rattle.deciding.specs.Scan.{Fits}
use Rattle.deciding.specs.Decide.{AnalzTable, Neat, Fine, Matcher, Setting, Sized, BreakDecided}
use Rattle.deciding.proofs.Ruling.{inst_meets}
use Rattle.deciding.proofs.Finding.{plain_free, solved_breaks}
use Rattle.deciding.proofs.Scanning.{vars_inst, snoc_new}
use Rattle.deciding.proofs.Deciding.{term?, direction?, fits_on, decides}

pub inst_still : (σ : ℕ → Term) (t : Term) → Vars (λ y. σ y ≡ var y) t → inst σ t ≡ t
inst_still σ (name n) v = refl
inst_still σ (env n) v = refl
inst_still σ (var x) v = v
inst_still σ (pair a b) v = ap₂ pair (inst_still σ a v.0) (inst_still σ b v.1)
inst_still σ (seal a b) v = ap₂ seal (inst_still σ a v.0) (inst_still σ b v.1)

pub meets_on : (σ τ υ : ℕ → Term) → Meets σ τ → Meets τ υ → Meets σ υ
meets_on σ τ υ m n x = n x ∙ (ap (inst υ) (m x) ∙ inst_meets τ υ n (σ x))

one_plain : (q : TermStep) → Written q → Plain (one_side q)
one_plain (input l x) w = tt
one_plain (output l n) w = w
one_plain (opens s x k) w = w.0
one_plain (splits s x y) w = w
one_plain (same n m) w = w.0

other_plain : (q : TermStep) → Written q → Plain (other_side q)
other_plain (input l x) w = tt
other_plain (output l n) w = w
other_plain (opens s x k) w = (tt, w.1)
other_plain (splits s x y) w = (tt, tt)
other_plain (same n m) w = w.1

fits_of : (σ : ℕ → Term) (q : TermStep) → inst σ (one_side q) ≡ inst σ (other_side q) → Fits σ q
fits_of σ (input l x) e = tt
fits_of σ (output l n) e = tt
fits_of σ (opens s x k) e = e
fits_of σ (splits s x y) e = e
fits_of σ (same n m) e = e

held : (ρ : ℕ → Term) (q : TermStep) → Holds ρ q → inst ρ (one_side q) ≡ inst ρ (other_side q)
held ρ (input l x) h = refl
held ρ (output l n) h = refl
held ρ (opens s x k) h = h
held ρ (splits s x y) h = h
held ρ (same n m) h = h

module _ (V : ℕ) (S : Protocol) (ps : List TermStep) (p : TermStep) (table : AnalzTable) (matcher : Matcher V) (setting : Setting V S ps p) (sized : Sized V S ps p) where
  abbrev None : Type 0
  None = (ρ : ℕ → Term) → ¬ BreakBy S ps p ρ

  abbrev AllMeet : (ℕ → Term) → Type 0
  AllMeet σ = (ρ : ℕ → Term) → BreakBy S ps p ρ → Meets σ ρ

  neat_of : (σ : ℕ → Term) → Fine V σ → (t : Term) → Vars (λ x. x < V) t → Plain t → Neat V σ (inst σ t)
  neat_of σ f t v q = (vars_inst (λ y. (y < V) × (σ y ≡ var y)) σ t (vars_map (λ x h. f.few x h) t v), plain_free σ f.plain t q)

  abbrev Equates : (ℕ → Term) → Term → Term → Type 0
  Equates σ a b = (τ : ℕ → Term) × Fine V τ × Meets σ τ × (inst τ a ≡ inst τ b) × AllMeet τ

  equate : (σ : ℕ → Term) → Fine V σ → AllMeet σ → (a b : Term) → Vars (λ x. x < V) a → Vars (λ x. x < V) b → Plain a → Plain b → ((ρ : ℕ → Term) → BreakBy S ps p ρ → inst ρ a ≡ inst ρ b) → None ⊎ Equates σ a b
  equate σ f all a b va vb pa pb eqs =
      elim (term? (inst σ a) (inst σ b)) [
        | yes e ↦ inr (σ, f, (λ x. sym (inst_still σ (σ x) (f.still x))), e, all)
        | no g ↦ elim (matcher.tries σ f (inst σ a) (inst σ b) (neat_of σ f a va pa) (neat_of σ f b vb pb) g) [
          | inl never ↦ inl (λ ρ h. never ρ h.closed (all ρ h) (inst_meets σ ρ (all ρ h) a ∙ (eqs ρ h ∙ sym (inst_meets σ ρ (all ρ h) b))))
          | inr m ↦ inr (m.0, m.1, m.2, sym (inst_meets σ m.0 m.2 a) ∙ (m.3 ∙ inst_meets σ m.0 m.2 b), λ ρ h. m.4 ρ h.closed (all ρ h) (inst_meets σ ρ (all ρ h) a ∙ (eqs ρ h ∙ sym (inst_meets σ ρ (all ρ h) b))))
        ]
      ]

  equations : (qs : List TermStep) → ((q : TermStep) → Memᴰ q qs → Memᴰ q (ps ++ (p ∷ []))) → (σ : ℕ → Term) → Fine V σ → AllMeet σ → None ⊎ ((τ : ℕ → Term) × Fine V τ × Meets σ τ × ((q : TermStep) → Memᴰ q qs → Fits τ q) × AllMeet τ)
  equations [] within σ f all = inr (σ, f, (λ x. sym (inst_still σ (σ x) (f.still x))), (λ q m. absurd (Memᴰ.not-nil m)), all)
  equations (q ∷ qs) within σ f all =
      let here = within q (Memᴰ.head refl) in
      let sd = sized.sides q here in
      let wr = setting.written q here in
      elim (equate σ f all (one_side q) (other_side q) sd.0 sd.1 (one_plain q wr) (other_plain q wr) (λ ρ h. held ρ q (h.hold q here))) [
        | inl n ↦ inl n
        | inr e ↦ elim (equations qs (λ r m. within r (Memᴰ.tail m)) e.0 e.1 e.4) [
          | inl n ↦ inl n
          | inr z ↦ inr (z.0, z.1, meets_on σ e.0 z.0 e.2 z.2, (λ r m. elim (Memᴰ.cases_cons m) [ inl k ↦ subst (λ (y : TermStep). Fits z.0 y) (sym k) (fits_on e.0 z.0 z.2 q (fits_of e.0 q e.3)) | inr k ↦ z.3 r k ]), z.4)
        ]
      ]

  head_same : (a b : TermAction) → a ∷ [] ≡ b ∷ [] → a ≡ b
  head_same a b e = cc

  abbrev Begun : (ℕ → Term) → Type 0
  Begun σ = (τ : ℕ → Term) × Fine V τ × Meets σ τ × (action τ p ≡ under τ S.later ∷ []) × AllMeet τ

  -- the last step is the later action
  last_as : (d : Direction) (l : ℕ) (t : Term) → ((ρ : ℕ → Term) → action ρ p ≡ under ρ (record { direction = d; label = l; term = t }) ∷ []) → Vars (λ x. x < V) t → Plain t → (σ : ℕ → Term) → Fine V σ → AllMeet σ → None ⊎ Begun σ
  last_as d l t is v pl σ f all =
      elim (direction? d S.later.direction) [
        | no g ↦ inl (λ ρ h. g (ap (λ (a : TermAction). a.direction) (same_at ρ h)))
        | yes de ↦ elim (ℕ_discrete l S.later.label) [
          | no g ↦ inl (λ ρ h. g (ap (λ (a : TermAction). a.label) (same_at ρ h)))
          | yes le ↦ elim (equate σ f all t S.later.term v sized.later_small pl sized.later_plain (λ ρ h. ap (λ (a : TermAction). a.term) (same_at ρ h))) [
            | inl n ↦ inl n
            | inr e ↦ inr (e.0, e.1, e.2, is e.0 ∙ (ap₂ (λ (x : Direction) (y : ℕ). record { direction = x; label = y; term = inst e.0 t } ∷ []) de le ∙ ap (λ (z : Term). record { direction = S.later.direction; label = S.later.label; term = z } ∷ []) e.3), e.4)
          ]
        ]
      ]
    where
      same_at : (ρ : ℕ → Term) → BreakBy S ps p ρ → under ρ (record { direction = d; label = l; term = t }) ≡ under ρ S.later
      same_at ρ h = head_same (under ρ (record { direction = d; label = l; term = t })) (under ρ S.later) (sym (is ρ) ∙ h.now)

nothing_there : (a : TermAction) → ◌≡◌ {A = List TermAction} [] (a ∷ []) → ⊥
nothing_there a e = grind arith

begin : (V : ℕ) (S : Protocol) (ps : List TermStep) (p : TermStep) (table : AnalzTable) (matcher : Matcher V) (setting : Setting V S ps p) (sized : Sized V S ps p) → (σ : ℕ → Term) → Fine V σ → ((ρ : ℕ → Term) → BreakBy S ps p ρ → Meets σ ρ) → ((ρ : ℕ → Term) → ¬ BreakBy S ps p ρ) ⊎ ((τ : ℕ → Term) × Fine V τ × Meets σ τ × (action τ p ≡ under τ S.later ∷ []) × ((ρ : ℕ → Term) → BreakBy S ps p ρ → Meets τ ρ))
begin V S ps (input l x) table matcher setting sized σ f all = last_as V S ps (input l x) table matcher setting sized Input l (var x) (λ ρ. refl) (sized.sides (input l x) (snoc_new ps (input l x))).0 tt σ f all
begin V S ps (output l n) table matcher setting sized σ f all = last_as V S ps (output l n) table matcher setting sized Output l n (λ ρ. refl) (sized.sides (output l n) (snoc_new ps (output l n))).0 (setting.written (output l n) (snoc_new ps (output l n))) σ f all
begin V S ps (opens s x k) table matcher setting sized σ f all = inl (λ ρ h. nothing_there (under ρ S.later) h.now)
begin V S ps (splits s x y) table matcher setting sized σ f all = inl (λ ρ h. nothing_there (under ρ S.later) h.now)
begin V S ps (same n m) table matcher setting sized σ f all = inl (λ ρ h. nothing_there (under ρ S.later) h.now)

pub break_decided : BreakDecided
break_decided V S ps p table matcher setting sized =
    elim (equations V S ps p table matcher setting sized (ps ++ (p ∷ [])) (λ q m. m) (λ x. var x) (record { still = λ x. refl; few = λ x h. (h, refl); plain = λ x. tt }) (λ ρ h x. refl)) [
      | inl n ↦ inr n
      | inr z ↦ elim (begin V S ps p table matcher setting sized z.0 z.1 z.4) [
        | inl n ↦ inr n
        | inr b ↦ elim (decides V S ps p table matcher setting b.0 (record { fine = b.1; fits = λ q m. fits_on z.0 b.0 b.2 q (z.3 q m); now = b.3 }) b.4) [
          | inl found ↦ inl (found.0, found.1, solved_breaks S ps p found.0 setting.written setting.plain_earlier found.1)
          | inr n ↦ inr n
        ]
      ]
    ]
