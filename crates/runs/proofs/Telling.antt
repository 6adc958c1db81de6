-- The definitions say what the rules tell by places.
use Rattle.std.proofs.Common.{◌≡◌, ℕ, zero, suc, ◌<◌, List, [], ◌∷◌, ◌++◌, length, sym, refl, ap, ◌∙◌, subst, inl, inr, append_assoc, append-nil, le_of_suc-le-suc, not-suc-le-zero, arith}
use mathlib.Core.Option.{Option, none, some, some-injective}
use mathlib.Core.List.Memᴰ
use mathlib.Core.List.{Memᴰ}
use lib.ListN.{get_elem?}
use Rattle.terms.specs.Terms.{Term, inst}
use Rattle.protocol.specs.Strands.{TermStep, input, output, opens, splits, same}
use Rattle.derivation.specs.Derive.{Derives}
use Rattle.lifting.specs.Lift.{known}
use Rattle.lifting.proofs.Lists.{nil_cons}
use Rattle.runs.specs.Protocols.{TermAction, Protocol}
use Rattle.runs.specs.Runs.{under, Broken, Absent, messages}
use Rattle.runs.specs.Bridge.{action, actions, FedFrom, AllFed}
use Rattle.runs.specs.Schedules.{holds, broken, spent}
use Rattle.runs.specs.Told.{NotBefore, BrokenByPlace, BrokenTold, all_said, FedTold, SpentTold}
use Rattle.runs.proofs.Replying.{one_reply, holds_spent, broken_spent}

no_action : (a : TermAction) → ◌≡◌ {A = Option TermAction} none (some a) → ⊥
no_action a e = grind arith

mid_place : (B : List TermAction) (a : TermAction) (C : List TermAction) → get_elem? (B ++ (a ∷ C)) (length B) ≡ some a
mid_place [] a C = refl
mid_place (b ∷ B) a C = mid_place B a C

before_mem : (B C : List TermAction) (j : ℕ) (a : TermAction) → j < length B → get_elem? (B ++ C) j ≡ some a → Memᴰ a B
before_mem [] C j a h e = absurd (not-suc-le-zero h)
before_mem (b ∷ B) C zero a h e = Memᴰ.head (sym (some-injective b a e))
before_mem (b ∷ B) C (suc j) a h e = Memᴰ.tail (before_mem B C j a (le_of_suc-le-suc h) e)

mem_before : (B C : List TermAction) (a : TermAction) → Memᴰ a B → (j : ℕ) × (j < length B) × (get_elem? (B ++ C) j ≡ some a)
mem_before [] C a m = absurd (Memᴰ.not-nil m)
mem_before (b ∷ B) C a m = elim (Memᴰ.cases_cons m) [ inl e ↦ (0, omega arith, ap some (sym e)) | inr r ↦ let q = mem_before B C a r in (suc q.0, omega (arith, q.1), q.2) ]

split_at : (r : List TermAction) (i : ℕ) (a : TermAction) → get_elem? r i ≡ some a → (B : List TermAction) × (C : List TermAction) × (r ≡ B ++ (a ∷ C)) × (length B ≡ i)
split_at [] i a e = absurd (no_action a e)
split_at (b ∷ r) zero a e = ([], r, ap (λ (z : TermAction). z ∷ r) (some-injective b a e), refl)
split_at (b ∷ r) (suc i) a e = let q = split_at r i a e in (b ∷ q.0, q.1, ap (λ (z : List TermAction). b ∷ z) q.2, ap suc q.3)

absent_place : (ρ : ℕ → Term) (o : Option TermAction) (B C : List TermAction) → Absent ρ o B → NotBefore ρ o (length B) (B ++ C)
absent_place ρ none B C ab = tt
absent_place ρ (some a) B C ab = λ j h e. ab (before_mem B C j (under ρ a) h e)

place_absent : (ρ : ℕ → Term) (o : Option TermAction) (B C : List TermAction) → NotBefore ρ o (length B) (B ++ C) → Absent ρ o B
place_absent ρ none B C n = tt
place_absent ρ (some a) B C n = λ m. let q = mem_before B C (under ρ a) m in n q.0 q.1 q.2

told_to : (S : Protocol) (r : List TermAction) → Broken S r → BrokenByPlace S r
told_to S r (ρ, B, C, (c, m, e, ab)) = (
  ρ,
  c,
  m,
  length B,
  subst (λ (z : List TermAction). get_elem? z (length B) ≡ some (under ρ S.later)) (sym e) (mid_place B (under ρ S.later) C),
  subst (λ (z : List TermAction). NotBefore ρ S.earlier (length B) z) (sym e) (absent_place ρ S.earlier B (under ρ S.later ∷ C) ab),
)

told_from : (S : Protocol) (r : List TermAction) → BrokenByPlace S r → Broken S r
told_from S r (ρ, c, m, i, e, n) =
    let q = split_at r i (under ρ S.later) e in
    (ρ, q.0, q.1, (c, m, q.2, place_absent ρ S.earlier q.0 (under ρ S.later ∷ q.1) (subst (λ (z : List TermAction). NotBefore ρ S.earlier (length q.0) z) q.2 (subst (λ (j : ℕ). NotBefore ρ S.earlier j r) (sym q.3) n))))

pub broken_told : BrokenTold
broken_told S r = (told_to S r, told_from S r)

fed_to : (ρ : ℕ → Term) (ps : List TermStep) (r : List TermAction) → AllFed ρ r ps → (qs : List TermStep) (l x : ℕ) (rs : List TermStep) → ps ≡ qs ++ (input l x ∷ rs) → Derives (messages (r ++ actions ρ qs)) (ρ x)
fed_to ρ [] r f qs l x rs e = absurd (nil_cons qs (input l x) rs e)
fed_to ρ (p ∷ ps) r f [] l x rs e =
    let q : p ≡ input l x = cc in
    subst (λ (z : List TermAction). Derives (messages z) (ρ x)) (sym (append-nil r)) (subst (λ (z : TermStep). FedFrom ρ (messages r) z) q f.0)
fed_to ρ (p ∷ ps) r f (q ∷ qs) l x rs e =
    let same_first : p ≡ q = cc in
    let rest : ps ≡ qs ++ (input l x ∷ rs) = cc in
    subst (λ (z : List TermAction). Derives (messages z) (ρ x)) (append_assoc r (action ρ p) (actions ρ qs) ∙ ap (λ (z : TermStep). r ++ (action ρ z ++ actions ρ qs)) same_first) (fed_to ρ ps (r ++ action ρ p) f.1 qs l x rs rest)

fed_from : (ρ : ℕ → Term) (ps : List TermStep) (r : List TermAction) → ((qs : List TermStep) (l x : ℕ) (rs : List TermStep) → ps ≡ qs ++ (input l x ∷ rs) → Derives (messages (r ++ actions ρ qs)) (ρ x)) → AllFed ρ r ps
fed_from ρ [] r h = tt
fed_from ρ (p ∷ ps) r h = (
  here p (λ l x e. h [] l x ps (ap (λ (z : TermStep). z ∷ ps) e)),
  fed_from ρ ps (r ++ action ρ p) (λ qs l x rs e. subst (λ (z : List TermAction). Derives (messages z) (ρ x)) (sym (append_assoc r (action ρ p) (actions ρ qs))) (h (p ∷ qs) l x rs (ap (λ (z : List TermStep). p ∷ z) e))),
)
  where
    here : (q : TermStep) → ((l x : ℕ) → q ≡ input l x → Derives (messages (r ++ [])) (ρ x)) → FedFrom ρ (messages r) q
    here (input l x) g = subst (λ (z : List TermAction). Derives (messages z) (ρ x)) (append-nil r) (g l x refl)
    here (output l n) g = tt
    here (opens s x k) g = tt
    here (splits s x y) g = tt
    here (same n m) g = tt

said_known : (ρ : ℕ → Term) (qs rs : List TermStep) → messages (actions ρ qs) ≡ known (all_said (qs ++ rs)) ρ (length (all_said qs))
said_known ρ [] rs = refl
said_known ρ (input l x ∷ qs) rs = ap (λ (z : List Term). ρ x ∷ z) (said_known ρ qs rs)
said_known ρ (output l n ∷ qs) rs = ap (λ (z : List Term). inst ρ n ∷ z) (said_known ρ qs rs)
said_known ρ (opens s x k ∷ qs) rs = said_known ρ qs rs
said_known ρ (splits s x y ∷ qs) rs = said_known ρ qs rs
said_known ρ (same n m ∷ qs) rs = said_known ρ qs rs

pub fed_told : FedTold
fed_told ρ ps = (
  (λ f qs l x rs e. subst (λ (K : List Term). Derives K (ρ x)) (at_place qs l x rs e) (fed_to ρ ps [] f qs l x rs e)),
  (λ h. fed_from ρ ps [] (λ qs l x rs e. subst (λ (K : List Term). Derives K (ρ x)) (sym (at_place qs l x rs e)) (h qs l x rs e))),
)
  where
    at_place : (qs : List TermStep) (l x : ℕ) (rs : List TermStep) → ps ≡ qs ++ (input l x ∷ rs) → messages (actions ρ qs) ≡ known (all_said ps) ρ (length (all_said qs))
    at_place qs l x rs e = said_known ρ qs (input l x ∷ rs) ∙ ap (λ (z : List TermStep). known (all_said z) ρ (length (all_said qs))) (sym e)

pub spent_told : SpentTold
spent_told S b a c = ((λ h. holds_spent c b (one_reply S b (holds c) (spent b) h a)), (λ h. broken_spent c b (one_reply S b (broken c) (spent b) h a)))
