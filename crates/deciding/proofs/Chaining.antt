-- A protocol's schedule: whether it is breaking at its last step.
use mathlib.Core.Path.{sym, subst}
use mathlib.Core.List.Memᴰ
use mathlib.Core.List.{[], ◌∷◌, ◌++◌, Memᴰ}
use mathlib.Core.Logic.{inl, inr}
use Prim.Native.Nat.{ℕ, ◌<◌}
use native.Mathlib.Omega.{arith}
use Rattle.terms.specs.Terms.{Term, var, Vars}
use Rattle.protocol.specs.Strands.{TermStep, input, output, opens, splits, same, At}
use Rattle.lifting.proofs.Lists.{only}
use Rattle.runs.specs.Runs.{nowhere}
use Rattle.runs.specs.Schedules.{Plan}
use Rattle.runs.specs.Told.{said}
use Rattle.runs.specs.Sizes.{one_side}
use Rattle.runs.proofs.Apartness.{plan_from}
use Rattle.runs.proofs.Lasting.{plan_snoc, breaks_at_last}
use Rattle.deciding.specs.Found.{freshly}
use Rattle.deciding.specs.Decide.{Setting, Sized, BreakingDecided}
use Rattle.deciding.proofs.Scanning.{plans_grounded}
use Rattle.deciding.proofs.Tabling.{analz_table}
use Rattle.deciding.proofs.Starting.{break_decided}

said_small : (V : ℕ) (q : TermStep) → Vars (λ x. x < V) (one_side q) → (t : Term) → Memᴰ t (said q) → Vars (λ x. x < V) t
said_small V (input l x) v t m = subst (λ (z : Term). Vars (λ y. y < V) z) (sym (only (var x) t m)) v
said_small V (output l n) v t m = subst (λ (z : Term). Vars (λ y. y < V) z) (sym (only n t m)) v
said_small V (opens s x k) v t m = absurd (Memᴰ.not-nil m)
said_small V (splits s x y) v t m = absurd (Memᴰ.not-nil m)
said_small V (same n k) v t m = absurd (Memᴰ.not-nil m)

pub breaking_decided : BreakingDecided
breaking_decided V S law small matcher s k kept ps p pl at =
    let whole : Plan S nowhere (s ++ (k ∷ [])) (ps ++ (p ∷ [])) = plan_snoc k p pl (subst (λ (i : ℕ). At S.strands k i p) (omega arith) at) in
    let setting : Setting V S ps p = record {
      grounded = plans_grounded S law (s ++ (k ∷ [])) (ps ++ (p ∷ [])) whole;
      written = λ q m. let f = plan_from whole q m in law.written f.0 f.1 q f.3;
      plain_earlier = law.plain_earlier;
      below = λ q m t h. let f = plan_from whole q m in said_small V q (small.sides f.0 f.1 q f.3).0 t h;
    } in
    let sized : Sized V S ps p = record {
      sides = λ q m. let f = plan_from whole q m in small.sides f.0 f.1 q f.3;
      later_small = small.later_small;
      later_plain = law.plain_later;
    } in
    let last = breaks_at_last S law s k kept ps p pl at in
    elim (break_decided V S ps p analz_table matcher setting sized) [
      | inl found ↦ yes (last.1 (freshly found.0, found.2))
      | inr never ↦ no (λ b. let r = last.0 b in never r.0 r.1)
    ]
