-- A break at the last step of a schedule.
use Rattle.std.specs.Prelude.{◌≡◌, ℕ, ◌↔◌, List, [], ◌∷◌, ◌++◌}
use Rattle.terms.specs.Terms.{Term, Closed}
use Rattle.protocol.specs.Strands.{TermStep, At}
use Rattle.runs.specs.Protocols.{Protocol, LawfulProtocol}
use Rattle.runs.specs.Runs.{under, Absent, nowhere}
use Rattle.runs.specs.Schedules.{Plan, AllHold, Breaking}
use Rattle.runs.specs.Bridge.{action, actions, AllFed}
use Rattle.runs.specs.Apart.{mentions}

-- after the steps ps, the step p is the later action, and no earlier action came before
pub record BreakBy (S : Protocol) (ps : List TermStep) (p : TermStep) (ρ : ℕ → Term) : Type 0 where
  pub closed : (x : ℕ) → Closed (ρ x)
  pub hold : AllHold ρ (ps ++ (p ∷ []))
  pub feeds : AllFed ρ [] (ps ++ (p ∷ []))
  pub now : action ρ p ≡ under ρ S.later ∷ []
  pub clear : Absent ρ S.earlier (actions ρ ps)

-- where s is not breaking, s·k is breaking exactly when its last step can be the break
abbrev pub BreaksAtLast : Type 0
BreaksAtLast =
    (S : Protocol) → LawfulProtocol S →
    (s : List ℕ) (k : ℕ) → ¬ Breaking S s →
    (ps : List TermStep) (p : TermStep) → Plan S nowhere s ps → At S.strands k (mentions k s) p →
    Breaking S (s ++ (k ∷ [])) ↔ ((ρ : ℕ → Term) × BreakBy S ps p ρ)

-- the empty schedule breaks nothing
abbrev pub NothingBreaksNothing : Type 0
NothingBreaksNothing = (S : Protocol) → ¬ Breaking S []
