-- A solved way gives a break.
use Rattle.std.specs.Prelude.{◌≡◌, ℕ}
use mathlib.Core.List.{List, [], ◌∷◌, ◌++◌, Memᴰ}
use Rattle.terms.specs.Terms.{Term, name, env, var, pair, seal, inst}
use Rattle.protocol.specs.Strands.{TermStep}
use Rattle.runs.specs.Protocols.{Protocol, Written, PlainAction}
use Rattle.runs.specs.Runs.{under, Absent}
use Rattle.runs.specs.Schedules.{AllHold}
use Rattle.runs.specs.Bridge.{action, actions}
use Rattle.runs.specs.Last.{BreakBy}
use Rattle.deciding.specs.Ways.{Through}

-- no name of the environment stands in the term
abbrev pub EnvFree : Term → Type 0
EnvFree (name n) = Unit {0}
EnvFree (env n) = ⊥
EnvFree (var x) = Unit {0}
EnvFree (pair a b) = EnvFree a × EnvFree b
EnvFree (seal b k) = EnvFree b × EnvFree k

-- every unbound variable gets a name of the environment, each its own
abbrev pub fresh : ℕ → Term
fresh x = env x

-- the bindings, with every unbound variable fresh
abbrev pub freshly : (ℕ → Term) → ℕ → Term
freshly σ x = inst fresh (σ x)

-- fresh names tell open terms apart
abbrev pub FreshInjective : Type 0
FreshInjective = (s t : Term) → EnvFree s → EnvFree t → inst fresh s ≡ inst fresh t → s ≡ t

-- the walked steps as the search leaves them: a break in open terms, each input met
pub record Solved (S : Protocol) (ps : List TermStep) (p : TermStep) (σ : ℕ → Term) : Type 0 where
  pub hold : AllHold σ (ps ++ (p ∷ []))
  pub through : Through σ (ps ++ (p ∷ []))
  pub now : action σ p ≡ under σ S.later ∷ []
  pub clear : Absent σ S.earlier (actions σ ps)
  pub plain : (x : ℕ) → EnvFree (σ x)

-- a solved way has a break: its bindings with fresh names
abbrev pub SolvedBreaks : Type 0
SolvedBreaks =
    (S : Protocol) (ps : List TermStep) (p : TermStep) (σ : ℕ → Term) →
    ((q : TermStep) → Memᴰ q (ps ++ (p ∷ [])) → Written q) →
    PlainAction S.earlier →
    Solved S ps p σ →
    BreakBy S ps p (freshly σ)
