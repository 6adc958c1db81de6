-- The scan over a way's steps: what has been passed.
use Rattle.std.specs.Prelude.{◌≡◌, ℕ, length}
use mathlib.Core.List.{List, [], ◌∷◌, ◌++◌, Memᴰ}
use Rattle.terms.specs.Terms.{Term, var, pair, seal, inst, Vars}
use Rattle.protocol.specs.Strands.{TermStep, input, output, opens, splits, same, Binds, Uses}
use Rattle.runs.specs.Protocols.{Protocol, LawfulProtocol}
use Rattle.runs.specs.Runs.{nowhere}
use Rattle.runs.specs.Schedules.{Plan}
use Rattle.runs.specs.Told.{all_said}
use Rattle.deciding.specs.Ways.{Way, steps, Sure, Settled}

-- the step's equation holds in open terms
abbrev pub Fits : (ℕ → Term) → TermStep → Type 0
Fits σ (input l x) = Unit {0}
Fits σ (output l n) = Unit {0}
Fits σ (opens s x k) = inst σ s ≡ seal (σ x) (inst σ k)
Fits σ (splits s x y) = inst σ s ≡ pair (σ x) (σ y)
Fits σ (same n m) = inst σ n ≡ inst σ m

-- every variable that a step uses is bound by a step before it
abbrev pub Grounded : List TermStep → Type 0
Grounded ps = (qs : List TermStep) (q : TermStep) (rs : List TermStep) → ps ≡ qs ++ (q ∷ rs) → Uses (λ x. (r : TermStep) × Memᴰ r qs × Binds x r) q

-- a lawful protocol's steps are grounded
abbrev pub PlansGrounded : Type 0
PlansGrounded = (S : Protocol) → LawfulProtocol S → (s : List ℕ) (ps : List TermStep) → Plan S nowhere s ps → Grounded ps

-- how many actions the steps have
abbrev pub time : List TermStep → ℕ
time qs = length (all_said qs)

-- the steps qs have been passed
pub record Scanned (w : Way) (qs : List TermStep) : Type 0 where
  pub settled : Settled w (time qs)
  pub values : (r : TermStep) → Memᴰ r qs → (x : ℕ) → Binds x r → Vars (λ y. Sure w (time qs) (var y)) (w.binds x)

-- an input has been met
abbrev pub Passed : Way → List TermStep → TermStep → Type 0
Passed w qs (input l x) = Vars (λ y. Sure w (time qs) (var y)) (w.binds x)
Passed w qs (output l n) = Unit {0}
Passed w qs (opens s x k) = Unit {0}
Passed w qs (splits s x y) = Unit {0}
Passed w qs (same n m) = Unit {0}

-- nothing passed at the start
abbrev pub ScanStarts : Type 0
ScanStarts = (w : Way) → Scanned w []

-- one step more is passed
abbrev pub ScanPasses : Type 0
ScanPasses =
    (w : Way) → Grounded (steps w) →
    (qs : List TermStep) (q : TermStep) (rs : List TermStep) → steps w ≡ qs ++ (q ∷ rs) →
    Fits w.binds q → Scanned w qs → Passed w qs q → Scanned w (qs ++ (q ∷ []))
