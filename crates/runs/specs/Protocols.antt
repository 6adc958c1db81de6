-- A protocol over terms: its strands and its property, and when it is lawful.
use Rattle.std.specs.Prelude.{◌≡◌, ℕ, ◌<◌, List, [], slice_index_or}
use Rattle.std.proofs.Math.Option.{Option, none, some}
use Rattle.terms.specs.Terms.{Term, name, env, var, pair, seal, Occurs, Vars}
use Rattle.protocol.specs.Strands.{TermStep, input, output, opens, splits, same, At, Binds, Uses}
use Rattle.protocol.specs.declared.step.Direction.{Direction}

-- a message that comes in or goes out on a label
pub record TermAction : Type 0 where
  pub direction : Direction
  pub label : ℕ
  pub term : Term

-- the later action is never to come without the earlier one before it; with no earlier one, never
pub record Protocol : Type 0 where
  pub strands : List (List TermStep)
  pub earlier : Option TermAction
  pub later : TermAction

-- the steps of strand k; none where there is no such strand
abbrev pub strand : Protocol → ℕ → List TermStep
strand S k = slice_index_or S.strands k []

-- a split binds two different variables
abbrev pub SplitsApart : TermStep → Type 0
SplitsApart (input l y) = Unit {0}
SplitsApart (output l n) = Unit {0}
SplitsApart (opens s y k) = Unit {0}
SplitsApart (splits s y z) = y ≡ z → ⊥
SplitsApart (same n m) = Unit {0}

-- a step before number i of strand k binds the variable
abbrev pub WasBound : Protocol → ℕ → ℕ → ℕ → Type 0
WasBound S k i x = (m : ℕ) × (q : TermStep) × (m < i) × At S.strands k m q × Binds x q

-- the earlier action, where there is one, has only variables of the later
abbrev pub EarlierInLater : Option TermAction → TermAction → Type 0
EarlierInLater none b = Unit {0}
EarlierInLater (some a) b = Vars (λ x. Occurs x b.term) a.term

-- a local name or a variable
abbrev pub PlainKey : Term → Type 0
PlainKey (name n) = Unit {0}
PlainKey (env n) = ⊥
PlainKey (var x) = Unit {0}
PlainKey (pair a b) = ⊥
PlainKey (seal b k) = ⊥

-- a term that a protocol may be written with: no name of the environment, and every key plain
abbrev pub Plain : Term → Type 0
Plain (name n) = Unit {0}
Plain (env n) = ⊥
Plain (var x) = Unit {0}
Plain (pair a b) = Plain a × Plain b
Plain (seal b k) = Plain b × PlainKey k

-- the step's terms are plain
abbrev pub Written : TermStep → Type 0
Written (input l x) = Unit {0}
Written (output l n) = Plain n
Written (opens s x k) = Plain s × PlainKey k
Written (splits s x y) = Plain s
Written (same n m) = Plain n × Plain m

-- the action's term, where there is one, is plain
abbrev pub PlainAction : Option TermAction → Type 0
PlainAction none = Unit {0}
PlainAction (some a) = Plain a.term

-- what runs and their search rest on
pub record LawfulProtocol (S : Protocol) : Type 0 where
  -- at most one step of the protocol binds a variable
  pub once : (k j i m : ℕ) (p q : TermStep) (x : ℕ) → At S.strands k i p → At S.strands j m q → Binds x p → Binds x q → (k ≡ j) × (i ≡ m)
  pub apart : (k i : ℕ) (p : TermStep) → At S.strands k i p → SplitsApart p
  -- every other variable of a step was bound by an earlier step of its strand
  pub used : (k i : ℕ) (p : TermStep) → At S.strands k i p → Uses (WasBound S k i) p
  -- no step binds a variable of the property
  pub free : (k i : ℕ) (p : TermStep) (x : ℕ) → At S.strands k i p → Binds x p → Occurs x S.later.term → ⊥
  pub within : EarlierInLater S.earlier S.later
  pub written : (k i : ℕ) (p : TermStep) → At S.strands k i p → Written p
  pub plain_earlier : PlainAction S.earlier
  pub plain_later : Plain S.later.term
