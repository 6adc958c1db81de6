-- The rules by which the scan goes on, fails or branches: each keeps every break.
use Rattle.std.specs.Prelude.{◌≡◌, ℕ, suc, ◌≤◌, length, take}
use Rattle.std.proofs.Math.Option.{some}
use mathlib.Core.List.{List, [], ◌∷◌, ◌++◌, Memᴰ}
use Rattle.std.proofs.Math.ListN.{get_elem?}
use Rattle.terms.specs.Terms.{Term, name, var, pair, seal, inst, Closed, Atom, Message, Vars}
use Rattle.protocol.specs.Strands.{TermStep, input}
use Rattle.runs.specs.Protocols.{TermAction}
use Rattle.runs.specs.Runs.{under}
use Rattle.runs.specs.Bridge.{actions}
use Rattle.runs.specs.Last.{BreakBy}
use Rattle.runs.specs.Told.{all_said}
use Rattle.deciding.specs.Ways.{Way, Meets, Mark, steps, acts, No, Sure, Settled, Reached, ToldNames, Unmatched, NoBox, force, rebind, Met}

-- an input's walked term is sure at its place
abbrev pub Asked : Type 0
Asked = (w : Way) (qs : List TermStep) (l x : ℕ) (rs : List TermStep) → steps w ≡ qs ++ (input l x ∷ rs) → Sure w (length (all_said qs)) (w.binds x)

-- what is sure stays so
abbrev pub Stays : Type 0
Stays = (w : Way) (i j : ℕ) → i ≤ j → (t : Term) → Sure w i t → Sure w j t

-- a forced variable is sure at its time
abbrev pub ForcedSure : Type 0
ForcedSure = (w : Way) (m : Mark) → Memᴰ m w.forced → Sure w m.time (var m.who)

-- what is reached is sure
abbrev pub ReachedSure : Type 0
ReachedSure = (w : Way) (j : ℕ) → Settled w j → (t : Term) → Reached w j t → Sure w j t

-- name: reached, or no
abbrev pub NameFails : Type 0
NameFails = (w : Way) (j n : ℕ) → Settled w j → Sure w j (name n) → ¬ Reached w j (name n) → No w

-- a pair: both halves
abbrev pub PairNeeds : Type 0
PairNeeds = (w : Way) (j : ℕ) (a b : Term) → Sure w j (pair a b) → Sure w j a × Sure w j b

-- seal under a name that is reached
abbrev pub OpenNeeds : Type 0
OpenNeeds = (w : Way) (j n : ℕ) (m : Term) → Settled w j → Reached w j (name n) → Sure w j (seal m (name n)) → Sure w j m

-- seal under a marked variable
abbrev pub MarkedNeeds : Type 0
MarkedNeeds = (w : Way) (j x : ℕ) (m : Term) → Sure w j (var x) → Sure w j (seal m (var x)) → Sure w j m

-- seal under a name that is not reached: it is a box
abbrev pub ShutBranches : Type 0
ShutBranches = (w : Way) (j n : ℕ) (m : Term) → Settled w j → ToldNames w j → ¬ Reached w j (name n) → Sure w j (seal m (name n)) → NoBox w j (seal m (name n)) → No w

-- seal under a variable: the variable is forced, or it is a box
abbrev pub KeyBranches : Type 0
KeyBranches = (w : Way) (j x : ℕ) (m : Term) → Settled w j → ToldNames w j → Sure w j (seal m (var x)) → No (force w x j) → NoBox w j (seal m (var x)) → No w

-- a key that is a pair or a seal
abbrev pub KeyFails : Type 0
KeyFails = (w : Way) (j : ℕ) (m u : Term) → Sure w j (seal m u) → ¬ Atom u → No w

-- an action that is no message
abbrev pub LookFails : Type 0
LookFails = (w : Way) (t : Term) → Memᴰ t (acts w) → ¬ Message t → No w

-- a box that matches leads to the way with its bindings
abbrev pub MatchedBox : Type 0
MatchedBox = (w : Way) (σ : ℕ → Term) (s c : Term) → ((ρ : ℕ → Term) → ((x : ℕ) → Closed (ρ x)) → Meets w.binds ρ → inst ρ s ≡ inst ρ c → Meets σ ρ) → No (rebind w σ) → Unmatched w s c

-- a box that matches in no instance
abbrev pub OtherBox : Type 0
OtherBox = (w : Way) (s c : Term) → ((ρ : ℕ → Term) → ((x : ℕ) → Closed (ρ x)) → Meets w.binds ρ → ¬ (inst ρ s ≡ inst ρ c)) → Unmatched w s c

-- the earlier action occurs, walked
abbrev pub EarlierFails : Type 0
EarlierFails = (w : Way) (a : TermAction) → w.protocol.earlier ≡ some a → Memᴰ (under w.binds a) (actions w.binds w.before) → No w

-- an input that is met has all its variables sure
abbrev pub MetSettles : Type 0
MetSettles = (w : Way) (j : ℕ) (M : List ℕ) (t : Term) → Settled w j → ((x : ℕ) → Memᴰ x M → Sure w j (var x)) → Met (take j (acts w)) M t → Vars (λ x. Sure w j (var x)) t

-- one action more is settled
abbrev pub SettlesOn : Type 0
SettlesOn = (w : Way) (j : ℕ) (t : Term) → Settled w j → get_elem? (acts w) j ≡ some t → Vars (λ x. Sure w j (var x)) t → Settled w (suc j)

-- where all breaks meet the first bindings, the answer no there is the answer no
abbrev pub FirstWay : Type 0
FirstWay = (w : Way) → w.forced ≡ [] → ((ρ : ℕ → Term) → BreakBy w.protocol w.before w.last ρ → Meets w.binds ρ) → No w → (ρ : ℕ → Term) → ¬ BreakBy w.protocol w.before w.last ρ
