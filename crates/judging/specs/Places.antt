-- Tables of places of a list of nodes: what each entry has to be is the term at its place.
use Rattle.std.specs.Prelude.{◌≡◌, ℕ, ◌<◌, ◌↔◌, Bool, true, false, List, length, Some, None, Option, slice_index_or}
use Rattle.std.proofs.Math.Option.{Option as Maybe, none, some}
use Rattle.terms.specs.Terms.{Term, inst}
use Rattle.terms.specs.Nodes.{term}
use Rattle.terms.specs.declared.node.Node.{Node}
use Rattle.terms.specs.declared.number.NodeNo.{NodeNo}
use Rattle.runs.specs.Runs.{Values}
use Rattle.playing.specs.Judging.{give, onto, fit, Within}

-- the term at a place, where there is one
abbrev pub term_at : List Node → Option NodeNo → Maybe Term
term_at ns None = none
term_at ns (Some p) = some (term ns p.0)

-- the values that the places of a table are
abbrev pub values_in : List Node → List (Option NodeNo) → Values
values_in ns ps x = term_at ns (slice_index_or ps x None)

abbrev pub HeldAt : List Node → Option NodeNo → Type 0
HeldAt ns None = Unit {0}
HeldAt ns (Some p) = p.0 < length ns

-- every place of the table is held
abbrev pub AllHeld : List Node → List (Option NodeNo) → Type 0
AllHeld ns ps = (x : ℕ) → HeldAt ns (slice_index_or ps x None)

-- and each of two, where there are two
abbrev pub PartsHeld : List Node → Option (NodeNo × NodeNo) → Type 0
PartsHeld ns None = Unit {0}
PartsHeld ns (Some (p, q)) = (p.0 < length ns) × (q.0 < length ns)

-- the values, where there are any
abbrev pub found : Bool → Values → Maybe Values
found true w = some w
found false w = none

-- an entry is given a value
abbrev pub given : Values → ℕ → Term → Maybe Values
given v x M = give (v x) v x M

-- what an entry of a table is given is the term at a place
abbrev pub Assigned : List Node → List (Option NodeNo) → ℕ → ℕ → Bool → List (Option NodeNo) → Type 0
Assigned ns ps x p r qs = given (values_in ns ps) x (term ns p) ≡ found r (values_in ns qs)

-- and two entries those at two places, where there are two
abbrev pub BothAssigned : List Node → List (Option NodeNo) → ℕ → ℕ → Option (NodeNo × NodeNo) → Bool → List (Option NodeNo) → Type 0
BothAssigned ns ps x y None r qs = r ≡ false
BothAssigned ns ps x y (Some (p, q)) r qs = onto (given (values_in ns ps) x (term ns p.0)) (λ w. given w y (term ns q.0)) ≡ found r (values_in ns qs)

-- the places of the parts of the term at a place, which is made of two by a pair or by a seal; or it is not
abbrev pub PartsAt : (Term → Term → Term) → List Node → ℕ → Option (NodeNo × NodeNo) → Type 0
PartsAt make ns i None = (A B : Term) → term ns i ≡ make A B → ⊥
PartsAt make ns i (Some (p, q)) = (p.0 < length ns) × (q.0 < length ns) × (term ns i ≡ make (term ns p.0) (term ns q.0))

-- the instances of the nodes below n are what they have to be
abbrev pub Met : List Node → ℕ → Values → (ℕ → Term) → Type 0
Met ms n d ρ = (i : ℕ) (M : Term) → i < n → d i ≡ some M → inst ρ (term ms i) ≡ M

-- the valuation has the values, and meets what the nodes below n have to be
abbrev pub Meets : List Node → ℕ → Values → Values → (ℕ → Term) → Type 0
Meets ms n v d ρ = Within v ρ × Met ms n d ρ

-- what has to be of nodes below n is said of nodes below m: yes, and of which valuations stays; no, and there is none
abbrev pub Settled : List Node → ℕ → Values → Values → ℕ → Bool → Values → Values → Type 0
Settled ms n v d m true w e = (ρ : ℕ → Term) → Meets ms n v d ρ ↔ Meets ms m w e ρ
Settled ms n v d m false w e = (ρ : ℕ → Term) → ¬ Meets ms n v d ρ

-- a term is fitted to another from these values; those found are in a table
abbrev pub Fitted : List Node → Values → Term → Term → Option (List (Option NodeNo)) → Type 0
Fitted ns v t M None = fit v t M ≡ none
Fitted ns v t M (Some qs) = (fit v t M ≡ some (values_in ns qs)) × AllHeld ns qs
