-- One step of matching, and the whole.
use Rattle.std.specs.Prelude.{◌≡◌, Bool, true, false, List, [], ◌∷◌, ◌++◌, ℕ, suc, ◌+◌, ◌*◌, ◌<◌, ◌≤◌, T, eqb, length, take}
use Rattle.terms.specs.declared.number.NodeNo.{NodeNo}
use Rattle.terms.specs.declared.node.Node.{Node}
use Rattle.unification.specs.Bindings.{Good}
use Rattle.unification.specs.Reaching.{Inside}
use Rattle.unification.specs.Classes.{Own, Lower, Each, Move, Never, Solved, Unsolvable}
use Rattle.unification.specs.declared.binding.Binding.{Binding}
use Rattle.unification.specs.declared.ask.Ask.{Ask}

-- the bindings with one more at the end
abbrev pub with_binding : List Binding → ℕ → ℕ → List Binding
with_binding B x n = B ++ (record { variable = record { 0 = x }; node = record { 0 = n } } ∷ [])

-- x was bound to the node n, or the value of n has x inside
pub record Assigned (ns : List Node) (B : List Binding) (x n : ℕ) (B' : List Binding) (yes : Bool) : Type 0 where
  pub good : ∥ Good ns B' ∥₁
  pub puts : T yes → B' ≡ with_binding B x n
  pub stays : yes ≡ false → (B' ≡ B) × Inside ns B x n

-- the two sides of every waiting pair are nodes of the table
abbrev pub Room : List Node → List Ask → Type 0
Room ns W = Each (λ w. (w.left.0 < length ns) × (w.right.0 < length ns)) W

abbrev pub bit : Bool → ℕ
bit true = 1
bit false = 0

-- how many roots there are from the place k on
abbrev pub heads : ℕ → List NodeNo → ℕ
heads k [] = 0
heads k (p ∷ ps) = bit (eqb p.0 k) + heads (suc k) ps

-- falls with each turn of a match, from at most twice the number of nodes and one
abbrev pub effort : List NodeNo → List Ask → ℕ
effort P W = 2 * heads 0 P + length W

-- one waiting pair w was taken up: the answer, and the state after it
pub record Stepped (ns : List Node) (B : List Binding) (P : List NodeNo) (W : List Ask) (w : Ask) (B' : List Binding) (P' : List NodeNo) (W' : List Ask) (yes : Bool) : Type 0 where
  pub goes : T yes → Move ns B P (W ++ (w ∷ [])) B' P' W'
  pub stops : yes ≡ false → Never ns B P (W ++ (w ∷ []))
  pub good : ∥ Good ns B' ∥₁
  pub front : (n : ℕ) → n ≤ length B → take n B' ≡ take n B
  pub longer : length B ≤ length B'
  pub lower : Lower P'
  pub same_length : length P' ≡ length P
  pub room : Room ns W → Room ns W'
  pub less : effort P' W' ≤ effort P W
  pub tall : length W' + heads 0 P' ≤ length W + 1 + heads 0 P

-- the state of a match that began with the bindings B and the pairs F
pub record Running (ns : List Node) (B : List Binding) (F : List Ask) (B' : List Binding) (P : List NodeNo) (W : List Ask) : Type 0 where
  pub first : List NodeNo
  pub own : Own first
  pub move : Move ns B first F B' P W
  pub good : ∥ Good ns B' ∥₁
  pub front : take (length B) B' ≡ B
  pub longer : length B ≤ length B'
  pub fits : length P ≡ length ns
  pub lower : Lower P
  pub room : Room ns W
  pub tall : length W + heads 0 P ≤ length ns + 1

-- what a match of a and b answers; on no, some bindings may be left at the end
pub record Matched (ns : List Node) (B : List Binding) (a b : ℕ) (B' : List Binding) (yes : Bool) : Type 0 where
  pub solved : T yes → Solved ns B a b B'
  pub none : yes ≡ false → Unsolvable ns B a b
  pub good : ∥ Good ns B' ∥₁
  pub front : take (length B) B' ≡ B
  pub longer : length B ≤ length B'
