-- Pairs that wait to be made equal, and classes of nodes that were found to have to be equal.
use Rattle.std.specs.Prelude.{◌≡◌, ◌⊎◌, List, [], ◌∷◌, ◌++◌, ℕ, suc, ◌<◌, ◌≤◌, length, get_or, set}
use Rattle.terms.specs.Terms.{Term}
use Rattle.terms.specs.declared.number.NodeNo.{NodeNo}
use Rattle.terms.specs.declared.node.Node.{Node}
use Rattle.unification.specs.Sizes.{size}
use Rattle.unification.specs.Bindings.{val, Instance}
use Rattle.unification.specs.declared.binding.Binding.{Binding}
use Rattle.unification.specs.declared.ask.Ask.{Ask}

-- the parent of node i in a table of classes; a root is its own parent
abbrev pub up : List NodeNo → ℕ → ℕ
up P i = (get_or P i (record { 0 = 0 })).0

-- every node is a class of its own
abbrev pub Own : List NodeNo → Type 0
Own P = (i : ℕ) → i < length P → up P i ≡ i

-- each points to itself or below
abbrev pub Lower : List NodeNo → Type 0
Lower P = (i : ℕ) → i < length P → up P i ≤ i

-- the node is not in the list
abbrev pub Absent : ℕ → List NodeNo → Type 0
Absent i L = (k : ℕ) → k < length L → up L k ≡ i → ⊥

-- a node that is not in the list is a class of its own
abbrev pub Traced : List NodeNo → List NodeNo → Type 0
Traced P L = (i : ℕ) → i < length P → Absent i L → up P i ≡ i

-- the same, as far as terms with fewer than n parts can tell: an equivalence
abbrev pub Near : (ℕ → Term) → ℕ → ℕ → ℕ → Type 0
Near v n a b = ((size (v a) < n) ⊎ (size (v b) < n)) → v a ≡ v b

abbrev pub Each : (Ask → Type 0) → List Ask → Type 0
Each Q [] = Unit {0}
Each Q (w ∷ ws) = Q w × Each Q ws

-- R holds of the two sides of a pair
abbrev pub Across : (ℕ → ℕ → Type 0) → Ask → Type 0
Across R w = R w.left.0 w.right.0

-- R holds of each node and its parent
abbrev pub Linked : (ℕ → ℕ → Type 0) → List NodeNo → Type 0
Linked R P = (i : ℕ) → i < length P → R i (up P i)

-- every waiting pair and every link, up to n
abbrev pub Below : (ℕ → Term) → ℕ → List NodeNo → List Ask → Type 0
Below v n P W = Each (Across (Near v n)) W × Linked (Near v n) P

-- the two have one value
abbrev pub Alike : (ℕ → Term) → ℕ → ℕ → Type 0
Alike v i j = v i ≡ v j

-- every waiting pair and every link
abbrev pub Equal : (ℕ → Term) → List NodeNo → List Ask → Type 0
Equal v P W = Each (Across (Alike v)) W × Linked (Alike v) P

-- from one state to another the solutions stay
pub record Move (ns : List Node) (B : List Binding) (P : List NodeNo) (W : List Ask) (B' : List Binding) (P' : List NodeNo) (W' : List Ask) : Type 0 where
  pub grows : (θ : ℕ → Term) → Instance ns B' θ → Instance ns B θ
  pub covers : (θ : ℕ → Term) (n : ℕ) → Instance ns B' θ → Below (val ns θ) n P' W' → Below (val ns θ) n P W
  pub right : (θ : ℕ → Term) (n : ℕ) → Instance ns B' θ → Below (val ns θ) n P' W' → Linked (Near (val ns θ) (suc n)) P → Linked (Near (val ns θ) (suc n)) P'
  pub keeps : (θ : ℕ → Term) → Instance ns B θ → Equal (val ns θ) P W → Instance ns B' θ × Equal (val ns θ) P' W'

-- no instance makes every pair and link equal
abbrev pub Never : List Node → List Binding → List NodeNo → List Ask → Type 0
Never ns B P W = (θ : ℕ → Term) → Instance ns B θ → Equal (val ns θ) P W → ⊥

-- the instances of the new bindings are exactly those of the old ones under which a and b are equal
pub record Solved (ns : List Node) (B : List Binding) (a b : ℕ) (B' : List Binding) : Type 0 where
  pub sound : (θ : ℕ → Term) → Instance ns B' θ → Instance ns B θ × (val ns θ a ≡ val ns θ b)
  pub complete : (θ : ℕ → Term) → Instance ns B θ → val ns θ a ≡ val ns θ b → Instance ns B' θ

-- no instance makes a and b equal
abbrev pub Unsolvable : List Node → List Binding → ℕ → ℕ → Type 0
Unsolvable ns B a b = (θ : ℕ → Term) → Instance ns B θ → val ns θ a ≡ val ns θ b → ⊥

-- c and d are of one class already: nothing changes
pub record Known (P : List NodeNo) (W : List Ask) (c d : ℕ) (P' : List NodeNo) (W' : List Ask) : Type 0 where
  pub table : P' ≡ P
  pub work : W' ≡ W
  pub near : (v : ℕ → Term) (n : ℕ) → Linked (Near v n) P → Near v n c d

-- their classes are one now, and the pairs s and t wait
pub record United (P : List NodeNo) (W : List Ask) (c d : ℕ) (s t : Ask) (P' : List NodeNo) (W' : List Ask) : Type 0 where
  pub hi : ℕ
  pub lo : NodeNo
  pub lower : lo.0 < hi
  pub within : hi < length P
  pub root : up P hi ≡ hi
  pub table : P' ≡ set P hi lo
  pub work : W' ≡ (W ++ (s ∷ [])) ++ (t ∷ [])
  pub path : (v : ℕ → Term) (n : ℕ) → Linked (Near v n) P → Near v n hi lo.0 → Near v n c d
  pub edge : (v : ℕ → Term) (n : ℕ) → Linked (Near v n) P → Near v n c d → Near v n hi lo.0
