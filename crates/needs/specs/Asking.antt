-- What the nodes that are asked for need, and how they are judged.
use Rattle.std.specs.Prelude.{◌≡◌, ℕ, ◌^◌, ◌<◌, ◌⊎◌, true, false, List, length, Some, None, Option}
use Rattle.terms.specs.Bits.{In}
use Rattle.terms.specs.Nodes.{node}
use Rattle.terms.specs.Sets.{bits}
use Rattle.terms.specs.declared.node.Node.{Node}
use Rattle.terms.specs.declared.node.Node.TheVariants.{Name, Env, Var, Pair, Seal}
use Rattle.terms.specs.declared.number.NodeNo.{NodeNo}
use Rattle.terms.specs.declared.number.LocalName.{LocalName}
use Rattle.terms.specs.declared.variables.VarSet.{VarSet}
use Rattle.reach.specs.Reached.{name_in, seal_in}
use Rattle.reach.specs.declared.reached.Reach.{Reach}
use Rattle.alike.specs.Heads.{head, Same}
use Rattle.alike.specs.declared.heads.Alike.{Alike}
use Rattle.needs.specs.Asked.{asked}
use Rattle.needs.specs.declared.asked.Asked.{Asked}
use Rattle.needs.specs.declared.answer.Need.{Need}
use Rattle.needs.specs.declared.answer.Need.TheVariants.{Met, Never, Shut, Keyed}

-- as a key the node, a head, is known: a name that is reached, one of the environment, or a variable that is marked or asked for
abbrev pub Knows : Reach → VarSet → Asked → ℕ → Node → Type 0
Knows r m a c (Name n) = name_in r n.0 ≡ true
Knows r m a c (Env e) = Unit {0}
Knows r m a c (Var x) = In x.0 (bits m) ⊎ (asked a c ≡ true)
Knows r m a c (Pair l k) = ⊥
Knows r m a c (Seal b k) = ⊥

-- node c of the table is the head of k
abbrev pub HeadOf : List Node → Alike → NodeNo → NodeNo → Type 0
HeadOf ns s k c = (head s k.0 ≡ Some c) × (c.0 < length ns)

abbrev pub Opens : List Node → Reach → Alike → VarSet → Asked → NodeNo → Type 0
Opens ns r s m a k = (c : NodeNo) × HeadOf ns s k c × Knows r m a c.0 (node ns c.0)

-- p is a part that is needed where the node is
abbrev pub Part : List Node → Reach → Alike → VarSet → Asked → Node → NodeNo → Type 0
Part ns r s m a (Name n) p = ⊥
Part ns r s m a (Env e) p = ⊥
Part ns r s m a (Var x) p = ⊥
Part ns r s m a (Pair l k) p = (p ≡ l) ⊎ (p ≡ k)
Part ns r s m a (Seal b k) p = (p ≡ b) × Opens ns r s m a k

-- the head of p, where it is not asked for
abbrev pub Fresh : Alike → Asked → NodeNo → Option NodeNo → Type 0
Fresh s a p None = (c : NodeNo) → head s p.0 ≡ Some c → asked a c.0 ≡ true
Fresh s a p (Some c) = (head s p.0 ≡ Some c) × (asked a c.0 ≡ false)

-- the head of a part that is not asked for, if there is one
abbrev pub Lacks : List Node → Reach → Alike → VarSet → Asked → Node → Option NodeNo → Type 0
Lacks ns r s m a n None = (p : NodeNo) → Part ns r s m a n p → Fresh s a p None
Lacks ns r s m a n (Some c) = (p : NodeNo) × Part ns r s m a n p × Fresh s a p (Some c)

-- the same of node i, if it is asked for
abbrev pub LacksAt : List Node → Reach → Alike → VarSet → Asked → ℕ → Option NodeNo → Type 0
LacksAt ns r s m a i None = i < length ns → asked a i ≡ true → Lacks ns r s m a (node ns i) None
LacksAt ns r s m a i (Some c) = (i < length ns) × (asked a i ≡ true) × Lacks ns r s m a (node ns i) (Some c)

-- the same of some node, or none of any
abbrev pub Next : List Node → Reach → Alike → VarSet → Asked → Option NodeNo → Type 0
Next ns r s m a None = (i : ℕ) → i < length ns → i < 2 ^ 16 → LacksAt ns r s m a i None
Next ns r s m a (Some c) = (i : ℕ) × LacksAt ns r s m a i (Some c)

-- node i has the value of a seal that is reached
abbrev pub Boxed : Reach → Alike → ℕ → Type 0
Boxed r s i = (j : ℕ) × (j < 2 ^ 16) × (seal_in r j ≡ true) × Same s i j

abbrev pub Compound : Node → Type 0
Compound (Name n) = ⊥
Compound (Env e) = ⊥
Compound (Var x) = ⊥
Compound (Pair l k) = Unit {0}
Compound (Seal b k) = Unit {0}

-- nothing speaks against node i
abbrev pub Fine : List Node → Reach → Alike → VarSet → Asked → ℕ → Node → Type 0
Fine ns r s m a i (Name n) = name_in r n.0 ≡ true
Fine ns r s m a i (Env e) = Unit {0}
Fine ns r s m a i (Var x) = Unit {0}
Fine ns r s m a i (Pair l k) = Unit {0}
Fine ns r s m a i (Seal b k) = ((c : NodeNo) → HeadOf ns s k c → ⊥) ⊎ (Opens ns r s m a k ⊎ Boxed r s i)

-- the node's value is met in no run
abbrev pub Fails : List Node → Reach → Alike → Node → Type 0
Fails ns r s (Name n) = name_in r n.0 ≡ false
Fails ns r s (Env e) = ⊥
Fails ns r s (Var x) = ⊥
Fails ns r s (Pair l k) = ⊥
Fails ns r s (Seal b k) = (c : NodeNo) × HeadOf ns s k c × Compound (node ns c.0)

-- what speaks against node i
abbrev pub Judged : List Node → Reach → Alike → VarSet → Asked → ℕ → Node → Option Need → Type 0
Judged ns r s m a i n None = Fine ns r s m a i n
Judged ns r s m a i n (Some (Met v)) = ⊥
Judged ns r s m a i n (Some Never) = Fails ns r s n
Judged ns r s m a i n (Some (Shut j)) = (j.0 ≡ i) × (b : NodeNo) × (k : NodeNo) × (c : NodeNo) × (l : LocalName) × (n ≡ Seal b k) × HeadOf ns s k c × (node ns c.0 ≡ Name l) × (name_in r l.0 ≡ false) × (Boxed r s i → ⊥)
Judged ns r s m a i n (Some (Keyed j x)) = (j.0 ≡ i) × (b : NodeNo) × (k : NodeNo) × (c : NodeNo) × (n ≡ Seal b k) × HeadOf ns s k c × (node ns c.0 ≡ Var x) × (In x.0 (bits m) → ⊥) × (Boxed r s i → ⊥)

-- the same, if it is asked for
abbrev pub JudgedAt : List Node → Reach → Alike → VarSet → Asked → ℕ → Option Need → Type 0
JudgedAt ns r s m a i None = i < length ns → asked a i ≡ true → Judged ns r s m a i (node ns i) None
JudgedAt ns r s m a i (Some w) = (i < length ns) × (asked a i ≡ true) × Judged ns r s m a i (node ns i) (Some w)

abbrev pub JudgedAll : List Node → Reach → Alike → VarSet → Asked → Option Need → Type 0
JudgedAll ns r s m a None = (i : ℕ) → i < length ns → i < 2 ^ 16 → JudgedAt ns r s m a i None
JudgedAll ns r s m a (Some w) = (i : ℕ) × JudgedAt ns r s m a i (Some w)

-- V has the marked variables and those that are asked for below n
pub record Collected (ns : List Node) (m : VarSet) (a : Asked) (n : ℕ) (V : VarSet) : Type 0 where
  pub marked : (x : ℕ) → In x (bits m) → In x (bits V)
  pub sound : (x : ℕ) → In x (bits V) → In x (bits m) ⊎ ((i : ℕ) × (i < length ns) × (asked a i ≡ true) × (node ns i ≡ Var (record { 0 = x })))
  pub complete : (i x : ℕ) → i < n → i < length ns → asked a i ≡ true → node ns i ≡ Var (record { 0 = x }) → In x (bits V)
