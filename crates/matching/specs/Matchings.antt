-- What a matching holds, and what its calls answer.
use Rattle.std.specs.Prelude.{◌≡◌, ℕ, ◌+◌, ◌^◌, ◌<◌, ◌≤◌, Bool, true, false, ◌⊎◌, List, [], length, take, Ok, Err, vec_items, Decides, Result}
use Rattle.terms.specs.Tables.{nodes_in}
use Rattle.terms.specs.declared.node.Node.{Node}
use Rattle.terms.specs.Terms.{Term}
use Rattle.unification.specs.Bindings.{val, Instance, Within, Once, Ranked, FreeValues, Extends}
use Rattle.unification.specs.Classes.{Each, Across, Alike, Solved, Unsolvable}
use Rattle.unification.specs.Steps.{Room}
use Rattle.unification.specs.declared.ask.Ask.{Ask}
use Rattle.unification.specs.declared.binding.Binding.{Binding}
use Rattle.matching.specs.declared.fault.MatchFault.{MatchFault}
use Rattle.matching.specs.declared.fault.MatchFault.TheVariants.{NoSuchNode}
use Rattle.matching.specs.declared.fault.TableFault.{TableFault}
use Rattle.matching.specs.declared.fault.TableFault.TheVariants.{TooLong, NoMemory}
use Rattle.matching.specs.declared.matching.Matching.{Matching}

-- the nodes that it matches
abbrev pub nodes_of : Matching → List Node
nodes_of m = nodes_in m.solver.nodes

-- its bindings, oldest first
abbrev pub bound : Matching → List Binding
bound m = vec_items m.solver.bindings.list

-- the most general bindings given, as far as they are known: no variable is bound twice, each to a node of the table, none
-- occurs in its own value, and every assignment of the unbound variables extends to exactly one instance
pub record MostGeneral (ns : List Node) (B : List Binding) : Type 0 where
  pub once : Once B
  pub within : Within ns B
  pub ranked : Ranked ns B
  pub free : FreeValues ns B
  pub extends : Extends ns B

-- a match of a and b: the answer, and the bindings B' after it where they were B before
abbrev pub Matches : List Node → List Binding → ℕ → ℕ → Result Bool MatchFault → List Binding → Type 0
Matches ns B a b (Ok true) B' = (a < length ns) × (b < length ns) × Solved ns B a b B' × (take (length B) B' ≡ B)
Matches ns B a b (Ok false) B' = (a < length ns) × (b < length ns) × Unsolvable ns B a b × (B' ≡ B)
Matches ns B a b (Err NoSuchNode) B' = ((length ns ≤ a) ⊎ (length ns ≤ b)) × (B' ≡ B)

-- a matching opened on a table of nodes
abbrev pub Opened : List Node → Result Matching TableFault → Type 0
Opened ns (Ok m) = (length ns ≤ 2 ^ 16) × (nodes_of m ≡ ns) × (bound m ≡ [])
Opened ns (Err TooLong) = 2 ^ 16 < length ns
Opened ns (Err NoMemory) = Unit {0}

-- the substitution makes the two sides of every pair equal
abbrev pub Agrees : List Node → (ℕ → Term) → List Ask → Type 0
Agrees ns θ ps = Each (Across (Alike (val ns θ))) ps

-- pairs taken in their order, each with those before it: an instance that makes them equal; or the first pairs up to one that
-- no instance makes equal; or up to one with a number that is no node's, where one makes those before it equal
abbrev pub AllMatch : List Node → List Binding → List Ask → Result Bool MatchFault → Type 0
AllMatch ns B ps (Ok true) = Room ns ps × (θ : ℕ → Term) × Instance ns B θ × Agrees ns θ ps
AllMatch ns B ps (Ok false) = (k : ℕ) × (k < length ps) × Room ns (take (k + 1) ps) × ((θ : ℕ → Term) → Instance ns B θ → Agrees ns θ (take (k + 1) ps) → ⊥)
AllMatch ns B ps (Err NoSuchNode) = (k : ℕ) × (k < length ps) × (Room ns (take (k + 1) ps) → ⊥) × Room ns (take k ps) × (θ : ℕ → Term) × Instance ns B θ × Agrees ns θ (take k ps)

-- whether a and b are equal under every instance of the bindings
abbrev pub Already : List Node → List Binding → ℕ → ℕ → Result Bool MatchFault → Type 0
Already ns B a b (Ok r) = (a < length ns) × (b < length ns) × Decides r ((θ : ℕ → Term) → Instance ns B θ → val ns θ a ≡ val ns θ b)
Already ns B a b (Err NoSuchNode) = (length ns ≤ a) ⊎ (length ns ≤ b)
