-- Lawful nodes by a test: what passes it is lawful, what is lawful passes it, and so what holds of lawful nodes holds of those
-- that pass.
use Rattle.std.proofs.Common.{◌≡◌, ℕ, ◌<◌, ◌≤◌, Bool, true, false, ◌&&◌, List, [], ◌∷◌, ◌++◌, length, Ok}
use Rattle.std.specs.Prelude.{nat_lt}
use Rattle.std.proofs.lemmas.Bool.{ltb-true, lt-ltb, and_parts, and_from, false≢true}
use Rattle.terms.specs.Nodes.{node, Ordered}
use Rattle.terms.specs.declared.node.Node.{Node}
use Rattle.terms.specs.declared.node.Node.TheVariants.{Name, Env, Var, Pair, Seal}
use Rattle.terms.specs.declared.number.NodeNo.{NodeNo}
use Rattle.derivation.specs.Noted.{Held}
use Rattle.analysis.specs.Parts.{Parts}
use Rattle.notebook.specs.Calls.{Lawful, LawfulLists, Put}
use Rattle.notebook.specs.Limits.{most_nodes, most_notes, local_names, env_names}
use Rattle.pages.specs.Columns.{AllLawful}
use Rattle.pages.proofs.Rows.{lawful_ordered, none_lawful, push_lawful}
use Rattle.notebooks.specs.Numbers.{numbers}
use Rattle.notebooks.specs.Paging.{lists_lawful}
use Rattle.notebooks.proofs.Rows.{pair_below, seal_below, pair_held, seal_held, put_parts}

-- Lawful, as a test
abbrev pub lawful? : ℕ → Node → Bool
lawful? i (Name n) = nat_lt n.0 local_names
lawful? i (Env e) = nat_lt e.0 env_names
lawful? i (Var x) = false
lawful? i (Pair a b) = nat_lt a.0 i && nat_lt b.0 i
lawful? i (Seal b k) = nat_lt b.0 i && nat_lt k.0 i

-- each node passes the test at its place
abbrev pub AllTested : List Node → Type 0
AllTested ns = (i : ℕ) → i < length ns → lawful? i (node ns i) ≡ true

-- what passes the test is lawful
pub lawful_true : (i : ℕ) (n : Node) → lawful? i n ≡ true → Lawful i n
lawful_true i (Name n) e = ltb-true _ _ e
lawful_true i (Env n) e = ltb-true _ _ e
lawful_true i (Var n) e = absurd (false≢true e)
lawful_true i (Pair a b) e = let p = and_parts (nat_lt a.0 i) (nat_lt b.0 i) e in (ltb-true _ _ p.0, ltb-true _ _ p.1)
lawful_true i (Seal a b) e = let p = and_parts (nat_lt a.0 i) (nat_lt b.0 i) e in (ltb-true _ _ p.0, ltb-true _ _ p.1)

-- what is lawful passes the test
pub true_lawful : (i : ℕ) (n : Node) → Lawful i n → lawful? i n ≡ true
true_lawful i (Name n) l = lt-ltb _ _ l
true_lawful i (Env n) l = lt-ltb _ _ l
true_lawful i (Var n) l = absurd l
true_lawful i (Pair a b) l = and_from _ _ (lt-ltb _ _ l.0) (lt-ltb _ _ l.1)
true_lawful i (Seal a b) l = and_from _ _ (lt-ltb _ _ l.0) (lt-ltb _ _ l.1)

-- nodes that all pass the test are all lawful
pub tested_lawful : (ns : List Node) → AllTested ns → AllLawful ns
tested_lawful ns h i l = lawful_true i (node ns i) (h i l)

-- nodes that are all lawful all pass the test
pub lawful_tested : (ns : List Node) → AllLawful ns → AllTested ns
lawful_tested ns h i l = true_lawful i (node ns i) (h i l)

-- nodes that pass the test are in order
pub tested_ordered : (ns : List Node) → AllTested ns → Ordered ns
tested_ordered ns h = lawful_ordered ns (tested_lawful ns h)

-- no nodes: all pass the test
pub tested_none : (ns : List Node) → ns ≡ [] → AllTested ns
tested_none ns e = lawful_tested ns (none_lawful ns e)

-- with one lawful node more all pass the test
pub tested_push : (ns ms : List Node) (n : Node) → AllTested ns → Lawful (length ns) n → ms ≡ ns ++ (n ∷ []) → AllTested ms
tested_push ns ms n h l e = lawful_tested ms (push_lawful ns ms n (tested_lawful ns h) l e)

-- where nodes pass the test, the lists are lawful
pub tested_lists : (ns : List Node) (ps : List NodeNo) → AllTested ns → length ns ≤ most_nodes → length ps ≤ most_notes → Held ns (numbers ps) → LawfulLists ns (numbers ps)
tested_lists ns ps h = lists_lawful ns ps (tested_lawful ns h)

-- where nodes pass the test, the parts of a pair stand before it
pub tested_pair_below : (ns : List Node) → AllTested ns → (i : ℕ) (a b : NodeNo) → i < length ns → node ns i ≡ Pair a b → (a.0 < i) × (b.0 < i)
tested_pair_below ns h = pair_below ns (tested_lawful ns h)

-- where nodes pass the test, the parts of a seal stand before it
pub tested_seal_below : (ns : List Node) → AllTested ns → (i : ℕ) (a b : NodeNo) → i < length ns → node ns i ≡ Seal a b → (a.0 < i) × (b.0 < i)
tested_seal_below ns h = seal_below ns (tested_lawful ns h)

-- where nodes pass the test, the parts of a pair are held
pub tested_pair_held : (ns : List Node) → AllTested ns → (i : ℕ) (a b : NodeNo) → i < length ns → node ns i ≡ Pair a b → (a.0 < length ns) × (b.0 < length ns)
tested_pair_held ns h = pair_held ns (tested_lawful ns h)

-- where nodes pass the test, the parts of a seal are held
pub tested_seal_held : (ns : List Node) → AllTested ns → (i : ℕ) (a b : NodeNo) → i < length ns → node ns i ≡ Seal a b → (a.0 < length ns) × (b.0 < length ns)
tested_seal_held ns h = seal_held ns (tested_lawful ns h)

-- where nodes pass the test, the parts after one that is taken
pub tested_put_parts : (ns ms : List Node) (ys zs : List ℕ) (n : Node) (p : NodeNo) (known after : List Bool) → AllTested ns → Held ns ys → Put ns ys n (Ok p) ms zs → after ≡ known ++ (false ∷ []) → Parts ns ys known → Parts ms zs after
tested_put_parts ns ms ys zs n p known after h = put_parts ns ms ys zs n p known after (tested_lawful ns h)
