-- What the nodes of a table say: closed terms, so that the names alone are keys.
use Rattle.std.proofs.Common.{ℕ, zero, suc, ◌<◌, Bool, List, length, Decides, sym, subst, arith}
use Rattle.terms.specs.Terms.{Term, IsName, Atom, Closed}
use Rattle.terms.specs.Nodes.{node, says, term}
use Rattle.terms.specs.declared.node.Node.{Node}
use Rattle.terms.specs.declared.node.Node.TheVariants.{Name, Env, Var, Pair, Seal}
use Rattle.terms.proofs.Unfolding.{unfolds}
use Rattle.notebook.specs.Calls.{Lawful}
use Rattle.pages.specs.Columns.{AllLawful}
use Rattle.pages.proofs.Rows.{lawful_ordered}

closed_says : (f : ℕ → Term) (i : ℕ) (n : Node) → Lawful i n → ((j : ℕ) → j < i → Closed (f j)) → Closed (says f n)
closed_says f i (Name n) l h = tt
closed_says f i (Env e) l h = tt
closed_says f i (Var x) l h = absurd l
closed_says f i (Pair a b) l h = (h a.0 l.0, h b.0 l.1)
closed_says f i (Seal b k) l h = (h b.0 l.0, h k.0 l.1)

closed_below : (ns : List Node) → AllLawful ns → (n i : ℕ) → i < n → i < length ns → Closed (term ns i)
closed_below ns h zero i l m = absurd (omega (arith, l))
closed_below ns h (suc n) i l m =
    subst Closed (sym (unfolds ns (lawful_ordered ns h) i m)) (closed_says (term ns) i (node ns i) (h i m) (λ j k. closed_below ns h n j (omega (arith, l, k)) (omega (arith, k, m))))

-- the terms of lawful nodes are closed
pub terms_closed : (ns : List Node) → AllLawful ns → (i : ℕ) → i < length ns → Closed (term ns i)
terms_closed ns h i l = closed_below ns h (suc i) i (omega arith) l

atom_name : (t : Term) → Closed t → Atom t → IsName t
atom_name t c a = grind arith

name_atom : (t : Term) → IsName t → Atom t
name_atom t n = grind arith

-- of closed terms the names alone are atoms
pub key_told : (ns : List Node) → AllLawful ns → (i : ℕ) (r : Bool) → i < length ns → Decides r ((i < length ns) × IsName (term ns i)) → Decides r (Atom (term ns i))
key_told ns h i r l d = (λ y. name_atom _ (d.0 y).1, λ y. d.1 (l, atom_name _ (terms_closed ns h i l) y))
