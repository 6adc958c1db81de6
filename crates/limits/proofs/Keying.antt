-- The sets of key variables of a table's terms.
use Rattle.std.proofs.lemmas.Bool.{false≢true}
use Rattle.std.proofs.Common.{Decides, ◌≡◌, ℕ, ◌+◌, ◌<◌, List, [], ◌∷◌, ◌++◌, length, Some, sym, refl, ap, ap₂, subst, ◌∙◌, inl, inr, ⊎_elim, arith}
use Rattle.std.proofs.lemmas.List.{length_push, get_or_append_left, get_or_push}
use native.Mathlib.Decide.{dec_lt}
use lib.Bits.{bit_or}
use Rattle.terms.specs.Terms.{Term, name, env, var, pair, seal, Atom}
use Rattle.terms.specs.Bits.{In, varset}
use Rattle.terms.specs.Nodes.{node, says, term, Below, Ordered}
use Rattle.terms.specs.Sets.{bits, Gathered}
use Rattle.terms.specs.declared.node.Node.{Node}
use Rattle.terms.specs.declared.node.Node.TheVariants.{Name, Env, Var, Pair, Seal}
use Rattle.terms.specs.declared.variables.VarSet.{VarSet}
use Rattle.terms.proofs.Bitsets.{in_or, or_in, not_in_zero, in_varset, varset_in}
use Rattle.terms.proofs.Unfolding.{unfolds}
use Rattle.limits.specs.Keys.{InKey, keyset, set_at, key_says, partless?}
use Rattle.limits.proofs.Subsets.{same_set}

-- the set has just the variables in keys
pub in_keyset : (x : ℕ) (t : Term) → In x (keyset t) → InKey x t
in_keyset x (name n) h = not_in_zero x h
in_keyset x (env n) h = not_in_zero x h
in_keyset x (var y) h = not_in_zero x h
in_keyset x (pair a b) h = ⊎_elim (λ p. inl (in_keyset x a p)) (λ p. inr (in_keyset x b p)) (in_or x (keyset a) (keyset b) h)
in_keyset x (seal b k) h = ⊎_elim (λ p. inl (in_keyset x b p)) (λ p. inr (in_varset x k p)) (in_or x (keyset b) (varset k) h)

pub keyset_in : (x : ℕ) (t : Term) → InKey x t → In x (keyset t)
keyset_in x (name n) h = absurd h
keyset_in x (env n) h = absurd h
keyset_in x (var y) h = absurd h
keyset_in x (pair a b) h = or_in x (keyset a) (keyset b) (⊎_elim (λ p. inl (keyset_in x a p)) (λ p. inr (keyset_in x b p)) h)
keyset_in x (seal b k) h = or_in x (keyset b) (varset k) (⊎_elim (λ p. inl (keyset_in x b p)) (λ p. inr (varset_in x k p)) h)

-- the variables that a table tells are the set of the term
pub gathered_set : (ns : List Node) (i : ℕ) (s : VarSet) → Gathered ns i (Some s) → bits s ≡ varset (term ns i)
gathered_set ns i s g =
    same_set (bits s) (varset (term ns i)) (λ x h. varset_in x (term ns i) ((g.1 x).0 h)) (λ x h. (g.1 x).1 (in_varset x (term ns i) h))

-- the set of the term that a node says
keyset_says : (f : ℕ → Term) (n : Node) → keyset (says f n) ≡ key_says (λ i. keyset (f i)) (λ i. varset (f i)) n
keyset_says f (Name n) = refl
keyset_says f (Env e) = refl
keyset_says f (Var x) = refl
keyset_says f (Pair a b) = refl
keyset_says f (Seal b k) = refl

key_same : (f g all : ℕ → ℕ) (k : ℕ) (n : Node) → Below k n → ((i : ℕ) → i < k → f i ≡ g i) → key_says f all n ≡ key_says g all n
key_same f g all k (Name n) b h = refl
key_same f g all k (Env e) b h = refl
key_same f g all k (Var x) b h = refl
key_same f g all k (Pair l r) b h = ap₂ bit_or (h l.0 b.0) (h r.0 b.1)
key_same f g all k (Seal l r) b h = ap (λ (m : ℕ). bit_or m (all r.0)) (h l.0 b.0)

-- the first k sets of the row are those of the first k terms
abbrev pub KeysTold : List Node → List VarSet → ℕ → Type 0
KeysTold ns sets k = (length sets ≡ k) × ((i : ℕ) → i < k → set_at sets i ≡ keyset (term ns i))

-- one more
pub keys_more : (ns : List Node) (sets sets' : List VarSet) (k : ℕ) (s : VarSet) → Ordered ns → k < length ns → KeysTold ns sets k → bits s ≡ key_says (set_at sets) (λ i. varset (term ns i)) (node ns k) → sets' ≡ sets ++ (s ∷ []) → KeysTold ns sets' (k + 1)
keys_more ns sets sets' k s o l (e, h) v q = (
  ap length q ∙ length_push sets s ∙ omega arith,
  λ i m. elim (dec_lt i k) [
    | yes g ↦ ap (λ (ws : List VarSet). set_at ws i) q ∙ ap bits (get_or_append_left sets (s ∷ []) (record { 0 = 0 }) i (omega arith)) ∙ h i g
    | no g ↦
        let here : i ≡ k = omega arith in
        ap (λ (ws : List VarSet). set_at ws i) q
        ∙ ap bits (get_or_push sets s (record { 0 = 0 }) i (omega arith))
        ∙ (v ∙ key_same (set_at sets) (λ j. keyset (term ns j)) (λ j. varset (term ns j)) k (node ns k) (o k l) h ∙ sym (ap keyset (unfolds ns o k l) ∙ keyset_says (term ns) (node ns k)))
        ∙ ap (λ (j : ℕ). keyset (term ns j)) (sym here)
  ],
)

says_atom : (f : ℕ → Term) (n : Node) → Decides (partless? n) (Atom (says f n))
says_atom f (Name n) = (λ e. tt, λ a. refl)
says_atom f (Env e) = (λ q. tt, λ a. refl)
says_atom f (Var x) = (λ e. tt, λ a. refl)
says_atom f (Pair a b) = (λ e. absurd (false≢true e), λ h. absurd h)
says_atom f (Seal b k) = (λ e. absurd (false≢true e), λ h. absurd h)

-- a node without parts is a name or a variable
pub atom_told : (ns : List Node) (i : ℕ) → Ordered ns → i < length ns → Decides (partless? (node ns i)) (Atom (term ns i))
atom_told ns i o l = subst (λ (t : Term). Decides (partless? (node ns i)) (Atom t)) (sym (unfolds ns o i l)) (says_atom (term ns) (node ns i))
