-- The parts into which listed terms come apart, as marks on first places, and what can be put together from them.
use Rattle.std.specs.Prelude.{◌≡◌, ℕ, ◌+◌, ◌<◌, Bool, true, false, cond, ◌&&◌, ◌||◌, List, [], ◌∷◌, length, Decides, slice_index, slice_index_or}
use Rattle.terms.specs.Terms.{Term, name, env, var, pair, seal}
use Rattle.terms.specs.Nodes.{term, Ordered}
use Rattle.terms.specs.declared.node.Node.{Node}
use Rattle.derivation.specs.Derive.{Derives}
use Rattle.derivation.specs.Noted.{Held, noted_terms}
use Rattle.analysis.specs.Places.{first}

-- whether a term is marked: its first place is
abbrev pub knows : List Node → List Bool → Term → Bool
knows ns known t = slice_index_or known (first ns t) false

-- whether a key is a name that is known: of the environment, or marked
abbrev pub opens : (Term → Bool) → Term → Bool
opens kn (name n) = kn (name n)
opens kn (env n) = true
opens kn (var x) = false
opens kn (pair a b) = false
opens kn (seal b k) = false

-- whether what a term comes apart into is known: both halves of a pair, the body of a seal under a known name
abbrev pub taken : (Term → Bool) → Term → Bool
taken kn (name n) = true
taken kn (env n) = true
taken kn (var x) = true
taken kn (pair a b) = kn a && kn b
taken kn (seal b k) = cond (opens kn k) (kn b) true

-- whether a term is a name
abbrev pub name? : Term → Bool
name? (name n) = true
name? (env n) = true
name? (var x) = false
name? (pair a b) = false
name? (seal b k) = false

-- whether a term is known or put together: a name of the environment, a pair, a seal under a name
abbrev pub composed : (Term → Bool) → Term → Bool
composed kn (name n) = kn (name n)
composed kn (env n) = true
composed kn (var x) = kn (var x)
composed kn (pair a b) = kn (pair a b) || (composed kn a && composed kn b)
composed kn (seal b k) = kn (seal b k) || (name? k && (composed kn b && composed kn k))

-- each marked term has what it comes apart into marked too
abbrev pub Shut : List Node → List Bool → Type 0
Shut ns known = (i : ℕ) → i < length ns → knows ns known (term ns i) ≡ true → taken (knows ns known) (term ns i) ≡ true

-- every mark of a is in b
abbrev pub Grows : List Bool → List Bool → Type 0
Grows a b = (i : ℕ) → slice_index_or a i false ≡ true → slice_index_or b i false ≡ true

-- the terms at the noted places are marked
abbrev pub Contains : List Node → List ℕ → List Bool → Type 0
Contains ns noted known = (k : ℕ) → k < length noted → knows ns known (term ns (slice_index noted k)) ≡ true

-- a marking that holds the noted terms and is shut
pub record Marking (ns : List Node) (noted : List ℕ) : Type 0 where
  pub marks : List Bool
  pub shut : Shut ns marks
  pub contains : Contains ns noted marks

-- nothing is marked but what every such marking marks
abbrev pub Least : List Node → List ℕ → List Bool → Type 0
Least ns noted known = (other : Marking ns noted) → Grows known other.marks

-- the marking is that of the parts of the noted terms
pub record Parts (ns : List Node) (noted : List ℕ) (known : List Bool) : Type 0 where
  pub size : length known ≡ length ns
  pub contains : Contains ns noted known
  pub shut : Shut ns known
  pub least : Least ns noted known

-- what is put together from the parts of the noted terms is just what is derived from the noted terms
abbrev pub Decided : Type 0
Decided = (ns : List Node) (noted : List ℕ) (known : List Bool) → Ordered ns → Held ns noted → Parts ns noted known → (t : Term) → Decides (composed (knows ns known) t) (Derives (noted_terms ns noted) t)

-- how many places are not marked
abbrev pub free : List Bool → ℕ
free [] = 0
free (true ∷ bs) = free bs
free (false ∷ bs) = 1 + free bs
